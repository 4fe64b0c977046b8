-- Records from their bytes, and their bytes from them.
use Rattle.std.specs.Prelude.{◌&&◌, ℕ, cond, List, [], ◌∷◌, Some, None, Option, ◌==◌, slice_index}
use Rattle.fields.specs.Fields.{word, word_bytes}
use Rattle.witness.specs.declared.record.Access.{Access}
use Rattle.witness.specs.declared.record.Source.{Source}

-- The four bytes of a source: processor, position, value.
abbrev pub source_bytes : Source → List ℕ
source_bytes s = s.processor ∷ s.position ∷ word_bytes s.value

-- The two bytes of an access: processor, position.
abbrev pub access_bytes : Access → List ℕ
access_bytes a = a.processor ∷ a.position ∷ []

-- The source that four bytes state.
abbrev pub source_of : List ℕ → Source
source_of b = record { processor = slice_index b 0; position = slice_index b 1; value = word (slice_index b 2) (slice_index b 3) }

-- The access that two bytes state.
abbrev pub access_of : List ℕ → Access
access_of b = record { processor = slice_index b 0; position = slice_index b 1 }

-- The sources in bytes of whole records.
unfoldable pub sources_from : List ℕ → List Source
sources_from [] = []
sources_from (p ∷ []) = []
sources_from (p ∷ i ∷ []) = []
sources_from (p ∷ i ∷ high ∷ []) = []
sources_from (p ∷ i ∷ high ∷ low ∷ b) = record { processor = p; position = i; value = word high low } ∷ sources_from b

-- The accesses in bytes of whole records.
unfoldable pub accesses_from : List ℕ → List Access
accesses_from [] = []
accesses_from (p ∷ []) = []
accesses_from (p ∷ i ∷ b) = record { processor = p; position = i } ∷ accesses_from b

-- The store that a source record names; none where it names the start.
abbrev pub named_store : Source → Option Access
named_store s = cond (s.processor == 255 && s.position == 255) None (Some (record { processor = s.processor; position = s.position }))
