-- What the types of the code stand for.
use Rattle.std.specs.Prelude.{ℕ, List, [], map, Ok, Err, Result}
use Rattle.bounded.specs.Items.{items}
use Rattle.std.specs.Option.{option_map}
use Rattle.fields.specs.declared.refusal.Refusal.{Refusal}
use Rattle.fields.specs.Fields.{Cut}
use Rattle.witness.specs.declared.draft.Draft.{Draft as Held}
use Rattle.witness.specs.declared.field.Field.{Field}
use Rattle.witness.specs.declared.field.Field.TheVariants.{Path, Source, Order}
use Rattle.witness.specs.declared.witness.Witness.{Witness}
use Rattle.witness.specs.Bytes.{path_tag, source_tag, order_tag}
use Rattle.witness.specs.Execution.{Execution}
use Rattle.witness.specs.Read.{Draft}

-- The execution that a witness states.
abbrev pub execution_of : Witness → Execution
execution_of w = record { paths = map items (items w.paths); sources = items w.sources; order = items w.order }

-- What a draft knows of the fields so far.
abbrev pub draft_of : Held → Draft
draft_of d = record { paths = map items (items d.paths); sources = option_map items d.sources; order = option_map items d.order }

-- What a path field with these contents is, for its tests.
abbrev pub path_cut : List ℕ → Cut
path_cut b = record { tag = path_tag; contents = b; rest = [] }

-- What a source field with these contents is, for its tests.
abbrev pub source_cut : List ℕ → Cut
source_cut b = record { tag = source_tag; contents = b; rest = [] }

-- What an order field with these contents is, for its tests.
abbrev pub order_cut : List ℕ → Cut
order_cut b = record { tag = order_tag; contents = b; rest = [] }

-- A field as its tag and contents, with the bytes behind it.
abbrev pub cut_of : Field → List ℕ → Cut
cut_of (Path contents) rest = record { tag = path_tag; contents = contents.now; rest = rest }
cut_of (Source contents) rest = record { tag = source_tag; contents = contents.now; rest = rest }
cut_of (Order contents) rest = record { tag = order_tag; contents = contents.now; rest = rest }

-- A field that was told by its tag, with the bytes behind it.
abbrev pub field_known : Result Field Refusal → List ℕ → Result Cut Refusal
field_known (Ok f) rest = Ok (cut_of f rest)
field_known (Err e) rest = Err e
