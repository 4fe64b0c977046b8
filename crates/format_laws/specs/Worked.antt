-- Questions and witnesses worked through by hand, as statements about the readers.
use Rattle.std.specs.Prelude.{◌≡◌, ℕ, List, [], ◌∷◌, ◌++◌, map, replicate, Ok, Err, Result}
use Rattle.std.specs.List.{flat_map, AllByRecursion}
use Rattle.fields.specs.declared.refusal.Refusal.{Refusal}
use Rattle.fields.specs.Refusals.{refusal_number}
use Rattle.question.specs.Read.{question_of}
use Rattle.witness.specs.Read.{witness_of}

-- Some bytes, and the number of their refusal, or 0 where they are read.
pub record Row : Type 0 where
  pub bytes : List ℕ
  pub expected : ℕ

-- A row.
abbrev row : List ℕ → ℕ → Row
row bytes expected = record { bytes = bytes; expected = expected }

-- 0 for a value, otherwise the number of the refusal.
abbrev pub outcome : {A : Type 0} → Result A Refusal → ℕ
outcome (Ok a) = 0
outcome (Err e) = refusal_number e

-- What reading a row's bytes as a question gives.
abbrev pub question_found : Row → ℕ
question_found r = outcome (question_of r.bytes)

-- What reading a row's bytes as a witness gives.
abbrev pub witness_found : Row → ℕ
witness_found r = outcome (witness_of r.bytes)

-- Some bytes, n times.
abbrev times : ℕ → List ℕ → List ℕ
times n b = flat_map (λ x. x) (replicate n b)

-- A processor field without instructions.
abbrev idle : List ℕ
idle = 80 ∷ 0 ∷ 0 ∷ []

-- A fence from loads to loads.
abbrev fence : List ℕ
fence = 6 ∷ 255 ∷ 255 ∷ 255 ∷ 0 ∷ 0 ∷ 0 ∷ 0 ∷ []

-- The tags, their order and number, and the ends of fields.
abbrev question_frames : List Row
question_frames =
    -- nothing at all
    row [] 2
    -- a header cut short
    ∷ row (80 ∷ 0 ∷ []) 1
    -- an unknown tag whose field runs past the input
    ∷ row (81 ∷ 0 ∷ 1 ∷ []) 1
    -- an unknown tag with a whole field
    ∷ row (81 ∷ 0 ∷ 0 ∷ []) 2
    -- one processor without instructions
    ∷ row idle 0
    -- four processors
    ∷ row (times 4 idle) 0
    -- a fifth processor field
    ∷ row (times 5 idle) 2
    -- a second cell field
    ∷ row (73 ∷ 0 ∷ 0 ∷ 73 ∷ 0 ∷ 0 ∷ idle) 2
    -- a cell field after a processor field
    ∷ row (80 ∷ 0 ∷ 0 ∷ 73 ∷ 0 ∷ 0 ∷ []) 2
    ∷ []

-- The contents of cell fields and of processor fields.
abbrev question_contents : List Row
question_contents =
    -- a cell field of two bytes
    row (73 ∷ 0 ∷ 2 ∷ 0 ∷ 0 ∷ idle) 3
    -- the address 16
    ∷ row (73 ∷ 0 ∷ 3 ∷ 16 ∷ 0 ∷ 0 ∷ idle) 4
    -- the address 1 after the address 0
    ∷ row (73 ∷ 0 ∷ 6 ∷ 0 ∷ 0 ∷ 5 ∷ 1 ∷ 0 ∷ 6 ∷ idle) 0
    -- the address 1 after the address 1
    ∷ row (73 ∷ 0 ∷ 6 ∷ 1 ∷ 0 ∷ 5 ∷ 1 ∷ 0 ∷ 6 ∷ idle) 4
    -- sixteen instructions
    ∷ row (80 ∷ 0 ∷ 128 ∷ times 16 fence) 0
    -- seventeen instructions
    ∷ row (80 ∷ 0 ∷ 136 ∷ times 17 fence) 3
    -- the kind 7
    ∷ row (80 ∷ 0 ∷ 8 ∷ 7 ∷ 255 ∷ 255 ∷ 255 ∷ 0 ∷ 0 ∷ 0 ∷ 0 ∷ []) 5
    -- a branch to the end
    ∷ row (80 ∷ 0 ∷ 8 ∷ 5 ∷ 255 ∷ 255 ∷ 255 ∷ 0 ∷ 0 ∷ 0 ∷ 1 ∷ []) 0
    -- a branch past the end
    ∷ row (80 ∷ 0 ∷ 8 ∷ 5 ∷ 255 ∷ 255 ∷ 255 ∷ 0 ∷ 0 ∷ 0 ∷ 2 ∷ []) 6
    -- a branch past the end from a register that does not exist
    ∷ row (80 ∷ 0 ∷ 8 ∷ 5 ∷ 255 ∷ 8 ∷ 255 ∷ 0 ∷ 0 ∷ 0 ∷ 2 ∷ []) 5
    ∷ []

-- Questions and what comes of them.
abbrev pub questions : List Row
questions = question_frames ++ question_contents

-- A source field and an order field, both empty.
abbrev rest : List ℕ
rest = 82 ∷ 0 ∷ 0 ∷ 77 ∷ 0 ∷ 0 ∷ []

-- Witnesses and what comes of them.
abbrev pub witnesses : List Row
witnesses =
    -- one empty path, no sources, no order
    row (69 ∷ 0 ∷ 0 ∷ 82 ∷ 0 ∷ 0 ∷ 77 ∷ 0 ∷ 0 ∷ []) 0
    -- no path
    ∷ row rest 2
    -- a fifth path
    ∷ row (times 5 (69 ∷ 0 ∷ 0 ∷ []) ++ rest) 2
    -- no order
    ∷ row (69 ∷ 0 ∷ 0 ∷ 82 ∷ 0 ∷ 0 ∷ []) 2
    -- the order before the sources
    ∷ row (69 ∷ 0 ∷ 0 ∷ 77 ∷ 0 ∷ 0 ∷ 82 ∷ 0 ∷ 0 ∷ []) 2
    -- a field behind the last
    ∷ row (69 ∷ 0 ∷ 0 ∷ (rest ++ 77 ∷ 0 ∷ 0 ∷ [])) 2
    -- a path of sixteen places
    ∷ row (69 ∷ 0 ∷ 16 ∷ (replicate 16 0 ++ rest)) 0
    -- a path of seventeen places
    ∷ row (69 ∷ 0 ∷ 17 ∷ (replicate 17 0 ++ rest)) 3
    -- sources of three bytes
    ∷ row (69 ∷ 0 ∷ 0 ∷ 82 ∷ 0 ∷ 3 ∷ 0 ∷ 0 ∷ 0 ∷ 77 ∷ 0 ∷ 0 ∷ []) 3
    -- a header cut short
    ∷ row (69 ∷ 0 ∷ []) 1
    ∷ []

-- Every row gives what is expected of it.
abbrev pub ComesOut : (Row → ℕ) → List Row → Type 0
ComesOut found rows = map found rows ≡ map (λ r. r.expected) rows

-- The same, row by row.
abbrev pub EachComesOut : (Row → ℕ) → List Row → Type 0
EachComesOut found rows = AllByRecursion (λ r. found r ≡ r.expected) rows
