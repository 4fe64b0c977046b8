-- Which of its five fields each kind of instruction uses.
use Rattle.std.specs.Prelude.{ℕ, ◌-◌, Bool, true, false, List, [], ◌∷◌, slice_index_or}
use Rattle.question.specs.declared.table.Row.{Row}

-- A row: whether d, s1, s2, k and j are used.
abbrev row : Bool → Bool → Bool → Bool → Bool → Row
row d s1 s2 k j = record { d = d; s1 = s1; s2 = s2; k = k; j = j }

-- A row for each kind: 1 add, 2 subtract, 3 load, 4 store, 5 branch, 6 fence.
abbrev pub rows : List Row
rows =
    row true true true true false
    ∷ row true true true true false
    ∷ row true true false true false
    ∷ row false true true true true
    ∷ row false true false true true
    ∷ row false false false true false
    ∷ []

-- The row of a kind.
abbrev pub row_of : ℕ → Row
row_of kind = slice_index_or rows (kind - 1) (row false false false false false)
