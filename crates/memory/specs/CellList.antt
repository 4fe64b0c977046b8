-- A memory as the list of the cells once written.
use Rattle.std.specs.Prelude.{◌≡◌, ℕ, ◌<◌, Bool, true, false, cond, not, ◌&&◌, ◌||◌, List, [], ◌∷◌, map, length, take, ◌==◌, nat_lt, slice_index_or}
use Rattle.std.specs.List.{range_with_len}
use Rattle.memory.specs.declared.cell.Cell.{Cell}
use Rattle.memory.specs.declared.cell_list.Row.{Row}
use Rattle.memory.specs.Cells.{zero_cell}

-- Whether a row has the address.
abbrev pub has : List Row → ℕ → Bool
has [] a = false
has (r ∷ rs) a = r.address == a || has rs a

-- Each address is below sixteen and stands once.
abbrev pub once : List Row → Bool
once [] = true
once (r ∷ rs) = not (has rs r.address) && (nat_lt r.address 16 && once rs)

-- The cell at an address; 0 from the start where none was written.
abbrev pub find : List Row → ℕ → Cell
find [] a = zero_cell
find (r ∷ rs) a = cond (r.address == a) r.cell (find rs a)

-- The sixteen cells of the rows.
unfoldable pub cells_of : List Row → List Cell
cells_of rs = map (find rs) (range_with_len 0 16)

-- The rows after a write: the row of the address replaced in place, or a new one behind the others.
abbrev pub put : List Row → ℕ → Cell → List Row
put [] a c = record { address = a; cell = c } ∷ []
put (r ∷ rs) a c = cond (r.address == a) (record { address = a; cell = c } ∷ rs) (r ∷ put rs a c)

-- A row past the end: never seen.
abbrev pub blank_row : Row
blank_row = record { address = 0; cell = zero_cell }

-- The row at i is the first that has the address.
pub record Placed (rs : List Row) (a i : ℕ) : Type 0 where
  pub within : i < length rs
  pub before : has (take i rs) a ≡ false
  pub here : (slice_index_or rs i blank_row).address ≡ a
