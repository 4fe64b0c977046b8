-- The sixteen cells of a list of rows: each is the one found, and a write changes one. Rests on: what a write leaves (Rows).
use Rattle.std.specs.Prelude.{◌≡◌, ℕ, ◌<◌, List, [], length, replicate, slice_index_or, slice_set, refl}
use Rattle.std.proofs.Common.{sym, ◌∙◌, inl, inr, arith}
use Rattle.std.proofs.lemmas.List.{ext_get_or, get_or-set_same, get_or-set_other, length-set}
use Rattle.std.proofs.lemmas.List.FromFn.{get_or-map-range_with_len}
use Rattle.std.proofs.lemmas.Bool.{eq-eqb, ne_eqb, cases_eq}
use Rattle.memory.specs.declared.cell.Cell.{Cell}
use Rattle.memory.specs.declared.cell_list.Row.{Row}
use Rattle.memory.specs.Cells.{zero_cell}
use Rattle.memory.specs.CellList.{find, put, cells_of}
use Rattle.memory.specs.Rows.{find_put}

-- There are sixteen.
pub cells_length : (rs : List Row) → length (cells_of rs) ≡ 16
unfolding cells_of
cells_length rs = refl

-- Without rows every cell is 0 from the start.
pub cells_without_rows : cells_of [] ≡ replicate 16 zero_cell
unfolding cells_of
cells_without_rows = refl

-- The cell at an address is the one found.
pub cells_at : (rs : List Row) (a : ℕ) (d : Cell) → a < 16 → slice_index_or (cells_of rs) a d ≡ find rs a
unfolding cells_of
cells_at rs a d h = get_or-map-range_with_len (find rs) 0 16 a a d h (omega arith)

-- A write to the rows is a write to one of the cells.
pub cells_put : (rs : List Row) (a : ℕ) (c : Cell) → a < 16 → cells_of (put rs a c) ≡ slice_set (cells_of rs) a c
cells_put rs a c l =
    let ps = put rs a c in
    ext_get_or zero_cell _ _ (cells_length ps ∙ sym (length-set (cells_of rs) a c ∙ cells_length rs)) (λ i m.
    let k : i < 16 = omega (arith, cells_length ps) in
    cells_at ps i zero_cell k ∙ find_put rs a i c ∙ elim (cases_eq a i) [
      | inl p ↦ (let j : i < length (cells_of rs) = omega (arith, cells_length rs) in rw (eq-eqb a i p, p, get_or-set_same))
      | inr p ↦ (rw (ne_eqb a i p) (sym (get_or-set_other (cells_of rs) a i c zero_cell (λ q. p (sym q)) ∙ cells_at rs i zero_cell k)))
    ])
