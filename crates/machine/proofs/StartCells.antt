-- The sixteen start cells, written one after the other over whatever was there.
use Rattle.std.proofs.Common.{◌≡◌, ℕ, ◌+◌, ◌%◌, ◌<◌, List, map, length, get_or, sym, ap, ◌∙◌, inl, inr, arith}
use Rattle.std.proofs.lemmas.List.{length-map, get_or-map, get_or-set_same, get_or-set_other, ext_get_or}
use Rattle.std.proofs.lemmas.Bool.{cases_eq}
use Rattle.memory.specs.Cells.{zero_cell, written}
use Rattle.memory.specs.declared.cell.Cell.{Cell}
use Rattle.machine.specs.State.{start_cell}

-- The first i cells are those of the start.
abbrev pub Started : List Cell → List ℕ → ℕ → Type 0
Started cells start i = (k : ℕ) → k < i → get_or cells k zero_cell ≡ start_cell (get_or start k 0)

pub started_more : (cells : List Cell) (start : List ℕ) (i : ℕ) → length cells ≡ 16 → i < 16 → Started cells start i → Started (written cells i (start_cell (get_or start i 0))) start (i + 1)
started_more cells start i e l h k m = elim (cases_eq k (i % 16)) [
  | inl q ↦ (let w : k < length cells = omega arith in rw (sym q, get_or-set_same cells k (start_cell (get_or start i 0)) zero_cell w) (ap (λ j. start_cell (get_or start j 0)) (omega arith)))
  | inr q ↦ rw (get_or-set_other cells (i % 16) k (start_cell (get_or start i 0)) zero_cell q) (h k (omega arith))
]

pub started_all : (cells : List Cell) (start : List ℕ) → length cells ≡ 16 → length start ≡ 16 → Started cells start 16 → cells ≡ map start_cell start
started_all cells start e f h =
    ext_get_or zero_cell cells (map start_cell start) (e ∙ sym (length-map start start_cell ∙ f))
    (λ k l. h k (omega arith) ∙ sym (get_or-map start_cell start k 0 zero_cell (omega arith)))
