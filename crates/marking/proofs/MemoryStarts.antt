-- Whatever a memory held, sixteen writes leave the start cells.
use Rattle.std.proofs.Common.{◌≡◌, ℕ, zero, suc, ◌≤◌, List, map, length, subst, add-one, arith}
use Rattle.std.proofs.lemmas.List.{length-set}
use Rattle.memory.specs.declared.cell.Cell.{Cell}
use Rattle.machine.specs.State.{started, start_cell}
use Rattle.machine.proofs.StartCells.{Started, started_more, started_all}
use Rattle.question.specs.Litmus.{Litmus}
use Rattle.reachable.specs.Checked.{Checked}
use Rattle.marking.specs.Promise.{start_over, started_over}

module _ (start : List ℕ) (cells : List Cell) (sixteen : length cells ≡ 16) where
  -- There are sixteen cells throughout.
  still_sixteen : (n : ℕ) → length (start_over start cells n) ≡ 16
  unfolding start_over
  still_sixteen zero = sixteen
  still_sixteen (suc n) = simp length-set (still_sixteen n)

  -- After n writes the first n cells are those of the start.
  started_so_far : (n : ℕ) → n ≤ 16 → Started (start_over start cells n) start n
  unfolding start_over
  started_so_far zero l = λ k m. absurd (omega arith)
  started_so_far (suc n) l =
      subst (λ m. Started (start_over start cells (suc n)) start m) (add-one n)
      (started_more (start_over start cells n) start n (still_sixteen n) (omega arith) (started_so_far n (omega arith)))

  -- After sixteen all are.
  all_started : length start ≡ 16 → start_over start cells 16 ≡ map start_cell start
  all_started e = started_all (start_over start cells 16) start (still_sixteen 16) e (started_so_far 16 (omega arith))

-- Over every memory a run starts in the same state.
pub starts_alike : (q : Litmus) → Checked q → (cells : List Cell) → length cells ≡ 16 → started_over q cells ≡ started q
starts_alike q checked cells e = λ i. record { cores = (started q).cores; order = (started q).order; cells = all_started q.start cells e checked.sixteen i }
