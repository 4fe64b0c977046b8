-- A branch to itself that is always taken never finishes: its done entry leads to place 0, and the counter would have to be 1.
use Rattle.std.proofs.Common.{◌≡◌, ℕ, zero, suc, ◌-◌, ◌<◌, ◌≤◌, true, List, length, None, Option, refl, ap, ◌∙◌, ap₂, inl, inr, arith}
use Rattle.std.proofs.lemmas.Bool.{cases_lt}
use Rattle.instructions.specs.Effects.{next_place}
use Rattle.instructions.specs.Kinds.{first_operand}
use Rattle.machine.specs.Fires.{buffer, entry, instruction, Ready}
use Rattle.machine.specs.Results.{closed}
use Rattle.machine.specs.State.{State}
use Rattle.question.specs.Litmus.{Litmus, code_at, instruction_at}
use Rattle.question.specs.Sound.{code_sound}
use Rattle.checker_laws.proofs.Bounds.{not_passing}
use Rattle.reachable.specs.Checked.{Checked}
use Rattle.reachable.specs.Invariant.{Invariant}
use Rattle.reachable.proofs.Ends.{finished_runs_are_done}
use Rattle.reachable.proofs.Facts.{next_is_counter, empty_at_zero}
use Rattle.reachable.proofs.Runs.{every_reachable_state_keeps_the_invariant}
use Rattle.soundness.specs.Laws.{reached, branch_to_itself, BranchToItselfNeverFinishes}

-- An absent operand is 0.
absent_zero : (s : State) (p i : ℕ) {o : Option ℕ} {v : ℕ} → Ready s p i o v → o ≡ None → v ≡ 0
absent_zero s p i Ready.absent h = refl
absent_zero s p i (Ready.unwritten r k) h = absurd (let z : ◌≡◌ {A = ℕ} 0 1 = cc in omega arith)
absent_zero s p i (Ready.from_writer r j b w k d) h = absurd (let z : ◌≡◌ {A = ℕ} 0 1 = cc in omega arith)

module _ (start : List ℕ) where
  abbrev q : Litmus
  q = branch_to_itself start

  short : (p : ℕ) → length (code_at q p) ≤ 16
  short zero = omega arith
  short (suc p) = omega arith

  sound : (p : ℕ) → code_sound (code_at q p) ≡ true
  unfolding code_sound
  sound zero = refl
  sound (suc p) = refl

  looping_checked : length start ≡ 16 → Checked q
  looping_checked h = record { sixteen = h; some = omega arith; few = omega arith; short = short; sound = sound }

  module _ (s : State) (inv : Invariant q s) (finished : (closed q s).finished ≡ true) where
    -- Every entry leads to place 0.
    back_to_zero : (i : ℕ) → i < length (buffer s 0) → (entry s 0 i).next ≡ 0
    back_to_zero i l =
        let kept = inv.entries 0 i l in
        let worked = (kept.finished ((finished_runs_are_done q s inv finished 0).1 i l)).worked_out in
        let in_place : (entry s 0 i).place < 1 = kept.in_code.within in
        let place : (entry s 0 i).place ≡ 0 = omega arith in
        let ins : instruction s 0 i ≡ instruction_at (code_at q 0) 0 = kept.in_code.there ∙ ap (instruction_at (code_at q 0)) place in
        let first : worked.first ≡ 0 = absent_zero s 0 i worked.first_ready (ap first_operand ins) in
        worked.next ∙ ap₂ (λ n x. next_place (instruction s 0 i) n x) place first ∙ ap (λ c. next_place c 0 0) ins

    not_finished : ⊥
    not_finished =
        let end = (finished_runs_are_done q s inv finished 0).0 in
        elim (cases_lt 0 (length (buffer s 0))) [
          | inl l ↦ (let i : ℕ = length (buffer s 0) - 1 in
              let b : i < length (buffer s 0) = omega arith in
              let c : (entry s 0 i).next ≡ 0 = back_to_zero i b in
              omega (arith, end, next_is_counter q s inv 0 i (omega arith)))
          | inr l ↦ omega (arith, end, empty_at_zero q s inv 0 (omega arith))
        ]

pub branch_to_itself_never_finishes : BranchToItselfNeverFinishes
branch_to_itself_never_finishes start h steps =
    not_passing (closed (branch_to_itself start) (reached (branch_to_itself start) steps)).finished (λ f.
    not_finished start (reached (branch_to_itself start) steps) (every_reachable_state_keeps_the_invariant (branch_to_itself start) (looping_checked start h) steps) f)
