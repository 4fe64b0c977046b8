-- Where all accesses of the order are done and no local step is acceptable, every entry is done.
use Rattle.std.proofs.Common.{◌≡◌, ℕ, ◌<◌, true, length, inl, inr, arith}
use Rattle.instructions.specs.Kinds.{access}
use Rattle.question.specs.Litmus.{Litmus}
use Rattle.witness.specs.Execution.{Execution}
use Rattle.events.specs.Sources.{path_at, events}
use Rattle.ordering.specs.Rules.{gam, instruction_of, cell_of}
use Rattle.checker.specs.Axioms.{Axioms}
use Rattle.checker.specs.Terms as terms
use Rattle.checker_laws.proofs.Closed.{closure_forward}
use Rattle.checker_laws.proofs.Earlier.{gam_earlier}
use Rattle.checker_laws.proofs.Ranks.{rank_stands}
use Rattle.machine.specs.Fires.{buffer, entry}
use Rattle.machine.specs.State.{State}
use Rattle.completeness.proofs.KindFacts.{each_kind}
use Rattle.completeness.proofs.Related.{Related}
use Rattle.completeness.proofs.Saturation.{Still, settled}

module _ (q : Litmus) (w : Execution) (A : Axioms gam q w) (s : State) (R : Related q w (length w.order) s) (still : Still q s) (p i : ℕ) where
  -- Every access is done.
  access_done : (j : ℕ) → j < length (path_at w p) → access (terms.instruction q w p j) ≡ true → (entry s p j).done ≡ true
  access_done j l a = (R.done_is p j (l, a)).1 (rank_stands q w A.order p j (l, a)).0

  -- Every entry is done.
  pub all_done : i < length (buffer s p) → (entry s p i).done ≡ true
  all_done b =
      let l : i < length (path_at w p) = omega (arith, R.whole p) in
      let x = settled q w (length w.order) s R still p i l (λ j c a.
      let h : j < i = closure_forward (gam_earlier (instruction_of (events q w p)) (cell_of (events q w p))) j i c in access_done j (omega arith) a) in
      elim (each_kind (terms.instruction q w p i)) [
        | inl h ↦ access_done i l h
        | inr (inl h) ↦ x.computed h
        | inr (inr (inl h)) ↦ x.branched h
        | inr (inr (inr h)) ↦ x.fenced h
      ]
