-- The witness of a finished run satisfies Order.
use Rattle.std.proofs.Common.{◌≡◌, ℕ, ◌<◌, true, length, sym, ap, ◌∙◌, subst, inl, inr, arith}
use Rattle.std.proofs.lemmas.Bool.{cases_order}
use Rattle.instructions.specs.Kinds.{access}
use Rattle.machine.specs.Fires.{buffer}
use Rattle.machine.specs.Results.{closed, witness_of_state}
use Rattle.machine.specs.State.{State}
use Rattle.question.specs.Litmus.{Litmus}
use Rattle.witness.specs.Execution.{Execution}
use Rattle.witness.specs.declared.record.Access.{Access}
use Rattle.checker.specs.Axioms.{Order}
use Rattle.checker.specs.Terms.{access_at, AccessAt, Stands}
use Rattle.reachable.specs.Invariant.{Invariant}
use Rattle.reachable.specs.Order.{event_at, DoneAccess}
use Rattle.soundness.proofs.WitnessEvents.{event_instruction}
use Rattle.soundness.proofs.WitnessRows.{path_length}
use Rattle.soundness.proofs.WitnessPath.{all_done}

module _ (q : Litmus) (s : State) (inv : Invariant q s) (finished : (closed q s).finished ≡ true) where
  abbrev w : Execution
  w = witness_of_state s

  -- An access of the paths is a done access, and the other way round.
  pub access_done : (p i : ℕ) → AccessAt q w p i → DoneAccess s p i
  access_done p i a =
      let l : i < length (buffer s p) = omega (arith, path_length q s inv p, a.0) in
      record { stands = l; accesses = ap access (sym (event_instruction q s inv (all_done q s inv finished) p i l)) ∙ a.1; done = all_done q s inv finished p i l }

  pub done_access : (p i : ℕ) → DoneAccess s p i → AccessAt q w p i
  done_access p i d = (omega (arith, path_length q s inv p, d.stands), ap access (event_instruction q s inv (all_done q s inv finished) p i d.stands) ∙ d.accesses)

  -- No access stands twice.
  pub one_number : (a : Access) (k m : ℕ) → Stands s.order k a → Stands s.order m a → k ≡ m
  one_number a k m x y = elim (cases_order k m) [
    | inl e ↦ e
    | inr (inl l) ↦ absurd (inv.listed.once k m l y.0 (x.1 ∙ sym y.1))
    | inr (inr l) ↦ absurd (inv.listed.once m k l x.0 (y.1 ∙ sym x.1))
  ]

  pub order_holds : Order q w
  order_holds = record {
    once = λ p i a. (let (k, l, e) = inv.listed.each_done p i (access_done p i a) in
        record { number = k; stands = (l, e); only_there = λ m x. one_number (access_at p i) m k x (l, e) });
    nothing_else = λ k a x. subst (λ (b : Access). AccessAt q w b.processor b.position) x.1
        (done_access (event_at s.order k).processor (event_at s.order k).position (inv.listed.only_done k x.0));
  }
