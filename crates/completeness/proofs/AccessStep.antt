-- Where no local step is acceptable, the next access of the order is accepted by its rule and leads to a related state.
use Rattle.std.proofs.Common.{◌≡◌, ℕ, suc, ◌<◌, length, sym, ap, ◌∙◌, subst, inl, inr}
use Rattle.std.proofs.lemmas.Bool.{cases_Bool, or_cases, cond-true, cond-false, both_ways}
use Rattle.instructions.specs.Kinds.{loads, stores}
use Rattle.question.specs.Litmus.{Litmus}
use Rattle.witness.specs.Execution.{Execution, Within}
use Rattle.witness.specs.declared.record.Access.{Access}
use Rattle.ordering.specs.Rules.{gam}
use Rattle.checker.specs.Axioms.{Axioms}
use Rattle.checker.specs.Terms as terms
use Rattle.checker.specs.Tests.{ordered}
use Rattle.checker_laws.proofs.Ranks.{ordered_access, rank_ordered}
use Rattle.machine.specs.Fires.{instruction, step, Fires}
use Rattle.machine.specs.State.{State}
use Rattle.machine_laws.proofs.FiresGo.{fires_go}
use Rattle.reachable.specs.Checked.{Checked}
use Rattle.completeness.specs.Rebuilds.{Leads, Carries}
use Rattle.completeness.specs.StepsFor.{access_rule, access_step}
use Rattle.completeness.proofs.Related.{Related}
use Rattle.completeness.proofs.Values.{same_instruction}
use Rattle.completeness.proofs.Saturation.{Still}
use Rattle.completeness.proofs.StoreStep.{store_goes}
use Rattle.completeness.proofs.LoadStep.{load_goes}

-- The access is carried out by its step, removing nothing, and one access more of the order is done.
pub record Carried (q : Litmus) (w : Execution) (t : ℕ) (s : State) (a : Access) : Type 0 where
  pub state : State
  pub leads : Leads q s (access_step s a) state
  pub carries : Carries s a (access_step s a)
  pub related : Related q w (suc t) state

module _ (q : Litmus) (checked : Checked q) (w : Execution) (bounds : Within w) (A : Axioms gam q w) (t : ℕ) (s : State) (R : Related q w t s) (still : Still q s) (l : t < length w.order) where
  -- The next access.
  abbrev next : Access
  next = ordered q w t

  -- By the rule that its instruction asks for.
  by_step : (rule : ℕ) → access_rule (instruction s next.processor next.position) ≡ rule → Carries s next (step rule next.processor next.position 0) →
      (u : State) × Fires q s (step rule next.processor next.position 0) 0 u × Related q w (suc t) u → Carried q w t s next
  by_step rule e c (u, f, related) = record {
    state = u;
    leads = subst (λ r. Leads q s (step r next.processor next.position 0) u) (sym e) (fires_go q s (step rule next.processor next.position 0) 0 u f);
    carries = subst (λ r. Carries s next (step r next.processor next.position 0)) (sym e) c;
    related = related;
  }

  same : instruction s next.processor next.position ≡ terms.instruction q w next.processor next.position
  same = same_instruction q w t s R next.processor next.position

  -- The next access is carried out.
  pub access_goes : Carried q w t s next
  access_goes =
      let here = ordered_access q w A.order t l in
      let now = rank_ordered q w A.order t l in
      elim (cases_Bool (loads (instruction s next.processor next.position))) [
        | inl h ↦ by_step 5 (cond-true (loads (instruction s next.processor next.position)) 5 7 h) (Carries.load h)
            (load_goes q checked w bounds A t s R still next.processor next.position here.0 (ap loads (sym same) ∙ h) now)
        | inr h ↦ elim (or_cases (loads (terms.instruction q w next.processor next.position)) (stores (terms.instruction q w next.processor next.position)) here.1) [
          | inl ld ↦ absurd (both_ways (loads (instruction s next.processor next.position)) h (ap loads same ∙ ld))
          | inr st ↦ by_step 7 (cond-false (loads (instruction s next.processor next.position)) 5 7 h) (Carries.store (ap stores same ∙ st))
              (store_goes q checked w A t s R still next.processor next.position here.0 st now)
        ]
      ]
