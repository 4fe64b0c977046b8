-- A step is refused exactly for its first cause.
use Rattle.std.proofs.Common.{◌≡◌, ◌<◌, Bool, true, false, cond, ltb, ◌≢◌, length, Some, None, Option, refl, ap, subst, arith}
use Rattle.std.proofs.lemmas.Bool.{ltb-true, ltb-false}
use Rattle.fields.specs.declared.refusal.Refusal.TheVariants.{RuleOrProcessorAbsent}
use Rattle.question.specs.Litmus.{Litmus}
use Rattle.rules.specs.Rules.{rule_of}
use Rattle.rules.specs.declared.rule.Rule.{Rule}
use Rattle.rules.specs.declared.rule.Rule.TheVariants as rule
use Rattle.machine.specs.declared.step.Step.{Step}
use Rattle.machine.specs.State.{State}
use Rattle.machine.specs.Steps.{refused, by_rule, numbered, step_outcome}
use Rattle.machine_laws.specs.Causes.{By, Cause, StepsAreRefusedForTheirFirstCause}
use Rattle.machine_laws.proofs.CauseActs.{act_judged}
use Rattle.machine_laws.proofs.CauseFetch.{fetch_judged}
use Rattle.machine_laws.proofs.CauseNumbers.{none_below}
use Rattle.machine_laws.proofs.GoneFires.{number}
use Rattle.machine_laws.proofs.FirstCauses.{First, Judged, judged_refused}

-- A rule with a number above 1 is no fetch.
no_fetch : (r : Rule) → 1 < number r → r ≢ rule.Fetch
no_fetch r l e = let z : number r ≡ 1 = ap number e in omega arith

module _ (q : Litmus) (s : State) (st : Step) where
  -- A cause of number 7 is the first.
  absent_first : Cause q s st 7 → First q s st RuleOrProcessorAbsent
  absent_first c = (
    c,
    none_below q s st 7 (λ h u. omega arith) (λ h u. omega arith) (λ h u. omega arith) (λ h u. omega arith)
        (λ h u. omega arith) (λ h u. omega arith) (λ h u. omega arith) (λ h u. omega arith),
  )

  -- By the rule.
  ruled : st.processor < length s.cores → (r : Rule) → By q s st r → Judged q s st (by_rule q s r st.processor st.position st.guess)
  ruled l rule.Fetch b = fetch_judged q s st b l
  ruled l rule.Arithmetic b = act_judged q s st rule.Arithmetic b (no_fetch rule.Arithmetic (omega arith)) l
  ruled l rule.Branch b = act_judged q s st rule.Branch b (no_fetch rule.Branch (omega arith)) l
  ruled l rule.Fence b = act_judged q s st rule.Fence b (no_fetch rule.Fence (omega arith)) l
  ruled l rule.Load b = act_judged q s st rule.Load b (no_fetch rule.Load (omega arith)) l
  ruled l rule.StoreData b = act_judged q s st rule.StoreData b (no_fetch rule.StoreData (omega arith)) l
  ruled l rule.Store b = act_judged q s st rule.Store b (no_fetch rule.Store (omega arith)) l
  ruled l rule.Address b = act_judged q s st rule.Address b (no_fetch rule.Address (omega arith)) l

  -- By the processor.
  processed : (r : Rule) → By q s st r → (b : Bool) → ltb st.processor (length s.cores) ≡ b →
      Judged q s st (cond b (by_rule q s r st.processor st.position st.guess) (refused RuleOrProcessorAbsent))
  processed r b true x = ruled (ltb-true st.processor (length s.cores) x) r b
  processed r b false x = absent_first (Cause.no_processor (ltb-false st.processor (length s.cores) x))

  -- By the rule's number.
  by_number : (o : Option Rule) → rule_of st.rule ≡ o → Judged q s st (numbered q s st o)
  by_number None e = absent_first (Cause.no_rule e)
  by_number (Some r) e = processed r e (ltb st.processor (length s.cores)) refl

  -- A step has its first cause where it is refused, and none where it goes.
  judged : Judged q s st (step_outcome q s st)
  unfolding step_outcome
  judged = by_number (rule_of st.rule) refl

-- A step is refused exactly for the first cause that holds, in the order of the numbers.
pub refused_for_first_cause : StepsAreRefusedForTheirFirstCause
refused_for_first_cause q s st e = (λ h. subst (Judged q s st) h (judged q s st), λ f. judged_refused q s st (step_outcome q s st) (judged q s st) e f)
