-- What becomes of a step, by its rule and its processor.
use Rattle.std.proofs.Common.{◌≡◌, ℕ, ◌<◌, ◌≤◌, map, length, Some, None, Ok, Err, Option, sym, refl, ap, ◌∙◌, arith}
use Rattle.std.specs.Option.{ok_or}
use Rattle.std.proofs.lemmas.List.{length-take, length-map}
use Rattle.std.proofs.lemmas.Bool.{lt-ltb, le-ltb}
use Rattle.fields.specs.declared.refusal.Refusal.{Refusal}
use Rattle.fields.specs.declared.refusal.Refusal.TheVariants.{RuleOrProcessorAbsent}
use Rattle.question.specs.Litmus.{Litmus}
use Rattle.rules.specs.Rules.{rule_of}
use Rattle.rules.specs.declared.rule.Rule.{Rule}
use Rattle.rules.specs.declared.rule.Rule.TheVariants as rule
use Rattle.machine.specs.declared.processor.Processors.{Processors}
use Rattle.machine.specs.declared.step.Step.{Step}
use Rattle.machine.specs.State.{State}
use Rattle.machine.specs.Steps.{refused, step_outcome, numbered, by_rule, fetch_outcome, act_outcome}
use Rattle.machine.specs.Views.{core_of, cores_of, run_question}
use Rattle.machine.specs.declared.open.OpenRun.{OpenRun}
use Rattle.machine.proofs.Cores.{few_processors}

-- The first n of four processors are n.
cores_counted : (n : ℕ) (ps : Processors) → n ≤ 4 → length (cores_of n ps) ≡ n
cores_counted n ps h = omega (arith, length-take n (map core_of ps.rows), length-map ps.rows core_of, ps.four)

-- A run has as many processors as its question.
pub processors_counted : {M : Type 0} (r : OpenRun M) → length (cores_of (length (run_question r).code) r.processors) ≡ length (run_question r).code
processors_counted r = cores_counted (length (run_question r).code) r.processors (few_processors r.question.now)

-- Every rule but a fetch acts on an entry.
acts : (q : Litmus) (s : State) (r : Rule) (p i g : ℕ) → (r ≡ rule.Fetch → ⊥) → by_rule q s r p i g ≡ act_outcome s r p i g
acts q s rule.Fetch p i g n = absurd (n refl)
acts q s rule.Arithmetic p i g n = refl
acts q s rule.Branch p i g n = refl
acts q s rule.Fence p i g n = refl
acts q s rule.Load p i g n = refl
acts q s rule.StoreData p i g n = refl
acts q s rule.Store p i g n = refl
acts q s rule.Address p i g n = refl

-- A number that converts to a rule is that rule's.
pub rule_present : (o : Option Rule) (e : Refusal) (r : Rule) → ok_or o e ≡ Ok r → o ≡ Some r
rule_present None e r h = let z : ◌≡◌ {A = ℕ} 0 1 = cc h in absurd (omega arith)
rule_present (Some x) e r h = cc h

-- A number that does not convert is no rule's, and the refusal is the one stated.
rule_absent : (o : Option Rule) (e f : Refusal) → ok_or o e ≡ Err f → (o ≡ None) × (f ≡ e)
rule_absent None e f h = (refl, cc h)
rule_absent (Some x) e f h = let z : ◌≡◌ {A = ℕ} 0 1 = cc h in absurd (omega arith)

module _ (q : Litmus) (s : State) (st : Step) where
  -- A step with no rule's number is refused, by the cause of the conversion.
  pub no_rule : (e : Refusal) → ok_or (rule_of st.rule) RuleOrProcessorAbsent ≡ Err e → step_outcome q s st ≡ refused e
  unfolding step_outcome
  no_rule e h =
      let p = rule_absent (rule_of st.rule) RuleOrProcessorAbsent e h in
      ap (numbered q s st) p.0 ∙ ap refused (sym p.1)

  pub no_processor : (r : Rule) → rule_of st.rule ≡ Some r → length s.cores ≤ st.processor → step_outcome q s st ≡ refused RuleOrProcessorAbsent
  unfolding step_outcome
  no_processor r e l = ap (numbered q s st) e ∙ rw (le-ltb st.processor (length s.cores) l)

  here : (r : Rule) → rule_of st.rule ≡ Some r → st.processor < length s.cores → step_outcome q s st ≡ by_rule q s r st.processor st.position st.guess
  unfolding step_outcome
  here r e l = ap (numbered q s st) e ∙ rw (lt-ltb st.processor (length s.cores) l)

  pub fetch_step : rule_of st.rule ≡ Some rule.Fetch → st.processor < length s.cores → step_outcome q s st ≡ fetch_outcome q s st.processor st.position st.guess
  fetch_step e l = here rule.Fetch e l

  pub act_step : (r : Rule) → rule_of st.rule ≡ Some r → (r ≡ rule.Fetch → ⊥) → st.processor < length s.cores → step_outcome q s st ≡ act_outcome s r st.processor st.position st.guess
  act_step r e n l = here r e l ∙ acts q s r st.processor st.position st.guess n
