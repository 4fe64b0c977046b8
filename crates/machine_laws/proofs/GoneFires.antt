-- A step that goes fires its rule.
use Rattle.std.proofs.Common.{◌≡◌, ℕ, ◌<◌, Bool, true, false, cond, eqb, ltb, length, Some, None, Option, refl, ap, ◌∙◌, arith}
use Rattle.std.proofs.lemmas.Bool.{eqb-true, ltb-true}
use Rattle.fields.specs.declared.refusal.Refusal.TheVariants.{RuleOrProcessorAbsent}
use Rattle.question.specs.Litmus.{Litmus}
use Rattle.rules.specs.Rules.{rule_of}
use Rattle.rules.specs.declared.rule.Rule.{Rule}
use Rattle.rules.specs.declared.rule.Rule.TheVariants as rule
use Rattle.machine.specs.declared.step.Step.{Step}
use Rattle.machine.specs.State.{State}
use Rattle.machine.specs.Steps.{refused, went, by_rule, act_outcome, numbered, step_outcome}
use Rattle.machine.specs.Fires.{Fires, step}
use Rattle.machine_laws.proofs.GoneActs.{Acted, not_refused, gone_acted}
use Rattle.machine_laws.proofs.GoneAddress.{gone_address}
use Rattle.machine_laws.proofs.GoneFetch.{gone_fetch}
use Rattle.machine_laws.proofs.GoneLoad.{gone_load}
use Rattle.machine_laws.proofs.GoneRules.{gone_arithmetic, gone_branch, gone_fence, gone_store_data, gone_store}

-- The number of a rule.
abbrev pub number : Rule → ℕ
number rule.Fetch = 1
number rule.Arithmetic = 2
number rule.Branch = 3
number rule.Fence = 4
number rule.Load = 5
number rule.StoreData = 6
number rule.Store = 7
number rule.Address = 8

-- The rule is the one with this number, or among the rest.
among : (n : ℕ) (r a : Rule) (rest : Option Rule) → (rest ≡ Some r → n ≡ number r) → cond (eqb n (number a)) (Some a) rest ≡ Some r → n ≡ number r
among n r a rest later h = go (eqb n (number a)) refl h
  where
    go : (b : Bool) → eqb n (number a) ≡ b → cond b (Some a) rest ≡ Some r → n ≡ number r
    go true e k = let z : a ≡ r = cc in eqb-true n (number a) e ∙ ap number z
    go false e k = later k

-- The rule with number n has number n.
rule_number : (n : ℕ) (r : Rule) → rule_of n ≡ Some r → n ≡ number r
rule_number n r =
    among n r rule.Fetch _ (among n r rule.Arithmetic _ (among n r rule.Branch _ (among n r rule.Fence _
    (among n r rule.Load _ (among n r rule.StoreData _ (among n r rule.Store _ (among n r rule.Address None
    (λ h. let z : ◌≡◌ {A = ℕ} 0 1 = cc in absurd (omega arith)))))))))

module _ (q : Litmus) (s : State) (st : Step) (n : ℕ) (t : State) where
  -- A step is what its rule and its guess say.
  as_step : (k g : ℕ) → st.rule ≡ k → st.guess ≡ g → Fires q s (step k st.processor st.position g) n t → Fires q s st n t
  as_step k g e z f = rw (← e, ← z) at f

  module _ (here : st.processor < length s.cores) where
    -- What a step of rules 2 to 8 passed.
    acted : (r : Rule) → act_outcome s r st.processor st.position st.guess ≡ went n t → Acted s r st.processor st.position st.guess n t
    acted r h = gone_acted s st.processor st.position n t r st.guess h

    -- A step of rules 2 to 8 that fires as its rule says.
    as_acted : (r : Rule) (k : ℕ) → st.rule ≡ k → (h : act_outcome s r st.processor st.position st.guess ≡ went n t) →
        Fires q s (step k st.processor st.position 0) n t → Fires q s st n t
    as_acted r k e h f = as_step k 0 e (acted r h).no_guess f

    -- By the rule.
    ruled : (r : Rule) → st.rule ≡ number r → by_rule q s r st.processor st.position st.guess ≡ went n t → Fires q s st n t
    ruled rule.Fetch e h = as_step 1 st.guess e refl (gone_fetch q s st.processor st.position st.guess n t here h)
    ruled rule.Arithmetic e h = as_acted rule.Arithmetic 2 e h (gone_arithmetic q s st.processor st.position st.guess n t here (acted rule.Arithmetic h))
    ruled rule.Branch e h = as_acted rule.Branch 3 e h (gone_branch q s st.processor st.position st.guess n t here (acted rule.Branch h))
    ruled rule.Fence e h = as_acted rule.Fence 4 e h (gone_fence q s st.processor st.position st.guess n t here (acted rule.Fence h))
    ruled rule.Load e h = as_acted rule.Load 5 e h (gone_load q s st.processor st.position st.guess n t here (acted rule.Load h))
    ruled rule.StoreData e h = as_acted rule.StoreData 6 e h (gone_store_data q s st.processor st.position st.guess n t here (acted rule.StoreData h))
    ruled rule.Store e h = as_acted rule.Store 7 e h (gone_store q s st.processor st.position st.guess n t here (acted rule.Store h))
    ruled rule.Address e h = as_acted rule.Address 8 e h (gone_address q s st.processor st.position st.guess n t here (acted rule.Address h))

  -- By the processor.
  processed : (r : Rule) → st.rule ≡ number r → (b : Bool) → ltb st.processor (length s.cores) ≡ b →
      cond b (by_rule q s r st.processor st.position st.guess) (refused RuleOrProcessorAbsent) ≡ went n t → Fires q s st n t
  processed r e true x h = ruled (ltb-true st.processor (length s.cores) x) r e h
  processed r e false x h = not_refused RuleOrProcessorAbsent n t h

  -- By the rule's number.
  by_number : (o : Option Rule) → rule_of st.rule ≡ o → numbered q s st o ≡ went n t → Fires q s st n t
  by_number None e h = not_refused RuleOrProcessorAbsent n t h
  by_number (Some r) e h = processed r (rule_number st.rule r e) (ltb st.processor (length s.cores)) refl h

-- A step that goes fires its rule.
pub gone_fires : (q : Litmus) (s : State) (st : Step) (n : ℕ) (t : State) → step_outcome q s st ≡ went n t → Fires q s st n t
unfolding step_outcome
gone_fires q s st n t h = by_number q s st n t (rule_of st.rule) refl h
