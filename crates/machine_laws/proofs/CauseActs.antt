-- A step of rules 2 to 8 is refused for its first cause.
use Rattle.std.proofs.Common.{◌≡◌, ℕ, suc, ◌<◌, Bool, true, false, cond, ◌&&◌, eqb, ltb, ◌≢◌, ◌⊎◌, length, Ok, Err, Result, sym, refl, subst, inl, inr, arith}
use Rattle.std.proofs.lemmas.Bool.{both_ways, and_parts, and_cases, ltb-true, ltb-false, eqb-true, eqb-false}
use Rattle.fields.specs.declared.refusal.Refusal.{Refusal}
use Rattle.fields.specs.declared.refusal.Refusal.TheVariants.{PositionOrGuessNotAllowed, KindDoesNotSuitRule, StepAlreadyMade, OperandWanting, HeldBack}
use Rattle.question.specs.Litmus.{Litmus}
use Rattle.rules.specs.Act.{action}
use Rattle.rules.specs.Rules.{suits, made}
use Rattle.rules.specs.declared.change.Action.{Action}
use Rattle.rules.specs.declared.change.Action.TheVariants.{Make, Read}
use Rattle.rules.specs.declared.rule.Rule.{Rule}
use Rattle.rules.specs.declared.rule.Rule.TheVariants as rule
use Rattle.machine.specs.declared.step.Step.{Step}
use Rattle.machine.specs.State.{State}
use Rattle.machine.specs.Steps.{done, act_outcome}
use Rattle.machine.specs.Fires.{buffer, entry, instruction}
use Rattle.machine_laws.specs.Causes.{By, Cause}
use Rattle.machine_laws.proofs.CauseActions.{Fitting, action_fits}
use Rattle.machine_laws.proofs.CauseNumbers.{Wants, Held, one_rule, present, wanting, holding, wants_cause, held_cause, none_below}
use Rattle.machine_laws.proofs.FirstCauses.{First, Judged}

module _ (q : Litmus) (s : State) (st : Step) (r : Rule) (by : By q s st r) (acts : r ≢ rule.Fetch) (here : st.processor < length s.cores) where
  -- The processor and the position of the step.
  abbrev p : ℕ
  p = st.processor

  abbrev i : ℕ
  i = st.position

  -- The step is no fetch.
  no_fetch : By q s st rule.Fetch → ⊥
  no_fetch b = acts (one_rule q s st r rule.Fetch by b)

  -- It is not refused as a fetch at the end.
  not_at_the_end : Cause q s st 8 → ⊥
  not_at_the_end (Cause.fetch_at_the_end b h) = no_fetch b

  -- It is not refused as a fetch into a full buffer.
  not_full : Cause q s st 9 → ⊥
  not_full (Cause.buffer_full b h) = no_fetch b

  -- It names an entry and guesses nothing.
  placed : i < length (buffer s p) → st.guess ≡ 0 → Cause q s st 10 → ⊥
  placed l g (Cause.fetch_with_a_position b h) = no_fetch b
  placed l g (Cause.fetch_with_another_guess b h) = no_fetch b
  placed l g (Cause.guess_off_a_branch b h k) = no_fetch b
  placed l g (Cause.no_entry u b n h) = absurd (omega arith)
  placed l g (Cause.guess_off_a_fetch u b n h) = h g

  -- The entry is of the rule's kind.
  suited : suits r (instruction s p i) ≡ true → Cause q s st 11 → ⊥
  suited y (Cause.another_kind u b n h) = both_ways (suits u (instruction s p i)) h (subst (λ x. suits x (instruction s p i) ≡ true) (one_rule q s st r u by b) y)

  -- The step was not made.
  unmade : made r (entry s p i) ≡ false → Cause q s st 12 → ⊥
  unmade y (Cause.already_made u b n h) = both_ways (made u (entry s p i)) (subst (λ x. made x (entry s p i) ≡ false) (one_rule q s st r u by b) y) h

  -- With the first three numbers without a cause, the others are left.
  acts_below : (m : ℕ) → (10 < m → Cause q s st 10 → ⊥) → (11 < m → Cause q s st 11 → ⊥) → (12 < m → Cause q s st 12 → ⊥) →
      (13 < m → Cause q s st 13 → ⊥) → (14 < m → Cause q s st 14 → ⊥) → (k : ℕ) → k < m → Cause q s st k → ⊥
  acts_below m = none_below q s st m (λ h. present q s st r by here) (λ h. not_at_the_end) (λ h. not_full)

  -- Refused for the position or the guess.
  misplaced : (ltb i (length (buffer s p)) && eqb st.guess 0) ≡ false → First q s st PositionOrGuessNotAllowed
  misplaced x = (
    go (and_cases (ltb i (length (buffer s p))) (eqb st.guess 0) x),
    acts_below 10
        (λ h c. omega arith) (λ h c. omega arith) (λ h c. omega arith) (λ h c. omega arith) (λ h c. omega arith),
  )
    where
      go : (ltb i (length (buffer s p)) ≡ false) ⊎ (eqb st.guess 0 ≡ false) → Cause q s st 10
      go (inl e) = Cause.no_entry r by acts (ltb-false i (length (buffer s p)) e)
      go (inr e) = Cause.guess_off_a_fetch r by acts (eqb-false st.guess 0 e)

  module _ (l : i < length (buffer s p)) (g : st.guess ≡ 0) where
    -- Refused for the kind.
    unsuited : suits r (instruction s p i) ≡ false → First q s st KindDoesNotSuitRule
    unsuited y = (
      Cause.another_kind r by acts y,
      acts_below 11 (λ h. placed l g)
          (λ h c. omega arith) (λ h c. omega arith) (λ h c. omega arith) (λ h c. omega arith),
    )

    module _ (kind : suits r (instruction s p i) ≡ true) where
      -- Refused as made already.
      made_before : made r (entry s p i) ≡ true → First q s st StepAlreadyMade
      made_before y = (
        Cause.already_made r by acts y,
        acts_below 12 (λ h. placed l g)
            (λ h. suited kind) (λ h c. omega arith) (λ h c. omega arith) (λ h c. omega arith),
      )

      module _ (open_yet : made r (entry s p i) ≡ false) where
        -- Refused since something is wanting.
        wants_first : Wants s p i r → First q s st OperandWanting
        wants_first w = (
          wants_cause q s st r by w,
          acts_below 13 (λ h. placed l g)
              (λ h. suited kind) (λ h. unmade open_yet) (λ h c. omega arith) (λ h c. omega arith),
        )

        -- Refused as held back.
        held_first : (Wants s p i r → ⊥) → Held s p i r → First q s st HeldBack
        held_first n x = (
          held_cause q s st r by x,
          acts_below 14 (λ h. placed l g)
              (λ h. suited kind) (λ h. unmade open_yet) (λ h c. n (wanting q s st r by c)) (λ h c. omega arith),
        )

        -- Nothing is wanting and nothing holds the step back: there is no cause.
        no_cause : (Wants s p i r → ⊥) → (Held s p i r → ⊥) → (k : ℕ) → Cause q s st k → ⊥
        no_cause n m k = acts_below (suc k) (λ h. placed l g)
            (λ h. suited kind) (λ h. unmade open_yet) (λ h c. n (wanting q s st r by c)) (λ h c. m (holding q s st r by c)) k (omega arith)

        -- What becomes of an answer that fits.
        fitting_judged : (x : Result Action Refusal) → Fitting s p i r x → Judged q s st (done s p i x)
        fitting_judged (Ok (Make c)) (n, m) = no_cause n m
        fitting_judged (Ok (Read a)) (n, m) = no_cause n m
        fitting_judged (Err e) (inl (z, w)) = subst (First q s st) (sym z) (wants_first w)
        fitting_judged (Err e) (inr (z, n, x)) = subst (First q s st) (sym z) (held_first n x)

  -- Rules 2 to 8.
  pub act_judged : Judged q s st (act_outcome s r p i st.guess)
  unfolding act_outcome
  act_judged = go (ltb i (length (buffer s p)) && eqb st.guess 0) (suits r (instruction s p i)) (made r (entry s p i)) refl refl refl
    where
      go : (a b c : Bool) → (ltb i (length (buffer s p)) && eqb st.guess 0) ≡ a → suits r (instruction s p i) ≡ b → made r (entry s p i) ≡ c →
          Judged q s st (done s p i (cond a (cond b (cond c (Err StepAlreadyMade) (action r (buffer s p) p i)) (Err KindDoesNotSuitRule)) (Err PositionOrGuessNotAllowed)))
      go false b c x y z = misplaced x
      go true b c x y z =
          let u : (ltb i (length (buffer s p)) ≡ true) × (eqb st.guess 0 ≡ true) = and_parts (ltb i (length (buffer s p))) (eqb st.guess 0) x in
          further (ltb-true i (length (buffer s p)) u.0) (eqb-true st.guess 0 u.1) b c y z
        where
          further : i < length (buffer s p) → st.guess ≡ 0 → (b c : Bool) → suits r (instruction s p i) ≡ b → made r (entry s p i) ≡ c →
              Judged q s st (done s p i (cond b (cond c (Err StepAlreadyMade) (action r (buffer s p) p i)) (Err KindDoesNotSuitRule)))
          further l g false c y z = unsuited l g y
          further l g true true y z = made_before l g y z
          further l g true false y z = fitting_judged l g y z (action r (buffer s p) p i) (action_fits s p i l r acts)
