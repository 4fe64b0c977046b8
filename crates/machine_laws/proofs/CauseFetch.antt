-- A fetch is refused for its first cause.
use Rattle.std.proofs.Common.{◌≡◌, ℕ, suc, ◌<◌, Bool, true, false, cond, ◌&&◌, ◌||◌, eqb, ltb, ◌≢◌, ◌⊎◌, length, Ok, Err, refl, inl, inr, arith}
use Rattle.std.proofs.lemmas.Bool.{both_ways, and_parts, and_cases, or_parts, ltb-true, ltb-false, eqb-true, eqb-false, cases_eq}
use Rattle.fields.specs.declared.refusal.Refusal.TheVariants.{FetchAtEnd, BufferFull, PositionOrGuessNotAllowed}
use Rattle.instructions.specs.declared.instruction.Instruction.{Instruction}
use Rattle.instructions.specs.Kinds.{branches}
use Rattle.question.specs.Litmus.{Litmus, code_at, instruction_at}
use Rattle.rules.specs.Act.{fetch_fits}
use Rattle.rules.specs.declared.rule.Rule.{Rule}
use Rattle.rules.specs.declared.rule.Rule.TheVariants as rule
use Rattle.machine.specs.declared.step.Step.{Step}
use Rattle.machine.specs.State.{State, core_at}
use Rattle.machine.specs.Steps.{fetched, fetch_outcome}
use Rattle.machine.specs.Fires.{buffer, fetched_entry}
use Rattle.machine_laws.specs.Causes.{By, Cause}
use Rattle.machine_laws.proofs.CauseNumbers.{one_rule, present, wanting, holding, none_below}
use Rattle.machine_laws.proofs.FirstCauses.{Judged}
use Rattle.machine_laws.proofs.GoneFetch.{guessed}

module _ (q : Litmus) (s : State) (st : Step) (by : By q s st rule.Fetch) (here : st.processor < length s.cores) where
  -- The processor and the position of the step.
  abbrev p : ℕ
  p = st.processor

  abbrev i : ℕ
  i = st.position

  -- The counter, and the end of the code.
  abbrev counter : ℕ
  counter = (core_at s p).counter

  abbrev end : ℕ
  end = length (code_at q p)

  -- The instruction to fetch.
  abbrev coming : Instruction
  coming = instruction_at (code_at q p) counter

  -- The step is no other rule's.
  no_act : (r : Rule) → By q s st r → r ≢ rule.Fetch → ⊥
  no_act r b n = n (one_rule q s st r rule.Fetch b by)

  -- The counter is not at the end.
  not_at_the_end : counter < end → Cause q s st 8 → ⊥
  not_at_the_end l (Cause.fetch_at_the_end b h) = absurd (omega arith)

  -- The buffer is not full.
  not_full : length (buffer s p) < 16 → Cause q s st 9 → ⊥
  not_full l (Cause.buffer_full b h) = absurd (omega arith)

  -- Position 0 and a fitting guess.
  fits : i ≡ 0 → (st.guess ≡ 0) ⊎ ((st.guess ≡ 1) × (branches coming ≡ true)) → Cause q s st 10 → ⊥
  fits z g (Cause.fetch_with_a_position b h) = h z
  fits z (inl g) (Cause.fetch_with_another_guess b h) = absurd (omega arith)
  fits z (inr (g, t)) (Cause.fetch_with_another_guess b h) = absurd (omega arith)
  fits z (inl g) (Cause.guess_off_a_branch b h k) = absurd (omega arith)
  fits z (inr (g, t)) (Cause.guess_off_a_branch b h k) = both_ways (branches coming) k t
  fits z g (Cause.no_entry r b n h) = no_act r b n
  fits z g (Cause.guess_off_a_fetch r b n h) = no_act r b n

  -- It is not refused for the kind of an entry.
  not_another_kind : Cause q s st 11 → ⊥
  not_another_kind (Cause.another_kind r b n h) = no_act r b n

  -- It is not refused as made already.
  not_made : Cause q s st 12 → ⊥
  not_made (Cause.already_made r b n h) = no_act r b n

  -- With the numbers from 11 on and 7 without a cause, the others are left.
  fetch_below : (m : ℕ) → (8 < m → Cause q s st 8 → ⊥) → (9 < m → Cause q s st 9 → ⊥) → (10 < m → Cause q s st 10 → ⊥) → (k : ℕ) → k < m → Cause q s st k → ⊥
  fetch_below m a b c =
      none_below q s st m (λ h. present q s st rule.Fetch by here) a b c (λ h. not_another_kind) (λ h. not_made)
      (λ h. wanting q s st rule.Fetch by) (λ h. holding q s st rule.Fetch by)

  -- Neither guess 0 nor guess 1 at a branch.
  misguessed : eqb st.guess 0 ≡ false → (eqb st.guess 1 && branches coming) ≡ false → Cause q s st 10
  misguessed x y = go (and_cases (eqb st.guess 1) (branches coming) y)
    where
      not_zero : st.guess ≢ 0
      not_zero = eqb-false st.guess 0 x

      go : (eqb st.guess 1 ≡ false) ⊎ (branches coming ≡ false) → Cause q s st 10
      go (inl e) = let n : st.guess ≢ 1 = eqb-false st.guess 1 e in Cause.fetch_with_another_guess by (omega (arith, n, not_zero))
      go (inr e) = elim (cases_eq st.guess 1) [
        | inl z ↦ Cause.guess_off_a_branch by z e
        | inr n ↦ Cause.fetch_with_another_guess by (omega (arith, n, not_zero))
      ]

  -- A fetch that does not fit has a cause.
  misfit : fetch_fits coming i st.guess ≡ false → Cause q s st 10
  misfit x = elim (and_cases (eqb i 0) (eqb st.guess 0 || (eqb st.guess 1 && branches coming)) x) [
    | inl e ↦ Cause.fetch_with_a_position by (eqb-false i 0 e)
    | inr e ↦ let k = or_parts (eqb st.guess 0) (eqb st.guess 1 && branches coming) e in misguessed k.0 k.1
  ]

  -- A fetch that fits has no cause of number 10.
  no_misfit : fetch_fits coming i st.guess ≡ true → Cause q s st 10 → ⊥
  no_misfit x =
      let k = and_parts (eqb i 0) (eqb st.guess 0 || (eqb st.guess 1 && branches coming)) x in
      fits (eqb-true i 0 k.0) (guessed coming st.guess k.1)

  -- Rule 1.
  pub fetch_judged : Judged q s st (fetch_outcome q s p i st.guess)
  unfolding fetch_outcome
  fetch_judged = go (ltb counter end) refl (ltb (length (buffer s p)) 16) refl (fetch_fits coming i st.guess) refl
    where
      go : (a : Bool) → ltb counter end ≡ a → (b : Bool) → ltb (length (buffer s p)) 16 ≡ b → (c : Bool) → fetch_fits coming i st.guess ≡ c →
          Judged q s st (fetched s p (cond a (cond b (cond c (Ok (fetched_entry q s p (eqb st.guess 1))) (Err PositionOrGuessNotAllowed)) (Err BufferFull)) (Err FetchAtEnd)))
      go false x b y c z = (Cause.fetch_at_the_end by (ltb-false counter end x), fetch_below 8 (λ h u. omega arith) (λ h u. omega arith) (λ h u. omega arith))
      go true x false y c z =
          let more = ltb-true counter end x in
          (Cause.buffer_full by (ltb-false (length (buffer s p)) 16 y), fetch_below 9 (λ h. not_at_the_end more) (λ h u. omega arith) (λ h u. omega arith))
      go true x true y false z =
          let more = ltb-true counter end x in
          let room = ltb-true (length (buffer s p)) 16 y in
          (misfit z, fetch_below 10 (λ h. not_at_the_end more) (λ h. not_full room) (λ h u. omega arith))
      go true x true y true z =
          let more = ltb-true counter end x in
          let room = ltb-true (length (buffer s p)) 16 y in
          λ k. fetch_below (suc k) (λ h. not_at_the_end more) (λ h. not_full room) (λ h. no_misfit z) k (omega arith)
