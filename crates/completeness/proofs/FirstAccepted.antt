-- Of steps that are listed from the lowest on, the first that is accepted is the lowest acceptable one.
use Rattle.std.proofs.Common.{◌≡◌, ℕ, zero, suc, ◌+◌, ◌<◌, ◌≤◌, ◌⊎◌, List, [], ◌∷◌, ◌++◌, Some, None, Option, sym, refl, ap, ◌∙◌, subst, inl, inr, arith}
use Rattle.std.specs.List.{range_with_len, flat_map}
use Rattle.std.proofs.lemmas.Bool.{cases_eq}
use Rattle.question.specs.Litmus.{Litmus}
use Rattle.machine.specs.State.{State}
use Rattle.machine.specs.Steps.{Outcome, refused, went, step_outcome}
use Rattle.machine.specs.declared.step.Step.{Step}
use Rattle.machine_laws.proofs.GoneActs.{not_refused}
use Rattle.completeness.specs.Rebuilds.{Acceptable, Lower}
use Rattle.completeness.specs.StepsFor.{Taken, taken_or, first_accepted}

-- The first, or else the second.
abbrev or_else : Option Taken → Option Taken → Option Taken
or_else None other = other
or_else (Some t) other = Some t

-- No step of the second kind is lower than one of the first.
abbrev pub Rises : (Step → Type 0) → (Step → Type 0) → Type 0
Rises P Q = (a b : Step) → P a → Q b → Lower b a → ⊥

module _ (q : Litmus) (s : State) where
  -- The lowest acceptable step with property P, and where it leads; none where no such step is acceptable.
  pub data Chosen (P : Step → Type 0) : Option Taken → Type 0 where
    none : ((st : Step) → P st → Acceptable q s st → ⊥) → Chosen P None
    one : (st : Step) (n : ℕ) (t : State) → P st → step_outcome q s st ≡ went n t →
        ((other : Step) → P other → Acceptable q s other → Lower other st → ⊥) → Chosen P (Some (record { step = st; state = t }))

  -- The property is another one.
  pub chosen_as : (P Q : Step → Type 0) → ((st : Step) → P st → Q st) → ((st : Step) → Acceptable q s st → Q st → P st) → (o : Option Taken) → Chosen P o → Chosen Q o
  chosen_as P Q f g _ (none h) = none (λ st b a. h st (g st a b) a)
  chosen_as P Q f g _ (one st n t a e h) = one st n t (f st a) e (λ other b x l. h other (g other x b) x l)

  append_first : (xs ys : List Step) → first_accepted q s (xs ++ ys) ≡ or_else (first_accepted q s xs) (first_accepted q s ys)
  unfolding first_accepted
  append_first [] ys = refl
  append_first (x ∷ xs) ys = go (step_outcome q s x) (append_first xs ys)
    where
      go : (o : Outcome) → first_accepted q s (xs ++ ys) ≡ or_else (first_accepted q s xs) (first_accepted q s ys) →
          taken_or x o (first_accepted q s (xs ++ ys)) ≡ or_else (taken_or x o (first_accepted q s xs)) (first_accepted q s ys)
      go (refused e) h = h
      go (went n t) h = refl

  either : (P Q : Step → Type 0) → Rises P Q → (o r : Option Taken) → Chosen P o → Chosen Q r → Chosen (λ st. P st ⊎ Q st) (or_else o r)
  either P Q up _ _ (none h) (none k) = none (λ st b. elim b [ inl x ↦ h st x | inr y ↦ k st y ])
  either P Q up _ _ (none h) (one st n t a e k) = one st n t (inr a) e (λ other b. elim b [ inl x ↦ λ c l. h other x c | inr y ↦ k other y ])
  either P Q up _ r (one st n t a e h) d = one st n t (inl a) e (λ other b. elim b [ inl x ↦ h other x | inr y ↦ λ c l. up st other a y l ])

  -- Of two lists, the second of which has nothing lower.
  pub chosen_append : (P Q : Step → Type 0) (xs ys : List Step) → Rises P Q → Chosen P (first_accepted q s xs) → Chosen Q (first_accepted q s ys) →
      Chosen (λ st. P st ⊎ Q st) (first_accepted q s (xs ++ ys))
  chosen_append P Q xs ys up a b = subst (Chosen (λ st. P st ⊎ Q st)) (sym (append_first xs ys)) (either P Q up (first_accepted q s xs) (first_accepted q s ys) a b)

  -- Of one step.
  pub chosen_one : (st : Step) → Chosen (λ x. x ≡ st) (first_accepted q s (st ∷ []))
  unfolding first_accepted
  chosen_one st = go (step_outcome q s st) refl
    where
      go : (o : Outcome) → step_outcome q s st ≡ o → Chosen (λ x. x ≡ st) (taken_or st o None)
      go (refused e) h = none (λ x z (n, t, a). not_refused e n t (sym h ∙ ap (step_outcome q s) (sym z) ∙ a))
      go (went n t) h = one st n t refl h (λ x z a l. elim l [
        | inl b ↦ (let k = ap (λ (y : Step). y.processor) z in omega arith)
        | inr (e, b) ↦ elim b [
          | inl c ↦ (let k = ap (λ (y : Step). y.position) z in omega arith)
          | inr (f, c) ↦ (let k = ap (λ (y : Step). y.rule) z in omega arith)
        ]
      ])

  -- Of no step.
  pub chosen_nothing : (P : Step → Type 0) → ((st : Step) → P st → ⊥) → Chosen P (first_accepted q s [])
  unfolding first_accepted
  chosen_nothing P h = none (λ st a b. h st a)

  -- Of lists by number, later ones of which have nothing lower.
  module _ (P : ℕ → Step → Type 0) (f : ℕ → List Step) (up : (a b : ℕ) → a < b → Rises (P a) (P b)) (each : (k : ℕ) → Chosen (P k) (first_accepted q s (f k))) where
    pub chosen_joined : (a n : ℕ) → Chosen (λ st. (k : ℕ) × (a ≤ k) × (k < a + n) × P k st) (first_accepted q s (flat_map f (range_with_len a n)))
    chosen_joined a zero = chosen_nothing _ (λ st (k, l, m, x). omega arith)
    chosen_joined a (suc n) = chosen_as _ _
        (λ st b. elim b [ inl x ↦ (a, omega arith, omega arith, x) | inr (k, l, m, x) ↦ (k, omega arith, omega arith, x) ])
        (λ st c (k, l, m, x). elim (cases_eq k a) [ inl z ↦ inl (subst (λ i. P i st) z x) | inr z ↦ inr (k, omega arith, omega arith, x) ])
        _ (chosen_append (P a) _ (f a) (flat_map f (range_with_len (a + 1) n)) (λ x y u (k, l, m, v). up a k (omega arith) x y u v) (each a) (chosen_joined (a + 1) n))
