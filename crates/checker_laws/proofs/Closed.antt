-- The positions reached from one are those of the transitive closure, where the relation runs forward.
use Rattle.std.proofs.Common.{◌≡◌, ℕ, zero, suc, ◌<◌, Bool, true, false, ◌&&◌, ◌⊎◌, length, get_or, Decides, sym, refl, ◌∙◌, subst, inl, inr, arith}
use Rattle.std.proofs.lemmas.List.{get_or_append_left, get_or_push, length_push}
use Rattle.std.proofs.lemmas.Bool.{cases_eq}
use Rattle.std.proofs.lemmas.Bool.Decides.{Decides-and, Decides-or, Decides-like, Decides-at}
use Rattle.ordering.specs.Closure.{Closure}
use Rattle.ordering.specs.Closure.Closure.{one, then}
use Rattle.ordering.specs.Tests.{some_below}
use Rattle.checker.specs.Tests.{reached}
use Rattle.checker_laws.proofs.Bounds.{decides_pass, decides_some}

-- The closure of a relation that runs forward runs forward.
pub closure_forward : {R : ℕ → ℕ → Type 0} → ((i j : ℕ) → R i j → i < j) → (i j : ℕ) → Closure R i j → i < j
closure_forward f i j (one r) = f i j r
closure_forward f i j (then {k = k} c r) = omega (arith, f k j r, closure_forward f i k c)

-- What is kept before j, each step by a relation that holds at later positions no further than j, is kept by the other relation.
pub closure_below : {R Q : ℕ → ℕ → Type 0} (n : ℕ) → ((i j : ℕ) → R i j → i < j) → ((i j : ℕ) → j < n → R i j → Q i j) →
    (i j : ℕ) → j < n → Closure R i j → Closure Q i j
closure_below n f h i j l (one r) = one (h i j l r)
closure_below n f h i j l (then {k = k} c r) = then (closure_below n f h i k (omega (arith, f k j r)) c) (h k j l r)

module _ (R : ℕ → ℕ → Bool) (forward : (i j : ℕ) → R i j ≡ true → i < j) (i : ℕ) where
  abbrev Q : ℕ → ℕ → Type 0
  Q x y = R x y ≡ true

  -- The row has as many entries as positions.
  pub length_reached : (n : ℕ) → length (reached R i n) ≡ n
  unfolding reached
  length_reached zero = refl
  length_reached (suc n) = length_push (reached R i n) _ ∙ omega (arith, length_reached n)

  -- The last step to a position, and back.
  last_step : (j : ℕ) → Closure Q i j → Q i j ⊎ ((k : ℕ) × (k < j) × (Closure Q i k × Q k j))
  last_step j (one r) = inl r
  last_step j (then {k = k} c r) = inr (k, forward k j r, (c, r))

  from_last_step : (j : ℕ) → Q i j ⊎ ((k : ℕ) × (k < j) × (Closure Q i k × Q k j)) → Closure Q i j
  from_last_step j (inl r) = one r
  from_last_step j (inr x) = then x.2.0 x.2.1

  -- The entry of a position says whether the closure has it.
  pub reached_is : (n k : ℕ) → k < n → Decides (get_or (reached R i n) k false) (Closure Q i k)
  unfolding reached
  reached_is zero k l = absurd (omega arith)
  reached_is (suc n) k l = elim (cases_eq k n) [
    | inl e ↦ subst (λ z. Decides (get_or (reached R i (suc n)) z false) (Closure Q i z)) (sym e) (new (λ m h. reached_is n m h))
    | inr e ↦ Decides-at _ _ (get_or_append_left (reached R i n) _ false k (omega (arith, length_reached n))) (reached_is n k (omega arith))
  ]
    where
      new : ((m : ℕ) → m < n → Decides (get_or (reached R i n) m false) (Closure Q i m)) → Decides (get_or (reached R i (suc n)) n false) (Closure Q i n)
      new ih = Decides-at _ _ (get_or_push (reached R i n) _ false n (length_reached n))
          (Decides-like _ (from_last_step n) (last_step n)
          (Decides-or (R i n) (some_below (λ m. get_or (reached R i n) m false && R m n) n) (decides_pass (R i n))
          (decides_some _ (λ m. Closure Q i m × Q m n) n (λ m h. Decides-and (get_or (reached R i n) m false) (R m n) (ih m h) (decides_pass (R m n))))))
