-- Whether some number below a bound passes a test.
use Rattle.std.specs.Prelude.{◌≡◌, ℕ, zero, suc, ◌+◌, ◌<◌, Bool, true, false, refl}
use Rattle.std.proofs.Common.{sym, ap, ◌∙◌, inl, inr, arith, add-one}
use Rattle.std.proofs.lemmas.Bool.{cases_eq, or_cases, or_left, or_right, or_from, false≢true}
use Rattle.ordering.specs.Tests.{some_below}

-- One below the bound passes: some number does.
pub some_hit : (t : ℕ → Bool) (n k : ℕ) → k < n → t k ≡ true → some_below t n ≡ true
unfolding some_below
some_hit t zero k l h = absurd (omega arith)
some_hit t (suc n) k l h = elim (cases_eq k n) [
  | inl e ↦ or_left (t n) (some_below t n) (ap t (sym e) ∙ h)
  | inr e ↦ or_right (t n) (some_below t n) (some_hit t n k (omega arith) h)
]

-- Some number passes: one below the bound does.
pub some_found : (t : ℕ → Bool) (n : ℕ) → some_below t n ≡ true → (k : ℕ) × (k < n) × (t k ≡ true)
unfolding some_below
some_found t zero h = absurd (false≢true h)
some_found t (suc n) h = elim (or_cases (t n) (some_below t n) h) [
  | inl e ↦ (n, omega arith, e)
  | inr e ↦ (let (k, l, q) = some_found t n e in (k, omega arith, q))
]

-- None below zero passes.
pub some_none : (t : ℕ → Bool) → some_below t 0 ≡ false
unfolding some_below
some_none t = refl

-- None below the bound passes, nor the next.
pub some_miss : (t : ℕ → Bool) (n : ℕ) → t n ≡ false → some_below t n ≡ false → some_below t (n + 1) ≡ false
unfolding some_below
some_miss t n h l = rw add-one (or_from (t n) (some_below t n) h l)
