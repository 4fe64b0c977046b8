-- Tests over all numbers below a bound, and what they decide; at each number the bound is known.
use Rattle.std.proofs.Common.{◌≡◌, ℕ, zero, suc, ◌<◌, Bool, true, false, not, ◌&&◌, ◌||◌, Decides, sym, refl, subst, inl, inr, arith}
use Rattle.std.proofs.lemmas.Bool.{cases_eq, false≢true}
use Rattle.std.proofs.lemmas.Bool.Decides.{Decides-and, Decides-or, Decides-like}
use Rattle.ordering.specs.Tests.{some_below}
use Rattle.checker.specs.Tests.{all_below}

-- A test decides that it passes.
pub decides_pass : (t : Bool) → Decides t (t ≡ true)
decides_pass t = (λ e. e, λ e. e)

-- A test that cannot pass fails.
pub not_passing : (t : Bool) → (t ≡ true → ⊥) → t ≡ false
not_passing true f = absurd (f refl)
not_passing false f = refl

-- One test or not the other: where the first fact holds, so does the second.
pub decides_implies : {P Q : Type 0} (x y : Bool) → Decides x P → Decides y Q → Decides (not x || y) (P → Q)
decides_implies true y d e = (λ h _. e.0 h, λ f. e.1 (f (d.0 refl)))
decides_implies false y d e = (λ _ v. absurd (false≢true (d.1 v)), λ _. refl)

-- Some number below the bound passes exactly when what is tested holds of some.
pub decides_some : (t : ℕ → Bool) (Q : ℕ → Type 0) (n : ℕ) → ((k : ℕ) → k < n → Decides (t k) (Q k)) →
    Decides (some_below t n) ((k : ℕ) × (k < n) × Q k)
unfolding some_below
decides_some t Q zero d = (λ e. absurd (false≢true e), λ x. absurd (omega (arith, x.1)))
decides_some t Q (suc n) d =
    Decides-like (t n || some_below t n)
    (λ c. elim c [ inl q ↦ (n, (omega arith), q) | inr x ↦ (x.0, (omega (arith, x.1)), x.2) ])
    (λ x. elim (cases_eq x.0 n) [ inl e ↦ inl (subst Q e x.2) | inr e ↦ inr (x.0, (omega (arith, x.1)), x.2) ])
    (Decides-or (t n) (some_below t n) (d n (omega arith)) (decides_some t Q n (λ k l. d k (omega arith))))

-- All numbers below the bound pass exactly when what is tested holds of all.
pub decides_all : (t : ℕ → Bool) (Q : ℕ → Type 0) (n : ℕ) → ((k : ℕ) → k < n → Decides (t k) (Q k)) →
    Decides (all_below t n) ((k : ℕ) → k < n → Q k)
unfolding all_below
decides_all t Q zero d = (λ e k l. absurd (omega arith), λ x. refl)
decides_all t Q (suc n) d =
    Decides-like (t n && all_below t n)
    (λ c k l. elim (cases_eq k n) [ inl e ↦ subst Q (sym e) c.0 | inr e ↦ c.1 k (omega arith) ])
    (λ x. (x n (omega arith), λ k l. x k (omega arith)))
    (Decides-and (t n) (all_below t n) (d n (omega arith)) (decides_all t Q n (λ k l. d k (omega arith))))
