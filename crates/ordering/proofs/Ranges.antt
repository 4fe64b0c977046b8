-- What `any` over the numbers below a bound returns.
use Rattle.std.proofs.Common.{◌≡◌, ℕ, zero, suc, ◌+◌, Bool, false, ◌||◌, [], ◌∷◌, ◌++◌, refl, ap, ◌∙◌, arith}
use Rattle.std.proofs.Math.Bool.{or_comm}
use Rattle.std.proofs.iter.Yields.{nat_range_steps}
use Rattle.std.proofs.lemmas.Iterator.{YieldsList-from_range}
use Rattle.std.proofs.lemmas.Iterator.Search.{any_from_yields_List}
use Rattle.std.proofs.lemmas.List.Folds.{list_any-append}
use Rattle.std.specs.Fn.{Called}
use Rattle.std.specs.Iterator.{ChecksAny}
use Rattle.std.specs.List.{range_with_len, list_any}
use Rattle.std.specs.declared.ops.Range.{Range}
use denote.Param.Members.{Mut}
use Rattle.ordering.specs.Tests.{some_below}

-- One number more stands last.
pub range_more : (a n : ℕ) → range_with_len a (suc n) ≡ range_with_len a n ++ (a + n) ∷ []
range_more a zero = ap (λ k. k ∷ []) (omega arith)
range_more a (suc n) = ap (λ ks. a ∷ ks) (range_more (a + 1) n ∙ ap (λ k. range_with_len (a + 1) n ++ k ∷ []) (omega arith))

-- Some number below the bound passes: one of the list of those numbers does.
any_is_some_below : (t : ℕ → Bool) (n : ℕ) → list_any t (range_with_len 0 n) ≡ some_below t n
unfolding some_below
any_is_some_below t zero = refl
any_is_some_below t (suc n) =
    let last : 0 + n ≡ n = omega arith in
    ap (list_any t) (range_more 0 n)
    ∙ list_any-append t (range_with_len 0 n) ((0 + n) ∷ [])
    ∙ or_comm (list_any t (range_with_len 0 n)) (t (0 + n) || false)
    ∙ (λ i. or_comm (t (last i)) false i || any_is_some_below t n i)

-- `any` over the numbers below n, by a closure that computes the test t.
pub some_from_any : {F : Type 0} {g : Mut F (ℕ × Unit {0}) Bool} {f : F} {u : Range ℕ} {r : Bool} (t : ℕ → Bool) (n : ℕ) →
    ChecksAny nat_range_steps g (record { start = 0; end = n }) f r u → ((x : ℕ) (b : Bool) (q : F) → Called g f (x, tt) b q → (q ≡ f) × (b ≡ t x)) →
    r ≡ some_below t n
some_from_any t n ran h = any_from_yields_List t _ _ _ ran (YieldsList-from_range 0 n n refl (omega arith)) h ∙ any_is_some_below t n
