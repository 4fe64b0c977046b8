-- What `all` and `rfind` over the numbers below a bound return, and what a search finds.
use Rattle.std.proofs.Common.{◌≡◌, ℕ, zero, suc, ◌+◌, ◌≤◌, Bool, true, false, cond, ◌&&◌, ◌||◌, List, [], ◌∷◌, length, get_or, is_some, Some, None, Option, refl, sym, ap, ◌∙◌, arith}
use Rattle.std.proofs.Math.Bool.{and_comm}
use Rattle.std.proofs.iter.Yields.{nat_range_steps}
use Rattle.std.proofs.iter.runs.Sources.{nat_range_steps_back}
use Rattle.std.proofs.lemmas.Iterator.{YieldsList-from_range}
use Rattle.std.proofs.lemmas.Iterator.Search.{all_from_yields_List, find_from_yields_List}
use Rattle.std.proofs.lemmas.List.Folds.{list_all-append}
use Rattle.std.specs.Fn.{Called, CalledAt}
use Rattle.std.specs.Iterator.{AlwaysYields, ChecksAll, FindsItem}
use Rattle.std.specs.List.{range_with_len, list_all, find}
use Rattle.std.specs.Option.{option_map}
use Rattle.std.specs.declared.ops.Range.{Range}
use denote.Param.Members.{Mut}
use denote.Ref.{Bor}
use Rattle.search.specs.Search.{nearest, passes}
use Rattle.search.proofs.Searches.{passes_at, nearest_same}
use Rattle.ordering.specs.Tests.{some_below}
use Rattle.ordering.proofs.Ranges.{range_more}
use Rattle.checker.specs.Tests.{all_below}

-- Every number below the bound passes: each of the list of those numbers does.
all_is_all_below : (t : ℕ → Bool) (n : ℕ) → list_all t (range_with_len 0 n) ≡ all_below t n
unfolding all_below
all_is_all_below t zero = refl
all_is_all_below t (suc n) =
    let last : 0 + n ≡ n = omega arith in
    ap (list_all t) (range_more 0 n)
    ∙ list_all-append t (range_with_len 0 n) ((0 + n) ∷ [])
    ∙ and_comm (list_all t (range_with_len 0 n)) (t (0 + n) && true)
    ∙ (λ i. and_comm (t (last i)) true i && all_is_all_below t n i)

-- `all` over the numbers below n, by a closure that computes the test t.
pub all_from_all : {F : Type 0} {g : Mut F (ℕ × Unit {0}) Bool} {f : F} {u : Range ℕ} {r : Bool} (t : ℕ → Bool) (n m : ℕ) → n ≡ m →
    ChecksAll nat_range_steps g (record { start = 0; end = n }) f r u → ((x : ℕ) (b : Bool) (q : F) → Called g f (x, tt) b q → (q ≡ f) × (b ≡ t x)) →
    r ≡ all_below t m
all_from_all t n m e ran h = all_from_yields_List t _ _ _ ran (YieldsList-from_range 0 n n refl (omega arith)) h ∙ all_is_all_below t n ∙ ap (all_below t) e

-- The numbers below n, the last first.
abbrev down : ℕ → List ℕ
down zero = []
down (suc n) = n ∷ down n

-- A range that is taken from its end gives them.
down_yields : (n : ℕ) (s : Range ℕ) → s.start ≡ 0 → s.end ≡ n → AlwaysYields nat_range_steps_back (λ x. x) s (down n)
down_yields zero s a b = λ x j p. omega (arith, p.1.0)
down_yields (suc n) s a b = ((λ j p. omega (arith, p.1.0)), λ x j p. (omega (arith, p.1.1, p.1.2), down_yields n j (p.0 ∙ a) (omega (arith, p.1.2))))

-- The first of them that passes is the nearest below the bound.
find_is_nearest : (t : ℕ → Bool) (n : ℕ) → find t (down n) ≡ nearest t n
unfolding nearest
find_is_nearest t zero = refl
find_is_nearest t (suc n) = ap (cond (t n) (Some n)) (find_is_nearest t n)

-- What was found, as it is.
as_found : (r : Option ℕ) → option_map (λ x. x) r ≡ r
as_found None = refl
as_found (Some x) = refl

-- `rfind` over the numbers below n, by a closure that computes the test t.
pub nearest_from_rfind : {F : Type 0} {g : Mut F (Bor ℕ × Unit {0}) Bool} {f : F} {r : Option ℕ} (t : ℕ → Bool) (n m : ℕ) → n ≡ m → (u : Range ℕ) →
    FindsItem nat_range_steps_back g (record { start = 0; end = n }) f r u → ((x : ℕ) (b : Bool) (q : F) → CalledAt g f x b q → (q ≡ f) × (b ≡ t x)) →
    r ≡ nearest t m
nearest_from_rfind t n m e u ran h =
    sym (as_found _)
    ∙ find_from_yields_List {steps = nat_range_steps_back} {s = record { start = 0; end = n }} t u _ _ ran (record { runs = down_yields n (record { start = 0; end = n }) refl refl }) h
    ∙ find_is_nearest t n
    ∙ ap (nearest t) e

-- Some number passes exactly where the search finds one.
pub some_is_found : (t : ℕ → Bool) (n : ℕ) → some_below t n ≡ is_some (nearest t n)
unfolding some_below nearest
some_is_found t zero = refl
some_is_found t (suc n) = go (t n) (some_below t n) (nearest t n) (some_is_found t n)
  where
    go : (b s : Bool) (o : Option ℕ) → s ≡ is_some o → (b || s) ≡ is_some (cond b (Some n) o)
    go true s o e = refl
    go false s o e = e

-- The search over the elements of a list is the search over their places.
pub nearest_by_places : {X : Type 0} (p : X → Bool) (xs : List X) (d : X) (n : ℕ) → n ≤ length xs → nearest (passes p xs) n ≡ nearest (λ k. p (get_or xs k d)) n
nearest_by_places p xs d n l = nearest_same (passes p xs) (λ k. p (get_or xs k d)) n (λ k m. passes_at p xs k d (omega arith))
