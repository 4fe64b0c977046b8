-- What `position` and `rposition` find in a part of a slice is what the searches find in the whole.
use Rattle.std.proofs.Common.{◌≡◌, ℕ, ◌+◌, ◌-◌, ◌<◌, ◌≤◌, min, Bool, true, false, List, [], ◌∷◌, length, get_or, take, drop, Some, None, Option, MatchOption, IfSome, IsTrue, Bor, sym, ap, ◌∙◌, subst, inl, inr, arith}
use Rattle.std.proofs.lemmas.List.{length-take, length-drop, take_all, get_or-take, get_or-drop}
use Rattle.std.specs.Option.{IsSomeAnd, option_map}
use Rattle.std.specs.Iterator.Runs.{Run, ItemsMapTo, ItemsMapToReversed, AllItemsGive, IsFirstToGive, CallKeepsClosure}
use Rattle.std.proofs.lemmas.Bool.{cases_order}
use denote.Param.Members.{Mut, Called}
use Rattle.search.specs.Search.{nearest, first, passes, Nearest, NoneBelow, First, NoneFrom}
use Rattle.search.proofs.Searches.{nearest_is, nearest_is_none, first_is, first_is_none, passes_at, passes_past}

-- The first element, where there is one at all.
some_of : {A : Type 0} (xs : List A) (k : ℕ) → k < length xs → A
some_of [] k l = absurd (omega arith)
some_of (x ∷ xs) k l = x

module _ {S A F : Type 0} {steps : S → Option (Bor A) → S → Type 0} (u : Run steps) (g : Mut F (Bor A × Unit {0}) Bool) (f : F) (p : A → Bool) (xs : List A) (tells : (x : Bor A) (r : Bool) (q : F) → Called g f (x, tt) r q → r ≡ p x.now) where
  -- The answer at the item that stands for place k.
  answered : (k : ℕ) (d : A) (r : Bool) (o : Option (Bor A)) → k < length xs → option_map (λ y. y.now) o ≡ Some (get_or xs k d) → IfSome o (λ x. Called g f (x, tt) r f) → passes p xs k ≡ r
  answered k d r None l e h = let z : ◌≡◌ {A = ℕ} 0 1 = cc e in absurd (omega arith)
  answered k d r (Some x) l e h =
      let v : x.now ≡ get_or xs k d = cc e in
      passes_at p xs k d l ∙ ap p (sym v) ∙ sym (tells x r f h)

  -- The same, of an item that is there.
  answered_there : (k : ℕ) (d : A) (r : Bool) (o : Option (Bor A)) → k < length xs → option_map (λ y. y.now) o ≡ Some (get_or xs k d) → IsSomeAnd o (λ x. Called g f (x, tt) r f) → passes p xs k ≡ r
  answered_there k d r None l e h = absurd h
  answered_there k d r (Some x) l e h = answered k d r (Some x) l e h

  module _ (keeps : CallKeepsClosure g f) where
    -- From the back: nothing passes, or the place found is the nearest to the end.
    pub found_back : (r : Option ℕ) → ItemsMapToReversed u (λ y. y.now) xs → IfSome r (λ i. i < length xs) →
        MatchOption r (IsTrue u.whole × AllItemsGive u g f false) (λ i. (i + u.len ≡ length xs) × IsFirstToGive u g f true false (length xs - 1 - i)) →
        MatchOption r (NoneBelow (passes p xs) (length xs)) (λ k. Nearest (passes p xs) (length xs) k)
    found_back None items b (w, h) = λ k l.
        let d = some_of xs k l in
        answered k d false _ l (items.2 k d l (omega (arith, items.1 w))) (h keeps (length xs - 1 - k))
    found_back (Some i) items b (n, h) = record {
      below = b;
      hit = (let d = some_of xs i b in answered_there i d true _ b (items.2 i d b (omega (arith, n, b))) (h keeps).0);
      between = λ k a l. (let d = some_of xs k l in answered_there k d false _ l (items.2 k d l (omega (arith, n, b))) ((h keeps).1 (length xs - 1 - k) (omega arith)));
    }

    -- From the front: nothing passes, or the place found is the first.
    pub found_front : (r : Option ℕ) → ItemsMapTo u (λ y. y.now) xs → IfSome r (λ i. i < length xs) →
        MatchOption r (IsTrue u.whole × AllItemsGive u g f false) (λ i. (u.len ≡ i + 1) × IsFirstToGive u g f true false i) →
        MatchOption r (NoneFrom (passes p xs) 0 (length xs)) (λ k. First (passes p xs) 0 (length xs) k)
    found_front None items b (w, h) = λ k a l.
        let m : k < length xs = omega arith in
        let d = some_of xs k m in
        answered k d false _ m (items.2 k d (omega (arith, items.1 w))) (h keeps k)
    found_front (Some i) items b (n, h) = record {
      from = omega arith;
      within = omega arith;
      hit = (let d = some_of xs i b in answered_there i d true _ b (items.2 i d (omega (arith, n))) (h keeps).0);
      between = λ k a l. (
          let m : k < length xs = omega arith in
          let d = some_of xs k m in answered_there k d false _ m (items.2 k d (omega (arith, n))) ((h keeps).1 k l));
    }

module _ {A : Type 0} (p : A → Bool) (xs : List A) where
  -- Nothing of a list passes, or the place is the nearest to its end.
  abbrev Finds : List A → Option ℕ → Type 0
  Finds ys r = MatchOption r (NoneBelow (passes p ys) (length ys)) (λ k. Nearest (passes p ys) (length ys) k)

  -- A place in the front part passes as it does in the whole.
  passes_front : (n k : ℕ) → k < n → k < length xs → passes p (take n xs) k ≡ passes p xs k
  passes_front n k l m =
      let d = some_of xs k m in
      passes_at p (take n xs) k d (omega (arith, length-take n xs)) ∙ ap p (get_or-take n xs k d l) ∙ sym (passes_at p xs k d m)

  -- A place in the part behind passes as it does in the whole.
  passes_behind : (n k : ℕ) → n + k < length xs → passes p (drop n xs) k ≡ passes p xs (n + k)
  passes_behind n k l =
      let d = some_of xs (n + k) l in
      passes_at p (drop n xs) k d (omega (arith, length-drop n xs)) ∙ ap p (get_or-drop n xs k d) ∙ sym (passes_at p xs (n + k) d l)

  module _ (n : ℕ) where
    -- A place below the bound fails if it fails in the part below the bound.
    fails_below : (k : ℕ) → k < n → (k < length (take (min n (length xs)) xs) → passes p (take (min n (length xs)) xs) k ≡ false) → passes p xs k ≡ false
    fails_below k l h = elim (cases_order k (length xs)) [
      | inl e ↦ passes_past p xs k (omega arith)
      | inr (inl m) ↦ sym (passes_front (min n (length xs)) k (omega arith) m) ∙ h (omega (arith, length-take (min n (length xs)) xs))
      | inr (inr m) ↦ passes_past p xs k (omega arith)
    ]

    front : (r : Option ℕ) → Finds (take (min n (length xs)) xs) r → r ≡ nearest (passes p xs) n
    front None h = sym (nearest_is_none (passes p xs) n (λ k l. fails_below k l (h k)))
    front (Some k) h =
        let b = h.below in
        let m : k < length xs = omega (arith, length-take (min n (length xs)) xs) in
        sym (nearest_is (passes p xs) n k (record {
          below = omega (arith, length-take (min n (length xs)) xs);
          hit = sym (passes_front (min n (length xs)) k (omega (arith, length-take (min n (length xs)) xs)) m) ∙ h.hit;
          between = λ j a l. fails_below j l (h.between j a);
        }))

    -- The nearest in the part below the bound is the nearest below the bound.
    pub nearest_in_front : (ys : List A) (r : Option ℕ) → ys ≡ take (min n (length xs)) xs → Finds ys r → r ≡ nearest (passes p xs) n
    nearest_in_front ys r e h = front r (subst (λ zs. Finds zs r) e h)

  module _ (n : ℕ) where
    -- Nothing of a list passes, or the place is the first in it.
    abbrev Meets : List A → Option ℕ → Type 0
    Meets ys r = MatchOption r (NoneFrom (passes p ys) 0 (length ys)) (λ k. First (passes p ys) 0 (length ys) k)

    -- A place from the start on fails if it fails in the part from the start on.
    fails_from : (k : ℕ) → n ≤ k → k < n + (length xs - n) → passes p (drop (min n (length xs)) xs) (k - n) ≡ false → passes p xs k ≡ false
    fails_from k l m h =
        let e : min n (length xs) + (k - n) ≡ k = omega arith in
        ap (passes p xs) (sym e) ∙ sym (passes_behind (min n (length xs)) (k - n) (omega arith)) ∙ h

    behind : (r : Option ℕ) → Meets (drop (min n (length xs)) xs) r → option_map (λ k. n + k) r ≡ first (passes p xs) n (length xs - n)
    behind None h = sym (first_is_none (passes p xs) n (length xs - n) (λ k l m. fails_from k l m (h (k - n) (omega arith) (omega (arith, length-drop (min n (length xs)) xs)))))
    behind (Some k) h =
        let m : n + k < length xs = omega (arith, h.within, length-drop (min n (length xs)) xs) in
        let e : min n (length xs) + k ≡ n + k = omega arith in
        sym (first_is (passes p xs) n (length xs - n) (n + k) (record {
          from = omega arith;
          within = omega arith;
          hit = ap (passes p xs) (sym e) ∙ sym (passes_behind (min n (length xs)) k (omega arith)) ∙ h.hit;
          between = λ j a l. fails_from j a (omega arith) (h.between (j - n) (omega arith) (omega arith));
        }))

    -- The first in the part from the start on, counted from there, is the first from the start on.
    pub first_behind : (m : ℕ) (ys : List A) (r : Option ℕ) → m ≡ min n (length xs) → ys ≡ take (length xs - m) (drop m xs) → Meets ys r →
        option_map (λ k. n + k) r ≡ first (passes p xs) n (length xs - n)
    first_behind m ys r e f h =
        let w : ys ≡ drop m xs = f ∙ take_all (length xs - m) (drop m xs) (omega (arith, length-drop m xs)) in
        behind r (subst (λ zs. Meets zs r) (w ∙ ap (λ j. drop j xs) e) h)
