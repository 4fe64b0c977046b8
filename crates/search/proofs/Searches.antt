-- What a search finds: exactly the nearest place or the first place, or nothing where nothing passes.
use Rattle.std.proofs.Common.{◌≡◌, ℕ, zero, suc, ◌+◌, ◌-◌, ◌<◌, ◌≤◌, Bool, true, false, cond, List, map, length, get_or, Some, None, Option, sym, refl, ap, ◌∙◌, inl, inr, add-one, arith}
use Rattle.std.proofs.lemmas.List.{get_or-map, get_or_past, length-map}
use Rattle.std.proofs.lemmas.Bool.{cases_eq, cases_order, both_ways}
use Rattle.search.specs.Search.{nearest, first, passes, Nearest, NoneBelow, First, NoneFrom, Sought, Met}

-- The next place fails: nothing below the bound passes, so nothing below the next bound does.
pub none_below_more : (t : ℕ → Bool) (i : ℕ) → t i ≡ false → NoneBelow t i → NoneBelow t (suc i)
none_below_more t i f h m l = elim (cases_eq m i) [ inl e ↦ ap t e ∙ f | inr n ↦ h m (omega arith) ]

-- The next place fails: the nearest stays the nearest.
pub nearest_more : (t : ℕ → Bool) (i k : ℕ) → t i ≡ false → Nearest t i k → Nearest t (suc i) k
nearest_more t i k f n = record {
  below = omega (arith, n.below);
  hit = n.hit;
  between = λ m a b. elim (cases_eq m i) [ inl e ↦ ap t e ∙ f | inr q ↦ n.between m a (omega arith) ];
}

-- The nearest search finds exactly the nearest.
pub nearest_found : (t : ℕ → Bool) (i : ℕ) → Sought t i (nearest t i)
unfolding nearest
nearest_found t zero = Sought.nothing (λ m l. absurd (omega arith))
nearest_found t (suc i) = go (t i) refl (nearest_found t i)
  where
    go : (b : Bool) → t i ≡ b → {o : Option ℕ} → Sought t i o → Sought t (suc i) (cond b (Some i) o)
    go true e s = Sought.found i (record { below = omega arith; hit = e; between = λ m a b. absurd (omega arith) })
    go false e (Sought.nothing h) = Sought.nothing (none_below_more t i e h)
    go false e (Sought.found k n) = Sought.found k (nearest_more t i k e n)

-- There is one nearest place.
pub nearest_only : (t : ℕ → Bool) (i j k : ℕ) → Nearest t i j → Nearest t i k → j ≡ k
nearest_only t i j k p q = elim (cases_order j k) [
  | inl e ↦ e
  | inr (inl l) ↦ absurd (both_ways (t k) (p.between k l q.below) q.hit)
  | inr (inr l) ↦ absurd (both_ways (t j) (q.between j l p.below) p.hit)
]

-- The nearest place is what the search finds.
pub nearest_is : (t : ℕ → Bool) (i k : ℕ) → Nearest t i k → nearest t i ≡ Some k
nearest_is t i k n = go (nearest_found t i)
  where
    go : {o : Option ℕ} → Sought t i o → o ≡ Some k
    go (Sought.nothing h) = absurd (both_ways (t k) (h k n.below) n.hit)
    go (Sought.found j q) = ap Some (nearest_only t i j k q n)

-- Where nothing below the bound passes, the search finds nothing.
pub nearest_is_none : (t : ℕ → Bool) (i : ℕ) → NoneBelow t i → nearest t i ≡ None
nearest_is_none t i h = go (nearest_found t i)
  where
    go : {o : Option ℕ} → Sought t i o → o ≡ None
    go (Sought.nothing _) = refl
    go (Sought.found k n) = absurd (both_ways (t k) (h k n.below) n.hit)

-- What the search finds is the nearest place.
pub nearest_some : (t : ℕ → Bool) (i k : ℕ) → nearest t i ≡ Some k → Nearest t i k
nearest_some t i k e = go (nearest_found t i) e
  where
    go : {o : Option ℕ} → Sought t i o → o ≡ Some k → Nearest t i k
    go (Sought.nothing h) f = let z : ◌≡◌ {A = ℕ} 0 1 = cc in absurd (omega arith)
    go (Sought.found j n) f = let z : j ≡ k = cc in rw z at n

-- Where the search finds nothing, nothing below the bound passes.
pub nearest_none : (t : ℕ → Bool) (i : ℕ) → nearest t i ≡ None → NoneBelow t i
nearest_none t i e = go (nearest_found t i) e
  where
    go : {o : Option ℕ} → Sought t i o → o ≡ None → NoneBelow t i
    go (Sought.nothing h) f = h
    go (Sought.found k n) f = let z : ◌≡◌ {A = ℕ} 0 1 = cc in absurd (omega arith)

-- Two tests that agree below the bound have the same nearest place.
pub nearest_same : (t u : ℕ → Bool) (i : ℕ) → ((k : ℕ) → k < i → t k ≡ u k) → nearest t i ≡ nearest u i
unfolding nearest
nearest_same t u zero h = refl
nearest_same t u (suc i) h = rw (h i (omega arith), nearest_same t u i (λ k l. h k (omega arith)))

-- Below zero there is nothing.
pub nearest_zero : (t : ℕ → Bool) → nearest t 0 ≡ None
unfolding nearest
nearest_zero t = refl

-- One place more: that place if it passes, else what was found before.
pub nearest_next : (t : ℕ → Bool) (i : ℕ) → nearest t (i + 1) ≡ cond (t i) (Some i) (nearest t i)
unfolding nearest
nearest_next t i = rw add-one refl

-- The next place passes: it is found.
pub nearest_hit : (t : ℕ → Bool) (i : ℕ) → t i ≡ true → nearest t (i + 1) ≡ Some i
nearest_hit t i h = nearest_next t i ∙ rw h refl

-- The next place fails: the search finds what it found before.
pub nearest_miss : (t : ℕ → Bool) (i : ℕ) → t i ≡ false → nearest t (i + 1) ≡ nearest t i
nearest_miss t i h = nearest_next t i ∙ rw h refl

-- The place under the bound passes: it is found.
pub nearest_hit_under : (t : ℕ → Bool) (i : ℕ) → 0 < i → t (i - 1) ≡ true → nearest t i ≡ Some (i - 1)
nearest_hit_under t i l h =
    let e : i ≡ (i - 1) + 1 = omega arith in
    ap (nearest t) e ∙ nearest_hit t (i - 1) h

-- The place under the bound fails: the search goes on below it.
pub nearest_miss_under : (t : ℕ → Bool) (i : ℕ) → 0 < i → t (i - 1) ≡ false → nearest t i ≡ nearest t (i - 1)
nearest_miss_under t i l h =
    let e : i ≡ (i - 1) + 1 = omega arith in
    ap (nearest t) e ∙ nearest_miss t (i - 1) h

-- The place before fails: nothing from it on passes but what passes after it.
pub none_from_more : (t : ℕ → Bool) (i n : ℕ) → t i ≡ false → NoneFrom t (suc i) n → NoneFrom t i (suc n)
none_from_more t i n f h m a b = elim (cases_eq m i) [ inl e ↦ ap t e ∙ f | inr q ↦ h m (omega arith) (omega arith) ]

-- The place before fails: the first stays the first.
pub first_more : (t : ℕ → Bool) (i n k : ℕ) → t i ≡ false → First t (suc i) n k → First t i (suc n) k
first_more t i n k f p = record {
  from = omega (arith, p.from);
  within = omega (arith, p.within);
  hit = p.hit;
  between = λ m a b. elim (cases_eq m i) [ inl e ↦ ap t e ∙ f | inr q ↦ p.between m (omega arith) b ];
}

-- The first search finds exactly the first.
pub first_found : (t : ℕ → Bool) (i n : ℕ) → Met t i n (first t i n)
unfolding first
first_found t i zero = Met.nothing (λ m a b. absurd (omega arith))
first_found t i (suc n) = go (t i) refl (first_found t (suc i) n)
  where
    go : (b : Bool) → t i ≡ b → {o : Option ℕ} → Met t (suc i) n o → Met t i (suc n) (cond b (Some i) o)
    go true e s =
        Met.found i (record { from = omega arith; within = omega arith; hit = e; between = λ m a b. absurd (omega arith) })
    go false e (Met.nothing h) = Met.nothing (none_from_more t i n e h)
    go false e (Met.found k p) = Met.found k (first_more t i n k e p)

-- There is one first place.
pub first_only : (t : ℕ → Bool) (i n j k : ℕ) → First t i n j → First t i n k → j ≡ k
first_only t i n j k p q = elim (cases_order j k) [
  | inl e ↦ e
  | inr (inl l) ↦ absurd (both_ways (t j) (q.between j p.from l) p.hit)
  | inr (inr l) ↦ absurd (both_ways (t k) (p.between k q.from l) q.hit)
]

-- The first place is what the search finds.
pub first_is : (t : ℕ → Bool) (i n k : ℕ) → First t i n k → first t i n ≡ Some k
first_is t i n k p = go (first_found t i n)
  where
    go : {o : Option ℕ} → Met t i n o → o ≡ Some k
    go (Met.nothing h) = absurd (both_ways (t k) (h k p.from p.within) p.hit)
    go (Met.found j q) = ap Some (first_only t i n j k q p)

-- Where nothing from the start on passes, the search finds nothing.
pub first_is_none : (t : ℕ → Bool) (i n : ℕ) → NoneFrom t i n → first t i n ≡ None
first_is_none t i n h = go (first_found t i n)
  where
    go : {o : Option ℕ} → Met t i n o → o ≡ None
    go (Met.nothing _) = refl
    go (Met.found k p) = absurd (both_ways (t k) (h k p.from p.within) p.hit)

-- What the search finds is the first place.
pub first_some : (t : ℕ → Bool) (i n k : ℕ) → first t i n ≡ Some k → First t i n k
first_some t i n k e = go (first_found t i n) e
  where
    go : {o : Option ℕ} → Met t i n o → o ≡ Some k → First t i n k
    go (Met.nothing h) f = let z : ◌≡◌ {A = ℕ} 0 1 = cc in absurd (omega arith)
    go (Met.found j p) f = let z : j ≡ k = cc in rw z at p

-- Where the search finds nothing, nothing from the start on passes.
pub first_none : (t : ℕ → Bool) (i n : ℕ) → first t i n ≡ None → NoneFrom t i n
first_none t i n e = go (first_found t i n) e
  where
    go : {o : Option ℕ} → Met t i n o → o ≡ None → NoneFrom t i n
    go (Met.nothing h) f = h
    go (Met.found k p) f = let z : ◌≡◌ {A = ℕ} 0 1 = cc in absurd (omega arith)

-- Two tests that agree from the start on have the same first place.
pub first_same : (t u : ℕ → Bool) (i n : ℕ) → ((k : ℕ) → i ≤ k → k < i + n → t k ≡ u k) → first t i n ≡ first u i n
unfolding first
first_same t u i zero h = refl
first_same t u i (suc n) h =
    rw (h i (omega arith) (omega arith), first_same t u (suc i) n (λ k a b. h k (omega arith) (omega arith)))

-- Among no places there is nothing.
pub first_zero : (t : ℕ → Bool) (i : ℕ) → first t i 0 ≡ None
unfolding first
first_zero t i = refl

-- One place more at the front: that place if it passes, else what is found after it.
pub first_next : (t : ℕ → Bool) (i n : ℕ) → first t i (n + 1) ≡ cond (t i) (Some i) (first t (i + 1) n)
unfolding first
first_next t i n = rw (add-one n, add-one i) refl

-- The place at the start passes: it is found.
pub first_hit : (t : ℕ → Bool) (i n : ℕ) → t i ≡ true → first t i (n + 1) ≡ Some i
first_hit t i n h = first_next t i n ∙ rw h refl

-- The place at the start fails: the search finds what it finds after it.
pub first_miss : (t : ℕ → Bool) (i n : ℕ) → t i ≡ false → first t i (n + 1) ≡ first t (i + 1) n
first_miss t i n h = first_next t i n ∙ rw h refl

-- Up to an end: the place at the start passes, so it is found.
pub first_hit_under : (t : ℕ → Bool) (i n : ℕ) → i < n → t i ≡ true → first t i (n - i) ≡ Some i
first_hit_under t i n l h =
    let e : n - i ≡ (n - (i + 1)) + 1 = omega arith in
    ap (first t i) e ∙ first_hit t i (n - (i + 1)) h

-- Up to an end: the place at the start fails, so the search goes on after it.
pub first_miss_under : (t : ℕ → Bool) (i n : ℕ) → i < n → t i ≡ false → first t i (n - i) ≡ first t (i + 1) (n - (i + 1))
first_miss_under t i n l h =
    let e : n - i ≡ (n - (i + 1)) + 1 = omega arith in
    ap (first t i) e ∙ first_miss t i (n - (i + 1)) h

-- Up to an end that is not after the start there is nothing.
pub first_past : (t : ℕ → Bool) (i n : ℕ) → n ≤ i → first t i (n - i) ≡ None
first_past t i n l =
    let e : n - i ≡ 0 = omega arith in
    ap (first t i) e ∙ first_zero t i

-- Within the list a place passes as its element does.
pub passes_at : {X : Type 0} (p : X → Bool) (xs : List X) (i : ℕ) (d : X) → i < length xs → passes p xs i ≡ p (get_or xs i d)
passes_at p xs i d l = get_or-map p xs i d false l

-- Past the end no place passes.
pub passes_past : {X : Type 0} (p : X → Bool) (xs : List X) (i : ℕ) → length xs ≤ i → passes p xs i ≡ false
passes_past p xs i l = get_or_past (map p xs) i false (omega (arith, length-map xs p))

-- A place that was read passes as what was read does.
pub passes_read : {X : Type 0} (p : X → Bool) (xs : List X) (i : ℕ) (x : X) → i < length xs → x ≡ get_or xs i x → passes p xs i ≡ p x
passes_read p xs i x l r = passes_at p xs i x l ∙ ap p (sym r)
