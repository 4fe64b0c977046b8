-- A list of accesses that rises in time: what stands in it and what precedes what.
use Rattle.std.proofs.Common.{◌≡◌, ℕ, zero, suc, ◌<◌, Bool, true, false, cond, ◌⊎◌, List, [], ◌∷◌, ◌++◌, sym, refl, ap, ◌∙◌, inl, inr, arith}
use Rattle.witness.specs.declared.record.Access.{Access}
use Rattle.machine.specs.Steps.{only}
use Rattle.checker.specs.Terms.{Stands, Precedes}

-- It is one of the list's.
abbrev pub In : Access → List Access → Type 0
In x [] = ⊥
In x (y ∷ l) = (x ≡ y) ⊎ In x l

-- Each is before all that stand behind it.
abbrev pub Rises : (Access → ℕ) → List Access → Type 0
Rises f [] = Unit {0}
Rises f (x ∷ l) = ((y : Access) → In y l → f x < f y) × Rises f l

pub in_push : (l : List Access) (x z : Access) → In x (l ++ (z ∷ [])) → In x l ⊎ (x ≡ z)
in_push [] x z (inl e) = inr e
in_push [] x z (inr e) = absurd e
in_push (y ∷ l) x z (inl e) = inl (inl e)
in_push (y ∷ l) x z (inr e) = elim (in_push l x z e) [ inl h ↦ inl (inr h) | inr h ↦ inr h ]

pub push_in : (l : List Access) (x z : Access) → In x l → In x (l ++ (z ∷ []))
push_in [] x z e = absurd e
push_in (y ∷ l) x z (inl e) = inl e
push_in (y ∷ l) x z (inr e) = inr (push_in l x z e)

pub push_last : (l : List Access) (z : Access) → In z (l ++ (z ∷ []))
push_last [] z = inl refl
push_last (y ∷ l) z = inr (push_last l z)

pub rises_push : (f : Access → ℕ) (l : List Access) (z : Access) → Rises f l → ((y : Access) → In y l → f y < f z) → Rises f (l ++ (z ∷ []))
rises_push f [] z h b = (λ y e. absurd e, tt)
rises_push f (x ∷ l) z h b =
    (λ y e. elim (in_push l y z e) [ inl i ↦ h.0 y i | inr i ↦ rw i (b x (inl refl)) ], rises_push f l z h.1 (λ y e. b y (inr e)))

pub rises_same : (f g : Access → ℕ) (l : List Access) → ((y : Access) → In y l → g y ≡ f y) → Rises f l → Rises g l
rises_same f g [] e h = tt
rises_same f g (x ∷ l) e h = (λ y i. omega (arith, e x (inl refl), e y (inr i), h.0 y i), rises_same f g l (λ y i. e y (inr i)) h.1)

pub in_only : (t : Access → Bool) (l : List Access) (x : Access) → In x (only t l) → In x l × (t x ≡ true)
in_only t [] x e = absurd e
in_only t (y ∷ l) x e = go (t y) refl (in_only t l x) e
  where
    go : (b : Bool) → t y ≡ b → (In x (only t l) → In x l × (t x ≡ true)) → In x (cond b (y ∷ only t l) (only t l)) → In x (y ∷ l) × (t x ≡ true)
    go true e ih (inl h) = (inl h, ap t h ∙ e)
    go true e ih (inr h) = let r = ih h in (inr r.0, r.1)
    go false e ih h = let r = ih h in (inr r.0, r.1)

pub only_in : (t : Access → Bool) (l : List Access) (x : Access) → In x l → t x ≡ true → In x (only t l)
only_in t [] x e h = e
only_in t (y ∷ l) x e h = go (t y) refl e (λ i. only_in t l x i h)
  where
    go : (b : Bool) → t y ≡ b → (x ≡ y) ⊎ In x l → (In x l → In x (only t l)) → In x (cond b (y ∷ only t l) (only t l))
    go true q (inl p) ih = inl p
    go true q (inr p) ih = inr (ih p)
    go false q (inl p) ih = absurd (let z : ◌≡◌ {A = ℕ} 0 1 = cc in omega arith)
    go false q (inr p) ih = ih p

pub rises_only : (f : Access → ℕ) (t : Access → Bool) (l : List Access) → Rises f l → Rises f (only t l)
rises_only f t [] h = tt
rises_only f t (x ∷ l) h = go (t x) (rises_only f t l h.1)
  where
    go : (b : Bool) → Rises f (only t l) → Rises f (cond b (x ∷ only t l) (only t l))
    go true r = (λ y i. h.0 y (in_only t l y i).0, r)
    go false r = r

-- What is one of the list's stands at a number, and what stands at a number is.
pub stands_in : (l : List Access) (i : ℕ) (x : Access) → Stands l i x → In x l
stands_in [] i x h = absurd (omega (arith, h.0))
stands_in (y ∷ l) zero x h = inl (sym h.1)
stands_in (y ∷ l) (suc i) x h = inr (stands_in l i x (omega (arith, h.0), h.1))

pub in_stands : (l : List Access) (x : Access) → In x l → (i : ℕ) × Stands l i x
in_stands [] x h = absurd h
in_stands (y ∷ l) x (inl e) = (0, (omega arith, sym e))
in_stands (y ∷ l) x (inr h) = let r = in_stands l x h in (suc r.0, (omega (arith, r.1.0), r.1.1))

-- Numbers rise as times do.
pub rises_stands : (f : Access → ℕ) (l : List Access) → Rises f l → (i j : ℕ) (x y : Access) → i < j → Stands l i x → Stands l j y → f x < f y
rises_stands f [] h i j x y b p q = absurd (omega (arith, p.0))
rises_stands f (z ∷ l) h i zero x y b p q = absurd (omega arith)
rises_stands f (z ∷ l) h zero (suc j) x y b p q = rw (← p.1) (h.0 y (stands_in l j y (omega (arith, q.0), q.1)))
rises_stands f (z ∷ l) h (suc i) (suc j) x y b p q = rises_stands f l h.1 i j x y (omega arith) (omega (arith, p.0), p.1) (omega (arith, q.0), q.1)

-- What precedes is earlier.
pub precedes_earlier : (f : Access → ℕ) (l : List Access) (x y : Access) → Rises f l → Precedes l x y → f x < f y
precedes_earlier f l x y h p = rises_stands f l h p.first p.second x y p.before p.first_stands p.second_stands

precedes_next : (l : List Access) (x y z : Access) → Precedes l x y → Precedes (z ∷ l) x y
precedes_next l x y z p = record {
  first = suc p.first;
  second = suc p.second;
  before = omega (arith, p.before);
  first_stands = (omega (arith, p.first_stands.0), p.first_stands.1);
  second_stands = (omega (arith, p.second_stands.0), p.second_stands.1);
}

-- What is earlier precedes.
pub earlier_precedes : (f : Access → ℕ) (l : List Access) (x y : Access) → Rises f l → In x l → In y l → f x < f y → Precedes l x y
earlier_precedes f [] x y h p q b = absurd p
earlier_precedes f (z ∷ l) x y h (inl p) (inl q) b = absurd (omega (arith, ap f p, ap f q))
earlier_precedes f (z ∷ l) x y h (inl p) (inr q) b = let r = in_stands l y q in
    record { first = 0; second = suc r.0; before = omega arith; first_stands = (omega arith, sym p); second_stands = (omega (arith, r.1.0), r.1.1) }
earlier_precedes f (z ∷ l) x y h (inr p) (inl q) b = absurd (omega (arith, h.0 x p, ap f q))
earlier_precedes f (z ∷ l) x y h (inr p) (inr q) b = precedes_next l x y z (earlier_precedes f l x y h.1 p q b)

-- No two are done at one time.
pub one_at_a_time : (f : Access → ℕ) (l : List Access) (x y : Access) → Rises f l → In x l → In y l → f x ≡ f y → x ≡ y
one_at_a_time f [] x y h p q e = absurd p
one_at_a_time f (z ∷ l) x y h (inl p) (inl q) e = p ∙ sym q
one_at_a_time f (z ∷ l) x y h (inl p) (inr q) e = absurd (omega (arith, h.0 y q, ap f p))
one_at_a_time f (z ∷ l) x y h (inr p) (inl q) e = absurd (omega (arith, h.0 x p, ap f q))
one_at_a_time f (z ∷ l) x y h (inr p) (inr q) e = one_at_a_time f l x y h.1 p q e
