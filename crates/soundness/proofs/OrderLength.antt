-- The memory order is no longer than there are positions: four processors of sixteen entries give at most 64 accesses.
use Rattle.std.proofs.Common.{◌≡◌, ℕ, zero, suc, ◌+◌, ◌*◌, ◌<◌, ◌≤◌, Bool, true, false, cond, not, eqb, ◌≢◌, List, [], ◌∷◌, length, sym, refl, ap, ◌∙◌, ap₂, inl, inr, arith}
use Rattle.std.proofs.lemmas.Bool.{cases_eq, eq-eqb, ne_eqb, not-true, eqb-false}
use Rattle.witness.specs.declared.record.Access.{Access}
use Rattle.machine.specs.Steps.{only}
use Rattle.soundness.proofs.Worlds.{Row}
use Rattle.soundness.proofs.Ends.{moment}
use Rattle.soundness.proofs.Orders.{In, Rises, in_only}
use Rattle.soundness.proofs.Listing.{Lists}

-- No two of the list have one number.
abbrev Apart : (Access → ℕ) → List Access → Type 0
Apart g [] = Unit {0}
Apart g (x ∷ l) = ((y : Access) → In y l → g x ≢ g y) × Apart g l

apart_only : (g : Access → ℕ) (t : Access → Bool) (l : List Access) → Apart g l → Apart g (only t l)
apart_only g t [] h = tt
apart_only g t (x ∷ l) h = go (t x) (apart_only g t l h.1)
  where
    go : (b : Bool) → Apart g (only t l) → Apart g (cond b (x ∷ only t l) (only t l))
    go true r = (λ y i. h.0 y (in_only t l y i).0, r)
    go false r = r

-- Where all pass, all stay.
only_all : (t : Access → Bool) (l : List Access) → ((y : Access) → In y l → t y ≡ true) → length (only t l) ≡ length l
only_all t [] h = refl
only_all t (x ∷ l) h = rw (h x (inl refl)) (ap suc (only_all t l (λ y i. h y (inr i))))

-- At most one has the number m.
one_less : (g : Access → ℕ) (m : ℕ) (l : List Access) → Apart g l → length l ≤ suc (length (only (λ x. not (eqb (g x) m)) l))
one_less g m [] h = omega arith
one_less g m (x ∷ l) h = elim (cases_eq (g x) m) [
  | inl e ↦ rw (eq-eqb (g x) m e) (let z = only_all (λ y. not (eqb (g y) m)) l (λ y i. rw (ne_eqb (g y) m (λ q. h.0 y i (e ∙ sym q)))) in omega arith)
  | inr e ↦ rw (ne_eqb (g x) m e) (let z = one_less g m l h.1 in omega arith)
]

-- Numbers below m, all apart, are at most m.
few : (g : Access → ℕ) (m : ℕ) (l : List Access) → ((x : Access) → In x l → g x < m) → Apart g l → length l ≤ m
few g zero [] b h = omega arith
few g zero (x ∷ l) b h = absurd (omega (arith, b x (inl refl)))
few g (suc m) l b h =
    let t : Access → Bool = λ x. not (eqb (g x) m) in
    let r = few g m (only t l) (λ x i. let q = in_only t l x i in
    let n : g x ≢ m = eqb-false (g x) m (not-true (eqb (g x) m) q.1) in omega (arith, b x q.0)) (apart_only g t l h) in
    omega (arith, one_less g m l h)

-- The number of a position among those of sixteen entries a processor.
abbrev number : Access → ℕ
number a = a.processor * 16 + a.position

-- Accesses that rise in time are apart.
rises_apart : (s : ℕ → Row) (l : List Access) → Rises (moment s) l → ((a : Access) → In a l → a.position < 16) → Apart number l
rises_apart s [] h b = tt
rises_apart s (x ∷ l) h b = (apart, rises_apart s l h.1 (λ a i. b a (inr i)))
  where
    apart : (y : Access) → In y l → number x ≢ number y
    apart y i e =
        let bx = b x (inl refl) in
        let by = b y (inr i) in
        let p : x.processor ≡ y.processor = omega arith in
        let q : x.position ≡ y.position = omega arith in
        omega (arith, h.0 y i, ap₂ (λ a b. (s a).time b) p q)

-- The order of N processors of at most sixteen entries.
pub lists_short : (s : ℕ → Row) (l : List Access) (N : ℕ) → Lists s l → ((p k : ℕ) → k < (s p).size → (p < N) × (k < 16)) → length l ≤ N * 16
lists_short s l N li b = few number (N * 16) l
    (λ a i. let r = b a.processor a.position (li.sound a i).0 in omega arith)
    (rises_apart s l li.rises (λ a i. (b a.processor a.position (li.sound a i).0).1))
