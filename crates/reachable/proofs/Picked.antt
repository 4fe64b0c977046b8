-- The elements of an order that pass a test, and how many different ones there can be.
use Rattle.std.proofs.Common.{◌≡◌, ℕ, zero, suc, ◌-◌, ◌<◌, ◌≤◌, Bool, true, false, cond, eqb, ltb, List, [], ◌∷◌, length, sym, refl, ap, ◌∙◌, ap₂, inl, inr, arith}
use Rattle.std.proofs.lemmas.Bool.{cases_lt, lt-ltb, le-ltb, eqb-true, eqb-false}
use Rattle.machine.specs.Steps.{only}
use Rattle.search.specs.Search.{nearest, Sought, nothing, found}
use Rattle.search.proofs.Searches.{nearest_found}
use Rattle.witness.specs.declared.record.Access.{Access}
use Rattle.reachable.specs.Order.{event_at}

-- No two elements are the same.
abbrev pub Once : List Access → Type 0
Once xs = (k m : ℕ) → k < m → m < length xs → event_at xs k ≡ event_at xs m → ⊥

-- What was picked stands among all and passes.
pub only_from : (t : Access → Bool) (xs : List Access) (k : ℕ) → k < length (only t xs) →
    (m : ℕ) × (m < length xs) × (event_at xs m ≡ event_at (only t xs) k) × (t (event_at xs m) ≡ true)
only_from t [] k l = absurd (omega arith)
only_from t (a ∷ xs) k l = go (t a) refl k l (only_from t xs)
  where
    go : (b : Bool) → t a ≡ b → (j : ℕ) → j < length (cond b (a ∷ only t xs) (only t xs)) →
        ((n : ℕ) → n < length (only t xs) → (m : ℕ) × (m < length xs) × (event_at xs m ≡ event_at (only t xs) n) × (t (event_at xs m) ≡ true)) →
        (m : ℕ) × (m < length (a ∷ xs)) × (event_at (a ∷ xs) m ≡ event_at (cond b (a ∷ only t xs) (only t xs)) j) × (t (event_at (a ∷ xs) m) ≡ true)
    go true e zero h later = (0, omega arith, refl, e)
    go true e (suc j) h later = let (m, w, z, y) = later j (omega arith) in (suc m, omega arith, z, y)
    go false e j h later = let (m, w, z, y) = later j h in (suc m, omega arith, z, y)

-- What passes is picked.
pub only_into : (t : Access → Bool) (xs : List Access) (m : ℕ) → m < length xs → t (event_at xs m) ≡ true →
    (k : ℕ) × (k < length (only t xs)) × (event_at (only t xs) k ≡ event_at xs m)
only_into t [] m l h = absurd (omega arith)
only_into t (a ∷ xs) m l h = go (t a) refl m l h (only_into t xs)
  where
    go : (b : Bool) → t a ≡ b → (j : ℕ) → j < length (a ∷ xs) → t (event_at (a ∷ xs) j) ≡ true →
        ((n : ℕ) → n < length xs → t (event_at xs n) ≡ true → (k : ℕ) × (k < length (only t xs)) × (event_at (only t xs) k ≡ event_at xs n)) →
        (k : ℕ) × (k < length (cond b (a ∷ only t xs) (only t xs))) × (event_at (cond b (a ∷ only t xs) (only t xs)) k ≡ event_at (a ∷ xs) j)
    go true e zero w y later = (0, omega arith, refl)
    go true e (suc j) w y later = let (k, b, z) = later j (omega arith) y in (suc k, omega arith, z)
    go false e zero w y later = absurd (let z : ◌≡◌ {A = ℕ} 0 1 = cc in omega arith)
    go false e (suc j) w y later = later j (omega arith) y

-- Among what was picked no two are the same either.
pub only_once : (t : Access → Bool) (xs : List Access) → Once xs → Once (only t xs)
only_once t [] o k m b l h = absurd (omega arith)
only_once t (a ∷ xs) o k m b l h = go (t a) k m b l h (only_once t xs (λ x y d w z. o (suc x) (suc y) (omega arith) (omega arith) z))
  where
    go : (c : Bool) (i j : ℕ) → i < j → j < length (cond c (a ∷ only t xs) (only t xs)) →
        event_at (cond c (a ∷ only t xs) (only t xs)) i ≡ event_at (cond c (a ∷ only t xs) (only t xs)) j → Once (only t xs) → ⊥
    go true zero zero d w z rest = omega arith
    go true zero (suc j) d w z rest = let (n, v, y, p) = only_from t xs j (omega arith) in o 0 (suc n) (omega arith) (omega arith) (z ∙ sym y)
    go true (suc i) zero d w z rest = omega arith
    go true (suc i) (suc j) d w z rest = rest i j (omega arith) (omega arith) z
    go false i j d w z rest = rest i j d w z

-- Where all pass, all are picked.
pub only_all : (t : Access → Bool) (xs : List Access) → ((m : ℕ) → m < length xs → t (event_at xs m) ≡ true) → only t xs ≡ xs
only_all t [] h = refl
only_all t (a ∷ xs) h = rw (h 0 (omega arith)) (ap (◌∷◌ a) (only_all t xs (λ m l. h (suc m) (omega arith))))

-- Tests that agree on all elements pick the same.
pub only_same : (t u : Access → Bool) (xs : List Access) → ((m : ℕ) → m < length xs → t (event_at xs m) ≡ u (event_at xs m)) → only t xs ≡ only u xs
only_same t u [] h = refl
only_same t u (a ∷ xs) h = ap₂ (λ b rest. cond b (a ∷ rest) rest) (h 0 (omega arith)) (only_same t u xs (λ m l. h (suc m) (omega arith)))

-- The numbers but the one at c.
abbrev without : ℕ → (ℕ → ℕ) → ℕ → ℕ
without c f k = cond (ltb k c) (f k) (f (suc k))

without_below : (c : ℕ) (f : ℕ → ℕ) (k : ℕ) → k < c → without c f k ≡ f k
without_below c f k l = rw (lt-ltb k c l)

without_above : (c : ℕ) (f : ℕ → ℕ) (k : ℕ) → c ≤ k → without c f k ≡ f (suc k)
without_above c f k l = rw (le-ltb k c l)

-- Of different numbers below n there are at most n.
pub few_different : (n l : ℕ) (f : ℕ → ℕ) → ((k : ℕ) → k < l → f k < n) → ((k m : ℕ) → k < m → m < l → f k ≡ f m → ⊥) → l ≤ n
few_different zero zero f small apart = omega arith
few_different zero (suc l) f small apart = absurd (omega (arith, small 0 (omega arith)))
few_different (suc n) l f small apart = go (nearest (λ k. eqb (f k) n) l) (nearest_found (λ k. eqb (f k) n) l) (few_different n l f) (λ c. few_different n (l - 1) (without c f))
  where
    below : (k : ℕ) → k < l → (f k ≡ n → ⊥) → f k < n
    below k b h = elim (cases_lt (f k) n) [ inl x ↦ x | inr x ↦ absurd (h (omega (arith, small k b))) ]

    missing : (c : ℕ) → c < l → f c ≡ n → (k : ℕ) → k < l → (k ≡ c → ⊥) → f k < n
    missing c b h k x y = below k x (λ z. elim (cases_lt k c) [ inl u ↦ apart k c u b (z ∙ sym h) | inr u ↦ apart c k (omega arith) x (h ∙ sym z) ])

    rest_small : (c : ℕ) → c < l → f c ≡ n → (k : ℕ) → k < l - 1 → without c f k < n
    rest_small c b h k x = elim (cases_lt k c) [
      | inl u ↦ rw (without_below c f k u) (missing c b h k (omega arith) (omega arith))
      | inr u ↦ rw (without_above c f k u) (missing c b h (suc k) (omega arith) (omega arith))
    ]

    rest_apart : (c : ℕ) → (k m : ℕ) → k < m → m < l - 1 → without c f k ≡ without c f m → ⊥
    rest_apart c k m x y z = elim (cases_lt k c) [
      | inl u ↦ elim (cases_lt m c) [
        | inl v ↦ apart k m x (omega arith) (sym (without_below c f k u) ∙ z ∙ without_below c f m v)
        | inr v ↦ apart k (suc m) (omega arith) (omega arith) (sym (without_below c f k u) ∙ z ∙ without_above c f m v)
      ]
      | inr u ↦ apart (suc k) (suc m) (omega arith) (omega arith) (sym (without_above c f k u) ∙ z ∙ without_above c f m (omega arith))
    ]

    go : (o : Rattle.std.specs.declared.option.Option.Option ℕ) → Sought (λ k. eqb (f k) n) l o →
        (((k : ℕ) → k < l → f k < n) → ((k m : ℕ) → k < m → m < l → f k ≡ f m → ⊥) → l ≤ n) →
        ((c : ℕ) → ((k : ℕ) → k < l - 1 → without c f k < n) → ((k m : ℕ) → k < m → m < l - 1 → without c f k ≡ without c f m → ⊥) → l - 1 ≤ n) → l ≤ suc n
    go o (nothing none) all but = let z : l ≤ n = all (λ k b. below k b (eqb-false (f k) n (none k b))) apart in omega arith
    go o (found c near) all but =
        let h : f c ≡ n = eqb-true (f c) n near.hit in
        let z : l - 1 ≤ n = but c (rest_small c near.below h) (rest_apart c) in
        omega arith
