-- Times when one more entry is done.
use Rattle.std.proofs.Common.{◌≡◌, ℕ, suc, ◌%◌, ◌<◌, ◌≢◌, ◌⊎◌, Some, None, Option, refl, ap, ◌∙◌, inl, inr, arith}
use Rattle.soundness.proofs.Worlds.{coded, celled}
use Rattle.soundness.proofs.Moves.{Changed, Upd}
use Rattle.soundness.proofs.Invariant.{Before}

-- What is done stays in order when one more is done.
pub before_later : (T T' : ℕ → ℕ) (i c : ℕ) → ((k : ℕ) → T k < c) → Upd T T' i c → (j k : ℕ) → Before T j k → Before T' j k
before_later T T' i c cl u j k b = omega (arith, u j, u k)

-- One more is done, after all that is kept before it.
pub done_later : (R : ℕ → ℕ → Type 0) (T T' : ℕ → ℕ) (n i c : ℕ) → ((k : ℕ) → T k < c) → Upd T T' i c
    → ((j : ℕ) → R j i → 0 < T j)
    → ((j k : ℕ) → k < n → 0 < T k → R j k → Before T j k)
    → (j k : ℕ) → k < n → 0 < T' k → R j k → Before T' j k
done_later R T T' n i c cl u new old j k kn d r = go (u k)
  where
    go : ((k ≡ i) × (T k ≡ 0) × (T' k ≡ c)) ⊎ ((k ≢ i) × (T' k ≡ T k)) → Before T' j k
    go (inl e) = let h : 0 < T j = new j (rw e.0 at r) in omega (arith, u j, cl j)
    go (inr e) = before_later T T' i c cl u j k (old j k kn (omega arith) r)

-- What is done stays done.
pub done_stays : (T T' : ℕ → ℕ) (i c : ℕ) → ((k : ℕ) → T k < c) → Upd T T' i c → (j : ℕ) → 0 < T j → 0 < T' j
done_stays T T' i c cl u j d = omega (arith, u j)

-- A fact of all that is done, which holds of one more.
pub done_fact : (P : ℕ → Type 0) (T T' : ℕ → ℕ) (n i c : ℕ) → Upd T T' i c → P i → ((k : ℕ) → k < n → 0 < T k → P k) → (k : ℕ) → k < n → 0 < T' k → P k
done_fact P T T' n i c u here old k kn d = go (u k)
  where
    go : ((k ≡ i) × (T k ≡ 0) × (T' k ≡ c)) ⊎ ((k ≢ i) × (T' k ≡ T k)) → P k
    go (inl e) = rw e.0 here
    go (inr e) = old k kn (omega arith)

-- The next moment is later than all.
pub clock_later : (T T' : ℕ → ℕ) (i c : ℕ) → ((k : ℕ) → T k < c) → Upd T T' i c → (k : ℕ) → T' k < suc c
clock_later T T' i c cl u k = omega (arith, u k, cl k)

-- The entry that is done now was not, and is now.
pub now_waits : (T T' : ℕ → ℕ) (i c : ℕ) → Upd T T' i c → (T i ≡ 0) × (T' i ≡ c)
now_waits T T' i c u = elim (u i) [ inl e ↦ (e.1, e.2) | inr e ↦ absurd (e.0 refl) ]

-- A change at one place, seen through a code in which what was there is 0.
pub changed_code : {X : Type 0} (g : X → ℕ) (f f' : ℕ → X) (i : ℕ) (v : X) → g (f i) ≡ 0 → Changed f f' i v → Upd (λ k. g (f k)) (λ k. g (f' k)) i (g v)
changed_code g f f' i v z ch j = go (ch j)
  where
    go : ((j ≡ i) × (f' j ≡ v)) ⊎ ((j ≢ i) × (f' j ≡ f j)) → ((j ≡ i) × (g (f j) ≡ 0) × (g (f' j) ≡ g v)) ⊎ ((j ≢ i) × (g (f' j) ≡ g (f j)))
    go (inl e) = inl (e.0, ap (λ k. g (f k)) e.0 ∙ z, ap g e.1)
    go (inr e) = inr (e.0, ap g e.1)

-- A wanting address, data.
pub celled_none : (o : Option ℕ) → o ≡ None → celled o ≡ 0
unfolding celled
celled_none o e = rw e

pub celled_some : (o : Option ℕ) (a : ℕ) → o ≡ Some a → celled o ≡ suc (a % 16)
unfolding celled
celled_some o a e = rw e

pub coded_none : (o : Option ℕ) → o ≡ None → coded o ≡ 0
unfolding coded
coded_none o e = rw e

pub coded_some : (o : Option ℕ) (d : ℕ) → o ≡ Some d → coded o ≡ suc d
unfolding coded
coded_some o d e = rw e

-- Data that are there.
pub some_coded : (o : Option ℕ) (d : ℕ) → coded o ≡ suc d → o ≡ Some d
unfolding coded
some_coded None d e = absurd (omega arith)
some_coded (Some x) d e = let z : x ≡ d = omega arith in ap Some z
