-- Rule 7 keeps the invariant over all processors: the store is the last to its cell, and the others stay.
use Rattle.std.proofs.Common.{◌≡◌, ℕ, suc, ◌<◌, ◌≤◌, true, ◌⊎◌, sym, refl, ap, ◌∙◌, inl, inr, arith}
use Rattle.std.proofs.lemmas.Bool.{cases_eq}
use Rattle.instructions.specs.Kinds.{loads}
use Rattle.soundness.proofs.Worlds.{Row, Memory, cell, word}
use Rattle.soundness.proofs.Moves.{Put, Store, stored, Written}
use Rattle.soundness.proofs.Invariant.{Ok}
use Rattle.soundness.proofs.Times.{now_waits}
use Rattle.soundness.proofs.StoreStep.{store_keeps}
use Rattle.soundness.proofs.Sources.{DoneStore, Last, Sourced, at_mark, Good, Kin, kin_put, put_each, last_kin, mark_kin, sourced_kin, last_extend, mark_stays, ok_later}
use Rattle.soundness.proofs.DoneSources.{kin_done, sourced_done}

module _ (init : ℕ → ℕ) (s s' : ℕ → Row) (μ μ' : Memory) (c p i : ℕ) (T' : ℕ → ℕ) (g : Good init s μ c)
    (put : Put s s' p (stored (s p) T')) (r : Store (s p) i c T') (w : Written (s p) μ μ' p i) where
  kin : (t : ℕ) → t ≤ c → (q : ℕ) → Kin (s q) (s' q) t
  kin t b = kin_put s s' p _ t put (kin_done (s p) T' (s p).value (s p).mark i c t (g.each p).clock r.now b)

  each' : (q : ℕ) → Ok (s' q) (suc c)
  each' = put_each (λ q x. Ok x (suc c)) s s' p _ put (store_keeps (s p) c i T' (g.each p) r) (λ q e. ok_later (s q) c (suc c) (omega arith) (g.each q))

  -- A load that is done now was done before.
  was : (k : ℕ) → 0 < T' k → loads ((s p).instruction k) ≡ true → 0 < (s p).time k
  was k d l = elim (r.now k) [ inl e ↦ absurd (r.plain (rw e.0 at l)) | inr e ↦ omega arith ]

  words_same : (q m : ℕ) → word (s' q) m ≡ word (s q) m
  words_same = put_each (λ q x. (m : ℕ) → word x m ≡ word (s q) m) s s' p _ put (λ m. refl) (λ q e m. refl)

  sourced' : (q k : ℕ) → k < (s' q).size → 0 < (s' q).time k → loads ((s' q).instruction k) ≡ true → Sourced (s' q) s' q k
  sourced' = put_each (λ q x. (k : ℕ) → k < x.size → 0 < x.time k → loads (x.instruction k) ≡ true → Sourced x s' q k) s s' p _ put
      (λ k kn d l. sourced_done (s p) s s' T' (s p).value (s p).mark p k i c (g.each p).clock r.now (was k d l) refl kin (g.sourced p k kn (was k d l) l))
      (λ q e k kn d l. sourced_kin (s q) s s' q k (kin ((s q).time k) (omega (arith, (g.each q).clock k))) (g.sourced q k kn d l))

  old_value : (q k b : ℕ) → k < (s q).size → 0 < (s q).time k → loads ((s q).instruction k) ≡ true → cell (s q) k ≡ suc b → suc ((s q).value k) ≡ at_mark init s' b ((s q).mark k)
  old_value q k b kn d l e = g.valued q k b kn d l e
      ∙ sym (mark_stays init (s q) s s' q k b (kin ((s q).time k) (omega (arith, (g.each q).clock k))) (λ m _ g'. words_same q m) (g.sourced q k kn d l))

  valued' : (q k b : ℕ) → k < (s' q).size → 0 < (s' q).time k → loads ((s' q).instruction k) ≡ true → cell (s' q) k ≡ suc b → suc ((s' q).value k) ≡ at_mark init s' b ((s' q).mark k)
  valued' = put_each (λ q x. (k b : ℕ) → k < x.size → 0 < x.time k → loads (x.instruction k) ≡ true → cell x k ≡ suc b → suc (x.value k) ≡ at_mark init s' b (x.mark k)) s s' p _ put
      (λ k b kn d l e. old_value p k b kn (was k d l) l e)
      (λ q _ k b kn d l e. old_value q k b kn d l e)

  -- A store done by the next moment is the new one, or was done before.
  fresh : (q j a : ℕ) → DoneStore (s' q) j a (suc c) → ((s' q).time j < c) ⊎ (cell (s p) i ≡ a)
  fresh = put_each (λ q x. (j a : ℕ) → DoneStore x j a (suc c) → (x.time j < c) ⊎ (cell (s p) i ≡ a)) s s' p _ put
      (λ j a st. elim (r.now j) [ inl e ↦ inr (ap (cell (s p)) (sym e.0) ∙ st.to) | inr e ↦ inl (omega (arith, (g.each p).clock j)) ])
      (λ q e j a st. inl ((g.each q).clock j))

  new : (a : ℕ) → cell (s p) i ≡ a → (DoneStore (s' p) i a (suc c)) × ((s' p).time i ≡ c)
  new a e = elim (put p) [ inl h ↦ rw h.1 here | inr h ↦ absurd (h.0 refl) ]
    where
      here : (DoneStore (stored (s p) T') i a (suc c)) × (T' i ≡ c)
      here = let z = (now_waits (s p).time T' i c r.now).1 in
          (record { within = r.within; store = r.is; to = e; done = omega (arith, (g.each p).clock i); by_then = omega arith }, z)

  cells' : (b : ℕ) → Last s' (suc b) (suc c) (μ'.mark b)
  cells' b = elim (cases_eq (cell (s p) i) (suc b)) [
    | inl e ↦ rw (w.here b e).0 (let z = new (suc b) e in Last.latest p i z.0 (λ q j st. omega (arith, st.by_then, z.1)))
    | inr e ↦ rw (w.others b e).0 (last_extend s' (suc b) c (suc c) (omega arith)
        (λ q j st. elim (fresh q j (suc b) st) [ inl h ↦ h | inr h ↦ absurd (e h) ]) (last_kin s s' (suc b) c (kin c (omega arith)) (g.cells b)))
  ]

  words' : (b : ℕ) → suc (μ'.value b) ≡ at_mark init s' b (μ'.mark b)
  words' b = elim (cases_eq (cell (s p) i) (suc b)) [
    | inl e ↦ rw (w.here b e).0 (sym (w.here b e).1 ∙ sym (words_same p i))
    | inr e ↦ rw (w.others b e).0 (ap suc (w.others b e).1 ∙ g.words b ∙ sym (mark_kin init s s' b (suc b) c (kin c (omega arith)) (g.cells b)))
  ]

  pub store_good : Good init s' μ' (suc c)
  store_good = record { each = each'; sourced = sourced'; valued = valued'; cells = cells'; words = words' }
