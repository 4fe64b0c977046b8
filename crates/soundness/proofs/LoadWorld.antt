-- Rule 5 keeps the invariant over all processors: the new load's source, and that the others stay.
use Rattle.std.proofs.Common.{◌≡◌, ℕ, suc, ◌<◌, ◌≤◌, true, ◌≢◌, sym, refl, ap, ◌∙◌, inl, inr, arith}
use Rattle.instructions.specs.Kinds.{loads, stores}
use Rattle.memory.specs.declared.cell.Mark.{Mark}
use Rattle.soundness.proofs.Worlds.{Row, Memory, cell, word}
use Rattle.soundness.proofs.Moves.{Put, Load, loaded, Given}
use Rattle.soundness.proofs.Invariant.{Ok}
use Rattle.soundness.proofs.Times.{now_waits}
use Rattle.soundness.proofs.LoadStep.{load_keeps, bypass_near}
use Rattle.soundness.proofs.Sources.{DoneStore, Last, Sourced, at_mark, Good, Kin, kin_put, put_each, last_kin, mark_kin, sourced_kin, last_extend, mark_stays, ok_later}
use Rattle.soundness.proofs.DoneSources.{kin_done, sourced_done}

-- The source of the new load.
sourced_new : (x : Row) (s s' : ℕ → Row) (μ : Memory) (T' V' : ℕ → ℕ) (M' : ℕ → Mark) (p i c : ℕ) → Ok x c → Load x i c T'
    → ((q : ℕ) → Kin (s q) (s' q) c) → ((b : ℕ) → Last s (suc b) c (μ.mark b))
    → Given stores x μ p i (V' i) (M' i) → Sourced (loaded x T' V' M') s' p i
sourced_new x s s' μ T' V' M' p i c v r kin l (Given.memory b eb h ev em) =
    let ti = (now_waits x.time T' i c r.now).1 in
    Sourced.memory
    (λ m near. let d : 0 < x.time m = h m (omega arith) near.before near.store near.same in
    record { done = omega (arith, r.now m); first = omega (arith, r.now m, v.clock m) })
    (rw (ti, em, eb) (last_kin s s' (suc b) c kin (l b)))
sourced_new x s s' μ T' V' M' p i c v r kin l (Given.bypass j b st un e t g h em) =
    Sourced.own j (bypass_near x c i j v r.within r.known b st e t h) (omega arith) (λ z. absurd (omega (arith, r.now j))) em

-- The value at its mark.
given_value : (init : ℕ → ℕ) (s s' : ℕ → Row) (μ : Memory) (p i v c b : ℕ) (m : Mark) → ((q : ℕ) → Kin (s q) (s' q) c) → ((q j : ℕ) → word (s' q) j ≡ word (s q) j)
    → ((b : ℕ) → Last s (suc b) c (μ.mark b)) → ((b : ℕ) → suc (μ.value b) ≡ at_mark init s b (μ.mark b)) → Given stores (s p) μ p i v m → cell (s p) i ≡ suc b → suc v ≡ at_mark init s' b m
given_value init s s' μ p i v c b m kin ws l vs (Given.memory b' eb h ev em) e =
    let z : b' ≡ b = omega arith in
    rw (em, z) (rw z at (ap suc ev ∙ vs b' ∙ sym (mark_kin init s s' b' (suc b') c kin (l b'))))
given_value init s s' μ p i v c b m kin ws l vs (Given.bypass j bj st un ej t g h em) e = rw em (sym g ∙ sym (ws p j))

module _ (init : ℕ → ℕ) (s s' : ℕ → Row) (μ : Memory) (c p i : ℕ) (T' V' : ℕ → ℕ) (M' : ℕ → Mark) (g : Good init s μ c)
    (put : Put s s' p (loaded (s p) T' V' M')) (r : Load (s p) i c T') (given : Given stores (s p) μ p i (V' i) (M' i))
    (others : (j : ℕ) → j ≢ i → (V' j ≡ (s p).value j) × (M' j ≡ (s p).mark j)) where
  kin : (t : ℕ) → t ≤ c → (q : ℕ) → Kin (s q) (s' q) t
  kin t b = kin_put s s' p _ t put (kin_done (s p) T' V' M' i c t (g.each p).clock r.now b)

  each' : (q : ℕ) → Ok (s' q) (suc c)
  each' = put_each (λ q x. Ok x (suc c)) s s' p _ put
      (load_keeps (s p) c i T' (g.each p) r μ p (V' i) (M' i) given V' M') (λ q e. ok_later (s q) c (suc c) (omega arith) (g.each q))

  words_same : (q m : ℕ) → word (s' q) m ≡ word (s q) m
  words_same = put_each (λ q x. (m : ℕ) → word x m ≡ word (s q) m) s s' p _ put (λ m. refl) (λ q e m. refl)

  here : (k : ℕ) → k < (s p).size → 0 < T' k → loads ((s p).instruction k) ≡ true → Sourced (loaded (s p) T' V' M') s' p k
  here k kn d l = elim (r.now k) [
    | inl e ↦ rw e.0 (sourced_new (s p) s s' μ T' V' M' p i c (g.each p) r (kin c (omega arith)) g.cells given)
    | inr e ↦ let d' : 0 < (s p).time k = omega arith in
        sourced_done (s p) s s' T' V' M' p k i c (g.each p).clock r.now d' (others k e.0).1 kin (g.sourced p k kn d' l)
  ]

  sourced' : (q k : ℕ) → k < (s' q).size → 0 < (s' q).time k → loads ((s' q).instruction k) ≡ true → Sourced (s' q) s' q k
  sourced' = put_each (λ q x. (k : ℕ) → k < x.size → 0 < x.time k → loads (x.instruction k) ≡ true → Sourced x s' q k) s s' p _ put here
      (λ q e k kn d l. sourced_kin (s q) s s' q k (kin ((s q).time k) (omega (arith, (g.each q).clock k))) (g.sourced q k kn d l))

  old_value : (q k b : ℕ) → k < (s q).size → 0 < (s q).time k → loads ((s q).instruction k) ≡ true → cell (s q) k ≡ suc b → suc ((s q).value k) ≡ at_mark init s' b ((s q).mark k)
  old_value q k b kn d l e = g.valued q k b kn d l e
      ∙ sym (mark_stays init (s q) s s' q k b (kin ((s q).time k) (omega (arith, (g.each q).clock k))) (λ m _ g'. words_same q m) (g.sourced q k kn d l))

  here_value : (k b : ℕ) → k < (s p).size → 0 < T' k → loads ((s p).instruction k) ≡ true → cell (s p) k ≡ suc b → suc (V' k) ≡ at_mark init s' b (M' k)
  here_value k b kn d l eb = elim (r.now k) [
    | inl e ↦ rw e.0 (given_value init s s' μ p i (V' i) c b (M' i) (kin c (omega arith)) words_same g.cells g.words given (rw e.0 at eb))
    | inr e ↦ let h = others k e.0 in ap suc h.0 ∙ old_value p k b kn (omega arith) l eb ∙ ap (at_mark init s' b) (sym h.1)
  ]

  valued' : (q k b : ℕ) → k < (s' q).size → 0 < (s' q).time k → loads ((s' q).instruction k) ≡ true → cell (s' q) k ≡ suc b → suc ((s' q).value k) ≡ at_mark init s' b ((s' q).mark k)
  valued' = put_each (λ q x. (k b : ℕ) → k < x.size → 0 < x.time k → loads (x.instruction k) ≡ true → cell x k ≡ suc b → suc (x.value k) ≡ at_mark init s' b (x.mark k)) s s' p _ put here_value
      (λ q _ k b kn d l e. old_value q k b kn d l e)

  -- No store is new.
  fresh : (q j a : ℕ) → DoneStore (s' q) j a (suc c) → (s' q).time j < c
  fresh = put_each (λ q x. (j a : ℕ) → DoneStore x j a (suc c) → x.time j < c) s s' p _ put
      (λ j a st. elim (r.now j) [ inl e ↦ absurd (r.plain (rw e.0 at st.store)) | inr e ↦ omega (arith, (g.each p).clock j) ])
      (λ q e j a st. (g.each q).clock j)

  pub load_good : Good init s' μ (suc c)
  load_good = record {
    each = each';
    sourced = sourced';
    valued = valued';
    cells = λ b. last_extend s' (suc b) c (suc c) (omega arith) (λ q j st. fresh q j (suc b) st) (last_kin s s' (suc b) c (kin c (omega arith)) (g.cells b));
    words = λ b. g.words b ∙ sym (mark_kin init s s' b (suc b) c (kin c (omega arith)) (g.cells b));
  }
