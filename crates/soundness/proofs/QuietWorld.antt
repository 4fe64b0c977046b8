-- Every step that does neither a load nor a store keeps the invariant over all processors, if it leaves done stores and done loads as they were.
use Rattle.std.proofs.Common.{◌≡◌, ℕ, suc, ◌<◌, ◌≤◌, true, ◌≢◌, sym, refl, ap, ◌∙◌, inl, inr, arith}
use Rattle.instructions.specs.Kinds.{loads}
use Rattle.soundness.proofs.Worlds.{Row, Memory, cell, word}
use Rattle.soundness.proofs.Moves.{Put}
use Rattle.soundness.proofs.Constrained.{Near}
use Rattle.soundness.proofs.Invariant.{Ok}
use Rattle.soundness.proofs.Sources.{DoneStore, Sourced, at_mark, Good, Kin, kin_put, put_each, last_kin, mark_kin, sourced_kin, last_extend, mark_stays, ok_later}

-- What stays of a done load.
pub record Untouched (x x' : Row) (k : ℕ) : Type 0 where
  pub within : k < x.size
  pub done : 0 < x.time k
  pub is : loads (x.instruction k) ≡ true
  pub cells : cell x' k ≡ cell x k
  pub times : x'.time k ≡ x.time k
  pub values : x'.value k ≡ x.value k
  pub marked : x'.mark k ≡ x.mark k
  pub near : (j : ℕ) → Near x.instruction (cell x) j k → Near x'.instruction (cell x') j k × (x'.time j ≡ x.time j)
  pub back : (j : ℕ) → Near x'.instruction (cell x') j k → Near x.instruction (cell x) j k
  pub words : (j : ℕ) → j < k → 0 < word x j → word x' j ≡ word x j

-- What stays of a buffer.
pub record Quiet (x x' : Row) (c c' : ℕ) : Type 0 where
  pub ok : Ok x' c'
  pub up : c ≤ c'
  pub kin : (t : ℕ) → t ≤ c → Kin x x' t
  pub fresh : (j a : ℕ) → DoneStore x' j a c' → x'.time j < c
  pub load : (k : ℕ) → k < x'.size → 0 < x'.time k → loads (x'.instruction k) ≡ true → Untouched x x' k

sourced_quiet : (x x' : Row) (s s' : ℕ → Row) (p k : ℕ) → Untouched x x' k → ((q : ℕ) → Kin (s q) (s' q) (x.time k)) → Sourced x s p k → Sourced x' s' p k
sourced_quiet x x' s s' p k w kin (Sourced.own m near g h e) = let r = w.near m near in
    Sourced.own m r.0 (omega (arith, w.words m near.before g)) (λ z. omega (arith, h (omega (arith, r.1)), r.1, w.times)) (w.marked ∙ e)
sourced_quiet x x' s s' p k w kin (Sourced.memory h l) = Sourced.memory
    (λ m near. let b = w.back m near in let r = w.near m b in let o = h m b in record { done = omega (arith, o.done, r.1); first = omega (arith, o.first, r.1, w.times) })
    (rw (w.cells, w.times, w.marked) (last_kin s s' (cell x k) (x.time k) kin l))

module _ (init : ℕ → ℕ) (s s' : ℕ → Row) (μ : Memory) (c c' p : ℕ) (x' : Row) (g : Good init s μ c) (put : Put s s' p x') (u : Quiet (s p) x' c c') where
  kin : (t : ℕ) → t ≤ c → (q : ℕ) → Kin (s q) (s' q) t
  kin t b = kin_put s s' p x' t put (u.kin t b)

  clocks : (q k : ℕ) → (s q).time k ≤ c
  clocks q k = omega (arith, (g.each q).clock k)

  off : (q m : ℕ) → q ≢ p → word (s' q) m ≡ word (s q) m
  off q m e = elim (put q) [ inl h ↦ absurd (e h.0) | inr h ↦ ap (λ x. word x m) h.1 ]

  on : s' p ≡ x'
  on = elim (put p) [ inl h ↦ h.1 | inr h ↦ absurd (h.0 refl) ]

  pub quiet_good : Good init s' μ c'
  quiet_good = record {
    each = put_each (λ q x. Ok x c') s s' p x' put u.ok (λ q e. ok_later (s q) c c' u.up (g.each q));
    sourced = put_each (λ q x. (k : ℕ) → k < x.size → 0 < x.time k → loads (x.instruction k) ≡ true → Sourced x s' q k) s s' p x' put
        (λ k kn d l. let w = u.load k kn d l in sourced_quiet (s p) x' s s' p k w (kin ((s p).time k) (clocks p k)) (g.sourced p k w.within w.done w.is))
        (λ q e k kn d l. sourced_kin (s q) s s' q k (kin ((s q).time k) (clocks q k)) (g.sourced q k kn d l));
    valued = put_each (λ q x. (k b : ℕ) → k < x.size → 0 < x.time k → loads (x.instruction k) ≡ true → cell x k ≡ suc b → suc (x.value k) ≡ at_mark init s' b (x.mark k)) s s' p x' put
        (λ k b kn d l eb. let w = u.load k kn d l in rw (w.values, w.marked) (g.valued p k b w.within w.done w.is (sym w.cells ∙ eb)
        ∙ sym (mark_stays init (s p) s s' p k b (kin ((s p).time k) (clocks p k)) (λ m b' z. ap (λ x. word x m) on ∙ w.words m b' z) (g.sourced p k w.within w.done w.is))))
        (λ q e k b kn d l eb. g.valued q k b kn d l eb ∙ sym (mark_stays init (s q) s s' q k b (kin ((s q).time k) (clocks q k)) (λ m b' z. off q m e) (g.sourced q k kn d l)));
    cells = λ b. last_extend s' (suc b) c c' u.up
        (λ q j st. put_each (λ q' x. DoneStore x j (suc b) c' → x.time j < c) s s' p x' put (u.fresh j (suc b)) (λ q' e st'. (g.each q').clock j) q st)
        (last_kin s s' (suc b) c (kin c (omega arith)) (g.cells b));
    words = λ b. g.words b ∙ sym (mark_kin init s s' b (suc b) c (kin c (omega arith)) (g.cells b));
  }
