-- Where loads have their values from: the invariant over all processors and the memory, and what a step must leave of done stores to keep it.
use Rattle.std.proofs.Common.{◌≡◌, ℕ, suc, ◌<◌, ◌≤◌, true, ◌≢◌, refl, inl, inr, arith}
use Rattle.instructions.specs.Kinds.{loads, stores}
use Rattle.memory.specs.declared.cell.Mark.{Mark}
use Rattle.memory.specs.declared.cell.Mark.TheVariants as marks
use Rattle.soundness.proofs.Worlds.{Row, Memory, cell, word}
use Rattle.soundness.proofs.Moves.{Put}
use Rattle.soundness.proofs.Constrained.{Near}
use Rattle.soundness.proofs.Invariant.{Before, Ok}

-- j is a store to the cell a (its number plus one), done before the moment t.
pub record DoneStore (x : Row) (j a t : ℕ) : Type 0 where
  pub within : j < x.size
  pub store : stores (x.instruction j) ≡ true
  pub to : cell x j ≡ a
  pub done : 0 < x.time j
  pub by_then : x.time j < t

-- The mark is the last store to the cell a before the moment t, or the start.
pub data Last (s : ℕ → Row) (a t : ℕ) : Mark → Type 0 where
  initial : ((q j : ℕ) → DoneStore (s q) j a t → ⊥) → Last s a t marks.Start
  latest : (p i : ℕ) → DoneStore (s p) i a t → ((q j : ℕ) → DoneStore (s q) j a t → (s q).time j ≤ (s p).time i) → Last s a t (marks.Store p i)

-- Where the done load k of the processor p, whose buffer is x, has its mark from:
-- its own nearest store, not done or done later; or the memory, its nearest stores being done earlier.
pub data Sourced (x : Row) (s : ℕ → Row) (p k : ℕ) : Type 0 where
  own : (m : ℕ) → Near x.instruction (cell x) m k → 0 < word x m → (0 < x.time m → x.time k < x.time m) → x.mark k ≡ marks.Store p m → Sourced x s p k
  memory : ((m : ℕ) → Near x.instruction (cell x) m k → Before x.time m k) → Last s (cell x k) (x.time k) (x.mark k) → Sourced x s p k

-- The value at a mark of the cell b, plus one.
abbrev pub at_mark : (ℕ → ℕ) → (ℕ → Row) → ℕ → Mark → ℕ
at_mark init s b marks.Start = suc (init b)
at_mark init s b (marks.Store p i) = word (s p) i

-- The invariant over all processors and the memory, but for same-address load-load order.
pub record Good (init : ℕ → ℕ) (s : ℕ → Row) (μ : Memory) (c : ℕ) : Type 0 where
  pub each : (p : ℕ) → Ok (s p) c
  pub sourced : (p k : ℕ) → k < (s p).size → 0 < (s p).time k → loads ((s p).instruction k) ≡ true → Sourced (s p) s p k
  pub valued : (p k b : ℕ) → k < (s p).size → 0 < (s p).time k → loads ((s p).instruction k) ≡ true → cell (s p) k ≡ suc b → suc ((s p).value k) ≡ at_mark init s b ((s p).mark k)
  pub cells : (b : ℕ) → Last s (suc b) c (μ.mark b)
  pub words : (b : ℕ) → suc (μ.value b) ≡ at_mark init s b (μ.mark b)

-- Up to the moment t the two buffers have the same done stores.
pub record Kin (x x' : Row) (t : ℕ) : Type 0 where
  pub onto : (j a : ℕ) → DoneStore x j a t → DoneStore x' j a t
  pub from : (j a : ℕ) → DoneStore x' j a t → DoneStore x j a t
  pub times : (j a : ℕ) → DoneStore x j a t → x'.time j ≡ x.time j
  pub words : (j a : ℕ) → DoneStore x j a t → word x' j ≡ word x j

kin_refl : (x : Row) (t : ℕ) → Kin x x t
kin_refl x t = record { onto = λ j a h. h; from = λ j a h. h; times = λ j a h. refl; words = λ j a h. refl }

pub kin_put : (s s' : ℕ → Row) (p : ℕ) (x : Row) (t : ℕ) → Put s s' p x → Kin (s p) x t → (q : ℕ) → Kin (s q) (s' q) t
kin_put s s' p x t put k q = elim (put q) [ inl e ↦ rw (e.1, e.0) k | inr e ↦ rw e.1 (kin_refl (s q) t) ]

-- A fact of each processor, after one was replaced.
pub put_each : (P : ℕ → Row → Type 0) (s s' : ℕ → Row) (p : ℕ) (x : Row) → Put s s' p x → P p x → ((q : ℕ) → q ≢ p → P q (s q)) → (q : ℕ) → P q (s' q)
put_each P s s' p x put here there q = elim (put q) [ inl e ↦ rw (e.1, e.0) here | inr e ↦ rw e.1 (there q e.0) ]

pub last_kin : (s s' : ℕ → Row) (a t : ℕ) → ((q : ℕ) → Kin (s q) (s' q) t) → {m : Mark} → Last s a t m → Last s' a t m
last_kin s s' a t k (Last.initial h) = Last.initial (λ q j st. h q j ((k q).from j a st))
last_kin s s' a t k (Last.latest p i st h) = Last.latest p i ((k p).onto i a st)
    (λ q j st'. let b = (k q).from j a st' in omega (arith, h q j b, (k q).times j a b, (k p).times i a st))

-- The value at a mark that is a last store stays.
pub mark_kin : (init : ℕ → ℕ) (s s' : ℕ → Row) (b a t : ℕ) → ((q : ℕ) → Kin (s q) (s' q) t) → {m : Mark} → Last s a t m → at_mark init s' b m ≡ at_mark init s b m
mark_kin init s s' b a t k (Last.initial h) = refl
mark_kin init s s' b a t k (Last.latest p i st h) = (k p).words i a st

-- What happens elsewhere and later does not touch a load's source.
pub sourced_kin : (x : Row) (s s' : ℕ → Row) (p k : ℕ) → ((q : ℕ) → Kin (s q) (s' q) (x.time k)) → Sourced x s p k → Sourced x s' p k
sourced_kin x s s' p k kin (Sourced.own m near g h e) = Sourced.own m near g h e
sourced_kin x s s' p k kin (Sourced.memory h l) = Sourced.memory h (last_kin s s' (cell x k) (x.time k) kin l)

-- A last store stays the last while none is done.
pub last_extend : (s : ℕ → Row) (a t t' : ℕ) → t ≤ t' → ((q j : ℕ) → DoneStore (s q) j a t' → (s q).time j < t) → {m : Mark} → Last s a t m → Last s a t' m
last_extend s a t t' b h (Last.initial n) = Last.initial (λ q j st. n q j (record { within = st.within; store = st.store; to = st.to; done = st.done; by_then = h q j st }))
last_extend s a t t' b h (Last.latest p i st n) = Last.latest p i
    (record { within = st.within; store = st.store; to = st.to; done = st.done; by_then = omega (arith, st.by_then) })
    (λ q j st'. n q j (record { within = st'.within; store = st'.store; to = st'.to; done = st'.done; by_then = h q j st' }))

-- The value at the mark of a done load stays: its source is a done store, or an older store of its own buffer.
pub mark_stays : (init : ℕ → ℕ) (x : Row) (s s' : ℕ → Row) (p k b : ℕ) → ((q : ℕ) → Kin (s q) (s' q) (x.time k)) → ((m : ℕ) → m < k → 0 < word x m → word (s' p) m ≡ word (s p) m)
    → Sourced x s p k → at_mark init s' b (x.mark k) ≡ at_mark init s b (x.mark k)
mark_stays init x s s' p k b kin same (Sourced.own m near g h e) = rw e (same m near.before g)
mark_stays init x s s' p k b kin same (Sourced.memory h l) = mark_kin init s s' b (cell x k) (x.time k) kin l

-- A buffer that nothing happened to is as good later.
pub ok_later : (x : Row) (c c' : ℕ) → c ≤ c' → Ok x c → Ok x c'
ok_later x c c' b v = record { clock = λ k. omega (arith, v.clock k); order = v.order; addr = v.addr; datum = v.datum; located = v.located; given = v.given; older = v.older }
