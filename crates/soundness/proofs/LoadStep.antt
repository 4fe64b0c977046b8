-- Rule 5 keeps the invariant of the buffer: all that is kept before the load, but for same-address load-load order, is done.
use Rattle.std.proofs.Common.{◌≡◌, ℕ, suc, ◌<◌, Bool, true, sym, inl, inr, arith}
use Rattle.std.proofs.lemmas.Bool.{cases_order}
use Rattle.instructions.specs.Kinds.{stores, access}
use Rattle.instructions.specs.declared.instruction.Instruction.{Instruction}
use Rattle.memory.specs.declared.cell.Mark.{Mark}
use Rattle.ordering.specs.Constraints.{Depends}
use Rattle.soundness.proofs.Worlds.{Row, Memory, known_cells, cell, word}
use Rattle.soundness.proofs.Moves.{Load, Given, OlderDone, loaded}
use Rattle.soundness.proofs.KindFacts.{store_access}
use Rattle.soundness.proofs.Constrained.{Six, Near, same_from, near_to}
use Rattle.soundness.proofs.Invariant.{Before, Ok}
use Rattle.soundness.proofs.Times.{done_later, done_stays, done_fact, clock_later}
use Rattle.soundness.proofs.StoreStep.{depends_done}

-- A search that goes over all accesses goes over the stores.
pub given_stores : (kind : Instruction → Bool) → ((y : Instruction) → stores y ≡ true → kind y ≡ true) → (x : Row) (μ : Memory) (p i v : ℕ) (m : Mark) → Given kind x μ p i v m → Given stores x μ p i v m
given_stores kind more x μ p i v m (Given.memory b e h ev em) = Given.memory b e (λ j b c st. h j b c (more (x.instruction j) st)) ev em
given_stores kind more x μ p i v m (Given.bypass j b st un e t g h em) = Given.bypass j b st un e t g (λ k b c st'. h k b c (more (x.instruction k) st')) em

-- The nearest older store that gives its data: no store between is done, or it would be done before its elder.
pub bypass_near : (x : Row) (c i j : ℕ) → Ok x c → i < x.size → 0 < cell x i → j < i → stores (x.instruction j) ≡ true → cell x j ≡ cell x i → x.time j ≡ 0
    → OlderDone stores x (suc j) i → Near x.instruction (cell x) j i
bypass_near x c i j v w kn b st e t h = record {
  before = b;
  store = st;
  known = kn;
  same = e;
  none = λ m p q stm em.
      let d : 0 < x.time m = h m p q stm em in
      let o : Before x.time j m = v.order j m (omega arith) d (Six.sa_mem_st (record {
        earlier = p;
        accesses = store_access (x.instruction j) st;
        store = stm;
        same = same_from x.instruction (cell x) j m (omega arith) (omega arith);
      })) in omega arith;
}

-- There is one nearest store.
pub near_only : (ins : ℕ → Instruction) (A : ℕ → ℕ) (m m' k : ℕ) → Near ins A m k → Near ins A m' k → m' ≡ m
near_only ins A m m' k a b = elim (cases_order m m') [
  | inl h ↦ sym h
  | inr (inl h) ↦ absurd (a.none m' h b.before b.store b.same)
  | inr (inr h) ↦ absurd (b.none m h a.before a.store a.same)
]

module _ (x : Row) (c i : ℕ) (T' : ℕ → ℕ) (v : Ok x c) (r : Load x i c T') (μ : Memory) (p w : ℕ) (mk : Mark) (g : Given stores x μ p i w mk) where
  -- What the nearest older store depends on is done.
  near_after : (j s : ℕ) → Near x.instruction (cell x) s i → Depends x.instruction (known_cells (cell x)) j s → 0 < x.time j
  near_after j s near d = go g
    where
      go : Given stores x μ p i w mk → 0 < x.time j
      go (Given.memory b e h ev em) = (v.order j s (omega (arith, near.before, r.within)) (h s (omega arith) near.before near.store near.same) (Six.reg_raw d)).done
      go (Given.bypass s' b st un e t gv h em) =
          let q = near_only x.instruction (cell x) s' s i (bypass_near x c i s' v r.within r.known b st e t h) near in
          depends_done x c v j s' (omega (arith, r.within)) (omega (arith, r.known)) (omega arith) (rw q at d)

  after : (j : ℕ) → Six x.instruction (known_cells (cell x)) j i → 0 < x.time j
  after j (Six.sa_mem_st h) = absurd (r.plain h.store)
  after j (Six.sa_st_ld h) = near_after j h.nearest (near_to x.instruction (cell x) h.nearest i h.store) h.depends
  after j (Six.reg_raw (inl d)) = v.addr j i r.within r.known d
  after j (Six.reg_raw (inr d)) = r.second j d
  after j (Six.br_st h) = absurd (r.plain h.store)
  after j (Six.addr_st h) = absurd (r.plain h.store)
  after j (Six.fence_ord h) = r.fence j h

  pub load_keeps : (V' : ℕ → ℕ) (M' : ℕ → Mark) → Ok (loaded x T' V' M') (suc c)
  load_keeps V' M' = record {
    clock = clock_later x.time T' i c v.clock r.now;
    order = done_later (Six x.instruction (known_cells (cell x))) x.time T' x.size i c v.clock r.now after v.order;
    addr = λ j k kn a d. done_stays x.time T' i c v.clock r.now j (v.addr j k kn a d);
    datum = λ j k kn a d. done_stays x.time T' i c v.clock r.now j (v.datum j k kn a d);
    located = done_fact (λ k. access (x.instruction k) ≡ true → 0 < cell x k) x.time T' x.size i c r.now (λ _. r.known) v.located;
    given = done_fact (λ k. stores (x.instruction k) ≡ true → 0 < word x k) x.time T' x.size i c r.now (λ y. absurd (r.plain y)) v.given;
    older = done_fact (λ k. stores (x.instruction k) ≡ true → (j : ℕ) → j < k → access (x.instruction j) ≡ true → 0 < cell x j) x.time T' x.size i c r.now
        (λ y j b z. absurd (r.plain y)) v.older;
  }
