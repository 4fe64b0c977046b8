-- Rule 7 keeps the invariant of the buffer: all that is kept before the store is done.
use Rattle.std.proofs.Common.{◌≡◌, ℕ, suc, ◌<◌, true, inl, inr, arith}
use Rattle.instructions.specs.Kinds.{stores, access}
use Rattle.ordering.specs.Constraints.{Depends}
use Rattle.soundness.proofs.Worlds.{Row, known_cells, cell, word}
use Rattle.soundness.proofs.Moves.{Store, stored}
use Rattle.soundness.proofs.KindFacts.{store_access}
use Rattle.soundness.proofs.Constrained.{Six, same_to, near_to}
use Rattle.soundness.proofs.Invariant.{Ok}
use Rattle.soundness.proofs.Times.{done_later, done_stays, done_fact, clock_later}

-- What a known address and known data rest on is done.
pub depends_done : (x : Row) (c : ℕ) → Ok x c → (j k : ℕ) → k < x.size → 0 < cell x k → 0 < word x k → Depends x.instruction (known_cells (cell x)) j k → 0 < x.time j
depends_done x c v j k kn a d (inl h) = v.addr j k kn a h
depends_done x c v j k kn a d (inr h) = v.datum j k kn d h

module _ (x : Row) (c i : ℕ) (T' : ℕ → ℕ) (v : Ok x c) (r : Store x i c T') where
  after : (j : ℕ) → Six x.instruction (known_cells (cell x)) j i → 0 < x.time j
  after j (Six.sa_mem_st h) = r.same j h.earlier h.accesses (same_to x.instruction (cell x) j i h.same).0
  after j (Six.sa_st_ld h) = let m = h.nearest in let near = near_to x.instruction (cell x) m i h.store in
      (v.order j m (omega (arith, near.before, r.within)) (r.same m near.before (store_access (x.instruction m) near.store) near.same) (Six.reg_raw h.depends)).done
  after j (Six.reg_raw d) = depends_done x c v j i r.within r.known r.given d
  after j (Six.br_st h) = r.branch j h.earlier h.branch
  after j (Six.addr_st h) = let m = h.middle in v.addr j m (omega (arith, r.within, h.earlier)) (r.located m h.earlier h.depends.accesses) h.depends.feeds
  after j (Six.fence_ord h) = r.fence j h

  pub store_keeps : Ok (stored x T') (suc c)
  store_keeps = record {
    clock = clock_later x.time T' i c v.clock r.now;
    order = done_later (Six x.instruction (known_cells (cell x))) x.time T' x.size i c v.clock r.now after v.order;
    addr = λ j k kn a d. done_stays x.time T' i c v.clock r.now j (v.addr j k kn a d);
    datum = λ j k kn a d. done_stays x.time T' i c v.clock r.now j (v.datum j k kn a d);
    located = done_fact (λ k. access (x.instruction k) ≡ true → 0 < cell x k) x.time T' x.size i c r.now (λ _. r.known) v.located;
    given = done_fact (λ k. stores (x.instruction k) ≡ true → 0 < word x k) x.time T' x.size i c r.now (λ _. r.given) v.given;
    older = done_fact (λ k. stores (x.instruction k) ≡ true → (j : ℕ) → j < k → access (x.instruction j) ≡ true → 0 < cell x j) x.time T' x.size i c r.now
        (λ _ j b y. r.located j b y) v.older;
  }
