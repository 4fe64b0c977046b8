-- Rules 1, 2, 3, 4 and 6 keep the invariant of the buffer.
use Rattle.std.proofs.Common.{◌≡◌, ℕ, suc, ◌<◌, ◌≤◌, true, ◌≢◌, Some, Option, refl, ap, inl, inr, arith}
use Rattle.std.proofs.lemmas.Bool.{cases_order, cases_lt}
use Rattle.instructions.specs.Kinds.{stores, access, first_operand, second_operand}
use Rattle.instructions.specs.declared.instruction.Instruction.{Instruction}
use Rattle.ordering.specs.Constraints.{Feeds}
use Rattle.soundness.proofs.Worlds.{Row, coded, celled, known_cells, cell, word}
use Rattle.soundness.proofs.Moves.{Upd, Fetched, Turned, Plain, plainly, Datum, supplied}
use Rattle.soundness.proofs.KindFacts.{load_access, store_access}
use Rattle.soundness.proofs.Constrained.{Six, six_earlier}
use Rattle.soundness.proofs.Agreeing.{six_local, feeds_local}
use Rattle.soundness.proofs.Invariant.{Inv, Ok}
use Rattle.soundness.proofs.Times.{done_later, done_stays, done_fact, clock_later, now_waits, changed_code, celled_none, coded_none, coded_some}

inv_cut : (n n' : ℕ) (ins : ℕ → Instruction) (A D T : ℕ → ℕ) (c : ℕ) → n' ≤ n → Inv n ins A D T c → Inv n' ins A D T c
inv_cut n n' ins A D T c b v = record {
  clock = v.clock;
  order = λ j k kn. v.order j k (omega arith);
  addr = λ j k kn. v.addr j k (omega arith);
  datum = λ j k kn. v.datum j k (omega arith);
  located = λ k kn. v.located k (omega arith);
  given = λ k kn. v.given k (omega arith);
  older = λ k kn. v.older k (omega arith);
}

-- Rules 2, 3 and 4.
module _ (x : Row) (i c n' : ℕ) (P' T' V' : ℕ → ℕ) (v : Ok x c) (r : Plain x i c n' P' T' V') where
  after : (j : ℕ) → Six x.instruction (known_cells (cell x)) j i → 0 < x.time j
  after j (Six.sa_mem_st h) = absurd (r.quiet (store_access (x.instruction i) h.store))
  after j (Six.sa_st_ld h) = absurd (r.quiet (load_access (x.instruction i) h.load))
  after j (Six.reg_raw d) = r.ready j d
  after j (Six.br_st h) = absurd (r.quiet (store_access (x.instruction i) h.store))
  after j (Six.addr_st h) = absurd (r.quiet (store_access (x.instruction i) h.store))
  after j (Six.fence_ord h) = r.fence j h

  pub plain_less : n' ≤ x.size
  plain_less = elim r.turned [ Turned.keeps e h ↦ omega arith | Turned.cuts e b h ↦ omega (arith, r.within) ]

  whole : Inv x.size x.instruction (cell x) (word x) T' (suc c)
  whole = record {
    clock = clock_later x.time T' i c v.clock r.now;
    order = done_later (Six x.instruction (known_cells (cell x))) x.time T' x.size i c v.clock r.now after v.order;
    addr = λ j k kn a d. done_stays x.time T' i c v.clock r.now j (v.addr j k kn a d);
    datum = λ j k kn a d. done_stays x.time T' i c v.clock r.now j (v.datum j k kn a d);
    located = done_fact (λ k. access (x.instruction k) ≡ true → 0 < cell x k) x.time T' x.size i c r.now (λ y. absurd (r.quiet y)) v.located;
    given = done_fact (λ k. stores (x.instruction k) ≡ true → 0 < word x k) x.time T' x.size i c r.now (λ y. absurd (r.quiet (store_access (x.instruction i) y))) v.given;
    older = done_fact (λ k. stores (x.instruction k) ≡ true → (j : ℕ) → j < k → access (x.instruction j) ≡ true → 0 < cell x j) x.time T' x.size i c r.now
        (λ y. absurd (r.quiet (store_access (x.instruction i) y))) v.older;
  }

  pub plain_keeps : Ok (plainly x n' P' T' V') (suc c)
  plain_keeps = inv_cut x.size n' x.instruction (cell x) (word x) T' (suc c) plain_less whole

  -- The times of accesses stay.
  pub plain_same : (k : ℕ) → access (x.instruction k) ≡ true → (k ≢ i) × (T' k ≡ x.time k)
  plain_same k a = elim (r.now k) [ inl e ↦ absurd (r.quiet (rw e.0 at a)) | inr e ↦ e ]

  -- No done store goes: the branch was not done.
  pub plain_store_stays : (j : ℕ) → j < x.size → stores (x.instruction j) ≡ true → 0 < x.time j → j < n'
  plain_store_stays j w st d = elim r.turned [
    | Turned.keeps e h ↦ omega arith
    | Turned.cuts e b h ↦
        (elim (cases_order j i) [
          | inl q ↦ omega arith
          | inr (inl q) ↦ omega arith
          | inr (inr q) ↦
              absurd (omega (arith, (now_waits x.time T' i c r.now).0, (v.order i j w d (Six.br_st (record { earlier = q; branch = b; store = st }))).done))
        ])
  ]

-- Rule 6.
module _ (x : Row) (i d c : ℕ) (D' : ℕ → Option ℕ) (v : Ok x c) (r : Datum x i d D') where
  pub word_now : Upd (word x) (λ k. coded (D' k)) i (suc d)
  word_now = rw (coded_some (Some d) d refl) at (changed_code coded x.datum D' i (Some d) (coded_none (x.datum i) r.wanting) r.now)

  -- Data that were known stay.
  pub word_stays : (k : ℕ) → 0 < word x k → coded (D' k) ≡ word x k
  word_stays k h = omega (arith, word_now k)

  pub datum_keeps : Ok (supplied x D') c
  datum_keeps = record {
    clock = v.clock;
    order = v.order;
    addr = v.addr;
    datum = λ j k kn z f. elim (word_now k) [ inl e ↦ r.ready j (rw e.0 at f) | inr e ↦ v.datum j k kn (omega arith) f ];
    located = v.located;
    given = λ k kn t st. omega (arith, word_stays k (v.given k kn t st), v.given k kn t st);
    older = v.older;
  }

-- Rule 1.
module _ (code : ℕ → Instruction) (end : ℕ) (x x' : Row) (c : ℕ) (cp : 0 < c) (v : Ok x c) (f : Fetched code end x x') where
  pub cell_same : (j : ℕ) → j < x.size → cell x' j ≡ cell x j
  cell_same j h = ap celled (f.address j h)

  pub word_same : (j : ℕ) → j < x.size → word x' j ≡ word x j
  word_same j h = ap coded (f.datum j h)

  pub cells_agree : (j : ℕ) → j < x.size → access (x.instruction j) ≡ true → known_cells (cell x') j ≡ known_cells (cell x) j
  cells_agree j h a = ap (known_cells (λ k. k)) (cell_same j h)

  -- What is done or known stands among the older entries.
  pub old_done : (k : ℕ) → 0 < x'.time k → k < x.size
  old_done k d = elim (cases_lt k x.size) [ inl e ↦ e | inr e ↦ absurd (omega (arith, f.rest k e)) ]

  old_known : (g : ℕ → ℕ) → g x.size ≡ 0 → (k : ℕ) → k < suc x.size → 0 < g k → k < x.size
  old_known g z k b h = elim (cases_lt k x.size) [ inl e ↦ e | inr e ↦ absurd (let q : k ≡ x.size = omega arith in omega (arith, ap g q)) ]

  local : (o : Option ℕ) (j k : ℕ) → k ≤ x.size → Feeds x'.instruction (known_cells (cell x')) o j k → Feeds x.instruction (known_cells (cell x)) o j k
  local = feeds_local x.size x.instruction x'.instruction (known_cells (cell x)) (known_cells (cell x')) f.instruction cells_agree

  first_local : (j k : ℕ) → k < x.size → Feeds x'.instruction (known_cells (cell x')) (first_operand (x'.instruction k)) j k
      → Feeds x.instruction (known_cells (cell x)) (first_operand (x.instruction k)) j k
  first_local j k kn d = rw (ap first_operand (f.instruction k kn)) at (local (first_operand (x'.instruction k)) j k (omega arith) d)

  second_local : (j k : ℕ) → k < x.size → Feeds x'.instruction (known_cells (cell x')) (second_operand (x'.instruction k)) j k
      → Feeds x.instruction (known_cells (cell x)) (second_operand (x.instruction k)) j k
  second_local j k kn d = rw (ap second_operand (f.instruction k kn)) at (local (second_operand (x'.instruction k)) j k (omega arith) d)

  pub fetch_keeps : Ok x' c
  fetch_keeps = record {
    clock = λ k. elim (cases_lt k x.size) [ inl h ↦ omega (arith, f.time k h, v.clock k) | inr h ↦ omega (arith, f.rest k h) ];
    order = λ j k kn d p.
        let h = old_done k d in
        let p' = six_local x.size x.instruction x'.instruction (known_cells (cell x)) (known_cells (cell x')) f.instruction cells_agree j k h p in
        let b = six_earlier x.instruction (known_cells (cell x)) j k p' in
        let o = v.order j k h (omega (arith, f.time k h)) p' in
        record { done = omega (arith, f.time j (omega arith), o.done); first = omega (arith, f.time j (omega arith), f.time k h, o.first) };
    addr = λ j k kn z d.
        let h = old_known (cell x') (celled_none (x'.address x.size) f.no_address) k (omega (arith, f.size)) z in
        omega (arith, f.time j (omega (arith, d.writer.below)), v.addr j k h (omega (arith, cell_same k h)) (first_local j k h d));
    datum = λ j k kn z d.
        let h = old_known (word x') (coded_none (x'.datum x.size) f.no_datum) k (omega (arith, f.size)) z in
        omega (arith, f.time j (omega (arith, d.writer.below)), v.datum j k h (omega (arith, word_same k h)) (second_local j k h d));
    located = λ k kn d y. let h = old_done k d in
        omega (arith, cell_same k h, v.located k h (omega (arith, f.time k h)) (rw (f.instruction k h) at y));
    given = λ k kn d y. let h = old_done k d in
        omega (arith, word_same k h, v.given k h (omega (arith, f.time k h)) (rw (f.instruction k h) at y));
    older = λ k kn d y j b z. let h = old_done k d in let hj : j < x.size = omega arith in
        omega (arith, cell_same j hj, v.older k h (omega (arith, f.time k h)) (rw (f.instruction k h) at y) j b (rw (f.instruction j hj) at z));
  }
