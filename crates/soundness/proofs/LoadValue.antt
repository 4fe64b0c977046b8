-- LoadValue from the invariant: when all is done, the mark of a load is the youngest store by the order, or the start.
use Rattle.std.proofs.Common.{◌≡◌, ℕ, suc, ◌<◌, ◌≤◌, true, ◌⊎◌, List, Option, sym, refl, ap, ◌∙◌, inl, inr, arith}
use Rattle.std.proofs.lemmas.Bool.{cases_order, cases_lt}
use Rattle.instructions.specs.Kinds.{loads, stores}
use Rattle.instructions.specs.declared.instruction.Instruction.{Instruction}
use Rattle.memory.specs.declared.cell.Mark.{Mark}
use Rattle.search.specs.Search.{Sought}
use Rattle.search.proofs.Searches.{nearest_found}
use Rattle.witness.specs.declared.record.Access.{Access}
use Rattle.checker.specs.Terms.{access_at, Precedes}
use Rattle.soundness.proofs.Worlds.{Row, Memory, cell}
use Rattle.soundness.proofs.Ends.{moment, Candidate, Youngest, LoadValue}
use Rattle.soundness.proofs.KindFacts.{load_access, store_access, true_not_false}
use Rattle.soundness.proofs.CellSearches.{hits, hits_parts, hits_from}
use Rattle.soundness.proofs.Constrained.{Six, Near, same_from}
use Rattle.soundness.proofs.Invariant.{Before}
use Rattle.soundness.proofs.LoadStep.{near_only}
use Rattle.soundness.proofs.Sources.{DoneStore, Last, Sourced, Good}
use Rattle.soundness.proofs.Orders.{In, earlier_precedes, precedes_earlier, one_at_a_time}
use Rattle.soundness.proofs.Listing.{Lists}

-- The nearest store to the cell of k, where j is one.
near_store : (ins : ℕ → Instruction) (A : ℕ → ℕ) (j k : ℕ) → j < k → stores (ins j) ≡ true → 0 < A k → A j ≡ A k → (m : ℕ) × Near ins A m k × (j ≤ m)
near_store ins A j k b st z e = go (nearest_found (hits stores ins A (A k)) k)
  where
    go : {f : Option ℕ} → Sought (hits stores ins A (A k)) k f → (m : ℕ) × Near ins A m k × (j ≤ m)
    go (Sought.nothing h) = absurd (true_not_false (sym (hits_from stores ins A (A k) j st e) ∙ h j b))
    go (Sought.found m n) =
        let p = hits_parts stores ins A (A k) m n.hit in (
          m,
          record {
            before = n.below;
            store = p.0;
            known = z;
            same = p.1;
            none = λ y q w st' e'. true_not_false (sym (hits_from stores ins A (A k) y st' e') ∙ n.between y q w);
          },
          (elim (cases_lt m j) [ inl q ↦ absurd (true_not_false (sym (hits_from stores ins A (A k) j st e) ∙ n.between j q b)) | inr q ↦ q ]),
        )

module _ (init : ℕ → ℕ) (s : ℕ → Row) (μ : Memory) (c : ℕ) (l : List Access) (g : Good init s μ c) (li : Lists s l) (fin : (p k : ℕ) → k < (s p).size → 0 < (s p).time k) where
  -- Stores of one buffer to one cell are done in its order.
  in_turn : (p j m : ℕ) → j ≤ m → m < (s p).size → stores ((s p).instruction j) ≡ true → stores ((s p).instruction m) ≡ true → cell (s p) j ≡ cell (s p) m → (s p).time j ≤ (s p).time m
  in_turn p j m b mn x y e = elim (cases_order j m) [ inl h ↦ omega (arith, ap (s p).time h) | inr (inl h) ↦ omega (arith, first h) | inr (inr h) ↦ omega arith ]
    where
      first : j < m → (s p).time j < (s p).time m
      first h = ((g.each p).order j m mn (fin p m mn) (Six.sa_mem_st (record {
        earlier = h;
        accesses = store_access ((s p).instruction j) x;
        store = y;
        same = same_from (s p).instruction (cell (s p)) j m e ((g.each p).located m mn (fin p m mn) (store_access ((s p).instruction m) y));
      }))).first

  -- A candidate is done before t, if the nearest older store is.
  early : (p k t : ℕ) → k < (s p).size → 0 < cell (s p) k → (s p).time k ≤ t → ((m : ℕ) → Near (s p).instruction (cell (s p)) m k → (s p).time m < t) → (a : Access) → Candidate s l p k a → moment s a < t
  early p k t kn z b h a ca = elim ca.sooner [
    | inl o ↦ omega (arith, precedes_earlier (moment s) l a (access_at p k) li.rises o)
    | inr o ↦ own a.processor a.position o.0 o.1 ca.store ca.same
  ]
    where
      own : (q j : ℕ) → q ≡ p → j < k → stores ((s q).instruction j) ≡ true → cell (s q) j ≡ cell (s p) k → (s q).time j < t
      own q j e = rw e (λ b' st sa.
          let r = near_store (s p).instruction (cell (s p)) j k b' st z sa in
          omega (arith, h r.0 r.1, in_turn p j r.0 r.2 (omega (arith, r.1.before)) st r.1.store (omega (arith, r.1.same))))

  known_load : (p k : ℕ) → k < (s p).size → loads ((s p).instruction k) ≡ true → 0 < cell (s p) k
  known_load p k kn ld = (g.each p).located k kn (fin p k kn) (load_access ((s p).instruction k) ld)

  stands : (a : Access) → a.position < (s a.processor).size → stores ((s a.processor).instruction a.position) ≡ true → In a l
  stands a w st = li.complete a.processor a.position w (store_access ((s a.processor).instruction a.position) st) (fin a.processor a.position w)

  -- Of two stores in the order that is not later than the other precedes it, or is it.
  pub not_later : (a b : Access) → In a l → In b l → moment s a ≤ moment s b → (a ≡ b) ⊎ Precedes l a b
  not_later a b p q h = elim (cases_lt (moment s a) (moment s b)) [
    | inl z ↦ inr (earlier_precedes (moment s) l a b li.rises p q z)
    | inr z ↦ inl (one_at_a_time (moment s) l a b li.rises p q (omega arith))
  ]

  done_store : (p k : ℕ) → k < (s p).size → loads ((s p).instruction k) ≡ true → ((m : ℕ) → Near (s p).instruction (cell (s p)) m k → Before (s p).time m k)
      → (a : Access) → Candidate s l p k a → DoneStore (s a.processor) a.position (cell (s p) k) ((s p).time k)
  done_store p k kn ld h a ca = record {
    within = ca.within;
    store = ca.store;
    to = ca.same;
    done = fin a.processor a.position ca.within;
    by_then = early p k ((s p).time k) kn (known_load p k kn ld) (omega arith) (λ m near. (h m near).first) a ca;
  }

  from_memory : (p k : ℕ) → k < (s p).size → loads ((s p).instruction k) ≡ true → ((m : ℕ) → Near (s p).instruction (cell (s p)) m k → Before (s p).time m k)
      → {mk : Mark} → Last s (cell (s p) k) ((s p).time k) mk → Youngest s l p k mk
  from_memory p k kn ld h (Last.initial n) = Youngest.start (λ a ca. n a.processor a.position (done_store p k kn ld h a ca))
  from_memory p k kn ld h (Last.latest q i st n) = Youngest.store q i
      (record {
        within = st.within;
        store = st.store;
        same = st.to;
        sooner = inl (earlier_precedes (moment s) l (access_at q i) (access_at p k) li.rises
            (stands (access_at q i) st.within st.store) (li.complete p k kn (load_access ((s p).instruction k) ld) (fin p k kn)) st.by_then);
      })
      (λ a ca. not_later a (access_at q i) (stands a ca.within ca.store) (stands (access_at q i) st.within st.store) (n a.processor a.position (done_store p k kn ld h a ca)))

  youngest : (p k : ℕ) → k < (s p).size → loads ((s p).instruction k) ≡ true → Sourced (s p) s p k → Youngest s l p k ((s p).mark k)
  youngest p k kn ld (Sourced.own m near g' h e) = rw e (Youngest.store p m
      (record { within = mn; store = near.store; same = near.same; sooner = inr (refl, near.before) })
      (λ a ca. not_later a (access_at p m) (stands a ca.within ca.store) (stands (access_at p m) mn near.store)
      (let b = early p k (suc ((s p).time m)) kn (known_load p k kn ld) (omega (arith, h (fin p m mn)))
      (λ m' near'. omega (arith, ap (s p).time (near_only (s p).instruction (cell (s p)) m m' k near near'))) a ca in omega arith)))
    where
      mn : m < (s p).size
      mn = omega (arith, near.before)
  youngest p k kn ld (Sourced.memory h la) = from_memory p k kn ld h la

  pub load_value : LoadValue s l
  load_value p k kn ld = youngest p k kn ld (g.sourced p k kn (fin p k kn) ld)
