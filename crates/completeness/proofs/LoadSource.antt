-- What the axioms say of the source of a load: the cell where the earlier stores of its own path are done, or else the nearest of them.
use Rattle.std.proofs.Common.{◌≡◌, ℕ, ◌<◌, ◌≤◌, true, ◌&&◌, eqb, ◌⊎◌, [], length, get_or, sym, refl, ap, ◌∙◌, subst, ap₂, inl, inr, arith}
use Rattle.std.proofs.lemmas.List.{get_or_past}
use Rattle.std.proofs.lemmas.Bool.{and_parts, and_from, cases_order, cond-true, cond-false, eq-eqb, eqb-true, ltb-true}
use Rattle.instructions.specs.Kinds.{stores}
use Rattle.memory.specs.declared.cell.Cell.{Cell}
use Rattle.memory.specs.declared.cell.Mark.{Mark}
use Rattle.memory.specs.declared.cell.Mark.TheVariants as mark
use Rattle.question.specs.Litmus.{Litmus}
use Rattle.search.specs.Search.{nearest}
use Rattle.search.proofs.Searches.{nearest_is, nearest_is_none}
use Rattle.witness.specs.Execution.{Execution, Within}
use Rattle.witness.specs.declared.record.Access.{Access}
use Rattle.witness.specs.declared.record.Source.{Source}
use Rattle.events.specs.Sources.{path_at, source_at}
use Rattle.ordering.specs.Closure.Closure.{one}
use Rattle.ordering.specs.Constraints as constraints
use Rattle.ordering.specs.Rules.{gam}
use Rattle.checker.specs.Axioms.{Axioms, NamesStart, Sourced, Candidate, Youngest}
use Rattle.checker.specs.Fixed.{stores_to, cell_from, left_by}
use Rattle.checker.specs.Terms.{access_at, event, instruction, cell, AccessAt, LoadAt, StoreAt, Precedes}
use Rattle.checker.specs.Tests.{ordered, rank}
use Rattle.checker_laws.proofs.Bounds.{not_passing}
use Rattle.checker_laws.proofs.Ranks.{rank_stands, rank_ordered, precedes_is}
use Rattle.reachable.proofs.Exclusive.{load_accesses, store_accesses}
use Rattle.completeness.proofs.Related.{named_mark, cell_after}
use Rattle.completeness.proofs.EarlierStores.{Gap, one_cell}
use Rattle.completeness.proofs.NextAccess.{kept_lower}
use Rattle.completeness.proofs.CellsAfter.{stores_to_is, stores_to_parts}

-- A record of the start has the mark of the start.
start_named : (r : Source) → NamesStart r → named_mark r ≡ mark.Start
start_named r (a, b) = cond-true _ _ _ (and_from _ _ (eq-eqb r.processor 255 a) (eq-eqb r.position 255 b))

-- A record of a processor that there is has the mark of a store.
store_named : (r : Source) → r.processor < 255 → named_mark r ≡ mark.Store r.processor r.position
store_named r l = cond-false (eqb r.processor 255 && eqb r.position 255) _ _ (not_passing _ (λ h.
    let e : r.processor ≡ 255 = eqb-true _ _ (and_parts _ _ h).0 in omega arith))

module _ (q : Litmus) (w : Execution) (bounds : Within w) where
  -- A processor with a path is one of four.
  few : (p i : ℕ) → i < length (path_at w p) → p < 4
  few p i l = elim (cases_order p 4) [
    | inl e ↦ absurd (none (omega arith))
    | inr (inl b) ↦ b
    | inr (inr b) ↦ absurd (none (omega arith))
  ]
    where
      none : 4 ≤ p → ⊥
      none b =
          let e : length (path_at w p) ≡ 0 = ap length (get_or_past w.paths p [] (omega (arith, bounds.few_paths))) in
          omega arith

  -- What a load's source record says: the start, with nothing that could be younger, or the youngest store.
  data Stated (p i : ℕ) (r : Source) : Type 0 where
    start : named_mark r ≡ mark.Start → r.value ≡ get_or q.start (cell q w p i) 0 → ((a : Access) → Candidate q w p i a → ⊥) → Stated p i r
    store : named_mark r ≡ mark.Store r.processor r.position → r.value ≡ (event q w r.processor r.position).datum →
        Candidate q w p i (access_at r.processor r.position) →
        ((a : Access) → Candidate q w p i a → (a ≡ access_at r.processor r.position) ⊎ Precedes w.order a (access_at r.processor r.position)) → Stated p i r

  no_start : (p i : ℕ) (r : Source) → NamesStart r → StoreAt q w r.processor r.position → ⊥
  no_start p i r (a, b) x = omega (arith, few r.processor r.position x.0)

  stated_by : (p i : ℕ) → Sourced q w p i → Youngest q w p i (source_at q w p i) → Stated p i (source_at q w p i)
  stated_by p i (Sourced.from_start n v) (Youngest.start m none) = start (start_named (source_at q w p i) n) v none
  stated_by p i (Sourced.from_start n v) (Youngest.store c young) = absurd (no_start p i (source_at q w p i) n c.store)
  stated_by p i (Sourced.from_store x e v) (Youngest.start n none) = absurd (no_start p i (source_at q w p i) n x)
  stated_by p i (Sourced.from_store x e v) (Youngest.store c young) =
      store (store_named (source_at q w p i) (omega (arith, few (source_at q w p i).processor (source_at q w p i).position x.0))) v c young

  module _ (A : Axioms gam q w) where
    -- Precedence is a comparison of numbers.
    precedes_lower : (p i r j : ℕ) → AccessAt q w p i → AccessAt q w r j → Precedes w.order (access_at p i) (access_at r j) → rank q w p i < rank q w r j
    precedes_lower p i r j a b x = ltb-true _ _ ((precedes_is q w A.order p i r j a b).1 x)

    store_access : (p i : ℕ) → StoreAt q w p i → AccessAt q w p i
    store_access p i x = (x.0, store_accesses (instruction q w p i) x.1)

    -- An access to a cell before a store to it in a path has a lower number.
    pub older_lower : (p i j : ℕ) → i < j → AccessAt q w p i → StoreAt q w p j → cell q w p i ≡ cell q w p j → rank q w p i < rank q w p j
    older_lower p i j l a x e =
        kept_lower q w A p i j a (store_access p j x) (one (constraints.GAM.sa_mem_st (record { earlier = l; accesses = a.1; store = x.1; same = one_cell q w p i j e })))

    module _ (t p i : ℕ) (here : LoadAt q w p i) (now : rank q w p i ≡ t) where
      abbrev source : Source
      source = source_at q w p i

      stated : Stated p i source
      stated = stated_by p i (A.source p i here) (A.load_value p i here)

      here_access : AccessAt q w p i
      here_access = (here.0, load_accesses (instruction q w p i) here.1)

      -- A store to the cell among the first t of the order is a candidate.
      candidate_at : (k : ℕ) → k < t → stores_to q w (cell q w p i) (ordered q w k) ≡ true → Candidate q w p i (ordered q w k)
      candidate_at k l h =
          let (x, e) = stores_to_parts q w (cell q w p i) (ordered q w k) h in
          let stands = rank_stands q w A.order p i here_access in
          let b : k < length w.order = omega (arith, stands.0) in
          record { store = x; same = e; sooner = inl (record { first = k; second = rank q w p i; before = omega arith; first_stands = (b, refl); second_stands = stands }) }

      -- A store of the own path to the cell, before the load, is a candidate.
      candidate_own : (m : ℕ) → m < i → stores (instruction q w p m) ≡ true → cell q w p m ≡ cell q w p i → Candidate q w p i (access_at p m)
      candidate_own m l h e = record { store = (omega (arith, here.0), h); same = e; sooner = inr (refl, l) }

      -- The number of a candidate is below t, where the own earlier stores to the cell are done.
      candidate_done : ((m : ℕ) → m < i → stores (instruction q w p m) ≡ true → cell q w p m ≡ cell q w p i → rank q w p m < t) →
          (r j : ℕ) → Candidate q w p i (access_at r j) → rank q w r j < t
      candidate_done own r j c = go c.sooner
        where
          go : Precedes w.order (access_at r j) (access_at p i) ⊎ ((r ≡ p) × (j < i)) → rank q w r j < t
          go (inl x) = omega (arith, precedes_lower r j p i (store_access r j c.store) here_access x)
          go (inr (e, l)) =
              subst (λ z. rank q w z j < t) (sym e)
              (own j l (subst (λ z. stores (instruction q w z j) ≡ true) e c.store.1) (subst (λ z. cell q w z j ≡ cell q w p i) e c.same))

      -- The cell after t accesses holds what the record states, where the own earlier stores to it are done.
      pub cell_stated : ((m : ℕ) → m < i → stores (instruction q w p m) ≡ true → cell q w p m ≡ cell q w p i → rank q w p m < t) →
          cell_after q w t (cell q w p i) ≡ record { value = source.value; mark = named_mark source }
      cell_stated own = go stated
        where
          go : Stated p i source → cell_from q w (cell q w p i) (nearest (λ k. stores_to q w (cell q w p i) (ordered q w k)) t) ≡ record { value = source.value; mark = named_mark source }
          go (start m v none) =
              ap (cell_from q w (cell q w p i)) (nearest_is_none (λ k. stores_to q w (cell q w p i) (ordered q w k)) t (λ k l. not_passing _ (λ h. none (ordered q w k) (candidate_at k l h))))
              ∙ ap₂ {C = Cell} (λ (x : ℕ) (y : Mark). record { value = x; mark = y }) (sym v) (sym m)
          go (store m v c young) =
              let stands = rank_stands q w A.order source.processor source.position (store_access _ _ c.store) in
              ap (cell_from q w (cell q w p i)) (nearest_is (λ k. stores_to q w (cell q w p i) (ordered q w k)) t (rank q w source.processor source.position) (record {
                below = candidate_done own source.processor source.position c;
                hit = ap (stores_to q w (cell q w p i)) stands.1 ∙ stores_to_is q w (cell q w p i) source.processor source.position c.store c.same;
                between = λ k u l. not_passing _ (λ h. younger k u l h);
              }))
              ∙ ap (left_by q w) stands.1
              ∙ ap₂ {C = Cell} (λ (x : ℕ) (y : Mark). record { value = x; mark = y }) (sym v) (sym m)
            where
              younger : (k : ℕ) → rank q w source.processor source.position < k → k < t → stores_to q w (cell q w p i) (ordered q w k) ≡ true → ⊥
              younger k u l h =
                  let b : k < length w.order = omega (arith, (rank_stands q w A.order p i here_access).0) in
                  let e : rank q w (ordered q w k).processor (ordered q w k).position ≡ k = rank_ordered q w A.order k b in
                  let x = candidate_at k l h in
                  elim (young (ordered q w k) x) [
                    | inl z ↦ (let y : rank q w (ordered q w k).processor (ordered q w k).position ≡ rank q w source.processor source.position =
                        ap (λ (o : Access). rank q w o.processor o.position) z in omega arith)
                    | inr z ↦ omega (
                      arith,
                      precedes_lower (ordered q w k).processor (ordered q w k).position source.processor source.position
                          (store_access _ _ x.store) (store_access _ _ c.store) z,
                    )
                  ]

      -- The nearest own earlier store to the cell, if its number is not below t, is what the record names.
      module _ (m : ℕ) (l : m < i) (h : stores (instruction q w p m) ≡ true) (e : cell q w p m ≡ cell q w p i) (gap : Gap q w p m i) (late : t ≤ rank q w p m) where
        m_store : StoreAt q w p m
        m_store = (omega (arith, here.0), h)

        -- Another store of the own path to the cell has a lower number.
        own_lower : (j : ℕ) → j < i → StoreAt q w p j → cell q w p j ≡ cell q w p i → rank q w p m < rank q w p j → ⊥
        own_lower j b x z u = elim (cases_order j m) [
          | inl y ↦ (let v : rank q w p j ≡ rank q w p m = ap (rank q w p) y in omega arith)
          | inr (inl y) ↦ omega (arith, older_lower p j m y (store_access p j x) m_store (z ∙ sym e))
          | inr (inr y) ↦ gap j y b x.1 z
        ]

        -- So has every other candidate.
        candidate_lower : (r j : ℕ) → Candidate q w p i (access_at r j) → rank q w p m < rank q w r j → ⊥
        candidate_lower r j c u = go c.sooner
          where
            go : Precedes w.order (access_at r j) (access_at p i) ⊎ ((r ≡ p) × (j < i)) → ⊥
            go (inl x) = omega (arith, precedes_lower r j p i (store_access r j c.store) here_access x)
            go (inr (y, b)) =
                own_lower j b (subst (λ z. StoreAt q w z j) y c.store) (subst (λ z. cell q w z j ≡ cell q w p i) y c.same) (subst (λ z. rank q w p m < rank q w z j) y u)

        pub forwarded_stated : ((event q w p m).datum ≡ source.value) × (mark.Store p m ≡ named_mark source)
        forwarded_stated = go stated
          where
            go : Stated p i source → ((event q w p m).datum ≡ source.value) × (mark.Store p m ≡ named_mark source)
            go (start n v none) = absurd (none (access_at p m) (candidate_own m l h e))
            go (store n v c young) = elim (young (access_at p m) (candidate_own m l h e)) [
              | inl z ↦ (ap (λ (o : Access). (event q w o.processor o.position).datum) z ∙ sym v, ap {B = Mark} (λ (o : Access). mark.Store o.processor o.position) z ∙ sym n)
              | inr z ↦ absurd (candidate_lower source.processor source.position c
                  (precedes_lower p m source.processor source.position (store_access p m m_store) (store_access _ _ c.store) z))
            ]
