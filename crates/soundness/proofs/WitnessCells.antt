-- The cells of a finished run are those that its witness fixes, value and mark.
use Rattle.std.proofs.Common.{◌≡◌, ℕ, suc, ◌%◌, ◌<◌, true, ltb, ◌⊎◌, length, get_or, Some, None, Ok, sym, refl, ap, ◌∙◌, subst, inl, inr, arith}
use Rattle.std.proofs.lemmas.Bool.{and_parts, and_from, lt-ltb, ltb-true, eq-eqb, eqb-true, cond-true}
use Rattle.instructions.specs.Kinds.{stores}
use Rattle.machine.specs.Results.{closed, cell_answer}
use Rattle.machine.specs.State.{State}
use Rattle.memory.specs.Cells.{zero_cell}
use Rattle.memory.specs.declared.cell.Mark.{Mark}
use Rattle.memory.specs.declared.cell.Mark.TheVariants as marks
use Rattle.question.specs.Litmus.{Litmus}
use Rattle.search.proofs.Searches.{nearest_is, nearest_is_none}
use Rattle.witness.specs.Execution.{Execution}
use Rattle.witness.specs.declared.record.Access.{Access}
use Rattle.events.specs.Sources.{path_at}
use Rattle.checker.specs.Fixed.{stores_to, last_store, left_by, cell_from, fixed_cell}
use Rattle.checker.specs.Terms.{access_at, OnPath, Stands, Precedes}
use Rattle.checker.specs.Terms as terms
use Rattle.checker_laws.proofs.Bounds.{not_passing}
use Rattle.soundness.proofs.Ends.{Marked, StoreTo, LastStore}
use Rattle.soundness.proofs.KindFacts.{store_access}
use Rattle.soundness.proofs.SeenRuns.{start_of, Shown}
use Rattle.soundness.proofs.WitnessOrder.{one_number}
use Rattle.soundness.proofs.WitnessShown.{execution, rows, rows_done, ended, path_row, row_path, kind_row, row_kind, cell_row, datum_row}

module _ (q : Litmus) (s : State) (shown : Shown q s) (finished : (closed q s).finished ≡ true) (b : ℕ) where
  abbrev w : Execution
  w = execution q s shown finished

  -- A store to the cell passes the test, and what passes is one.
  store_passes : (a : Access) → StoreTo (rows q s shown finished) s.order b a → stores_to q w b a ≡ true
  store_passes a t =
      let on : OnPath q w a.processor a.position = row_path q s shown finished a.processor a.position t.within in
      let store : stores (terms.instruction q w a.processor a.position) ≡ true =
      row_kind q s shown finished a.processor a.position on stores t.store in
      let one : suc (terms.cell q w a.processor a.position) ≡ suc b =
      sym (cell_row q s shown finished a.processor a.position on (store_access _ store)) ∙ t.same in
      let same : terms.cell q w a.processor a.position ≡ b = omega arith in
      and_from _ _ (lt-ltb a.position (length (path_at w a.processor)) on) (and_from _ _ store (eq-eqb _ b same))

  passes_store : (a : Access) → stores_to q w b a ≡ true → StoreTo (rows q s shown finished) s.order b a
  passes_store a h =
      let outer = and_parts (ltb a.position (length (path_at w a.processor))) _ h in
      let inner = and_parts (stores (terms.instruction q w a.processor a.position)) _ outer.1 in
      let on : OnPath q w a.processor a.position = ltb-true a.position _ outer.0 in
      record {
        within = path_row q s shown finished a.processor a.position on;
        store = kind_row q s shown finished a.processor a.position on stores inner.0;
        same = cell_row q s shown finished a.processor a.position on (store_access _ inner.0) ∙ ap suc (eqb-true _ b inner.1);
      }

  -- The access with a number in the order.
  abbrev ordered : ℕ → Access
  ordered k = get_or s.order k (access_at 0 0)

  -- Without a store to the cell the search finds none.
  none_last : ((a : Access) → StoreTo (rows q s shown finished) s.order b a → ⊥) → last_store q w b ≡ None
  none_last none = nearest_is_none (λ k. stores_to q w b (ordered k)) (length s.order)
      (λ m l. not_passing (stores_to q w b (ordered m)) (λ h. none (ordered m) (passes_store (ordered m) h)))

  -- The last store to the cell is what the search finds.
  last_found : (a : Access) (k : ℕ) → Stands s.order k a → StoreTo (rows q s shown finished) s.order b a →
      ((c : Access) → StoreTo (rows q s shown finished) s.order b c → (c ≡ a) ⊎ Precedes s.order c a) → last_store q w b ≡ Some k
  last_found a k st store all = nearest_is (λ m. stores_to q w b (ordered m)) (length s.order) k (record {
    below = st.0;
    hit = ap (stores_to q w b) st.1 ∙ store_passes a store;
    between = λ m l h. not_passing (stores_to q w b (ordered m)) (λ passes. later m l h (all (ordered m) (passes_store (ordered m) passes)));
  })
    where
      later : (m : ℕ) → k < m → m < length s.order → (ordered m ≡ a) ⊎ Precedes s.order (ordered m) a → ⊥
      later m l h (inl e) = let z : m ≡ k = one_number q s shown.invariant finished a m k (h, e) st in omega arith
      later m l h (inr e) =
          let z : e.first ≡ m = one_number q s shown.invariant finished (ordered m) e.first m e.first_stands (h, refl) in
          let y : e.second ≡ k = one_number q s shown.invariant finished a e.second k e.second_stands st in
          omega (arith, e.before)

  -- What the witness fixes, from the last store and its mark.
  fixed_from : (m : Mark) (v : ℕ) → LastStore (rows q s shown finished) s.order b m → Marked (start_of q) (rows q s shown finished) b m v →
      fixed_cell q w b ≡ record { value = v; mark = m }
  fixed_from m v (LastStore.start none) Marked.start = ap (cell_from q w b) (none_last none)
  fixed_from m v (LastStore.store r j store all) (Marked.store r2 j2 u l st c d) =
      let (k, stands) = subst (λ o. (i : ℕ) × Stands o i (access_at r j)) shown.seen.order
      ((ended q s shown finished).listed.complete r j l (store_access _ st) (rows_done q s shown finished r j l)) in
      ap (cell_from q w b) (last_found (access_at r j) k stands store all)
      ∙ ap (left_by q w) stands.1
      ∙ ap (λ n. record { value = n; mark = marks.Store r j }) (datum_row q s shown finished r j (row_path q s shown finished r j l) v d)

  -- The cell of the state is what the witness fixes.
  cell_fixed : get_or s.cells b zero_cell ≡ fixed_cell q w b
  cell_fixed =
      let (last, marked) = (ended q s shown finished).cells b in
      let m = (get_or s.cells b zero_cell).mark in
      let v = (get_or s.cells b zero_cell).value in
      sym (fixed_from m v
      (subst (λ o. LastStore (rows q s shown finished) o b m) shown.seen.order
      (subst (λ y. LastStore (rows q s shown finished) shown.world.order b y) (shown.seen.mark b) last))
      (subst (λ y. Marked (start_of q) (rows q s shown finished) b m y) (shown.seen.value b)
      (subst (λ y. Marked (start_of q) (rows q s shown finished) b y (shown.world.memory.value b)) (shown.seen.mark b) marked)))

  pub cells_fixed : b < 16 → cell_answer (closed q s) b ≡ Ok (fixed_cell q w b)
  cells_fixed l =
      let same : b % 16 ≡ b = omega arith in
      cond-true _ _ _ finished ∙ cond-true _ _ _ (lt-ltb b 16 l) ∙ ap (λ c. Ok c) (ap (λ n. get_or s.cells n zero_cell) same ∙ cell_fixed)
