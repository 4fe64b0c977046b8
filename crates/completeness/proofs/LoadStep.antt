-- The next access of the order, if it is a load, is accepted with the value and the mark that its record names, and leads to a related state.
use Rattle.std.proofs.Common.{◌≡◌, ℕ, suc, ◌<◌, ◌≤◌, Bool, true, false, length, is_some, Some, sym, refl, ap, ◌∙◌, subst, inl, inr, arith}
use Rattle.std.proofs.lemmas.Bool.{both_ways, cases_Bool, cases_lt, cases_order, or_cases}
use Rattle.instructions.specs.Kinds.{loads, stores, access, fence_to, first_operand, second_operand}
use Rattle.instructions.specs.declared.instruction.AccessType.TheVariants as access_type
use Rattle.instructions.specs.declared.instruction.Instruction.{Instruction}
use Rattle.memory.specs.Cells.{cell_at}
use Rattle.memory.specs.declared.cell.Cell.{Cell}
use Rattle.memory.specs.declared.cell.Mark.{Mark}
use Rattle.memory.specs.declared.cell.Mark.TheVariants as mark
use Rattle.question.specs.Litmus.{Litmus}
use Rattle.rules.specs.Changes.{load_change}
use Rattle.rules.specs.Entries.{loaded}
use Rattle.instructions.specs.Effects.{cell_number}
use Rattle.witness.specs.Execution.{Execution, Within}
use Rattle.events.specs.Sources.{path_at, source_at, events}
use Rattle.ordering.specs.Closure.Closure.{one}
use Rattle.ordering.specs.Constraints as constraints
use Rattle.ordering.specs.Rules.{gam}
use Rattle.checker.specs.Axioms.{Axioms}
use Rattle.checker.specs.Terms.{event, cell, AccessAt, StoreAt}
use Rattle.checker.specs.Terms as terms
use Rattle.checker.specs.Tests.{rank}
use Rattle.machine.specs.Fires.{entry, instruction, step, Older, OpenTo, NearestOpen, Ready, Fires}
use Rattle.machine.specs.State.{State}
use Rattle.machine.specs.Steps.{changed}
use Rattle.reachable.specs.Checked.{Checked}
use Rattle.reachable.proofs.Exclusive.{load_accesses, store_accesses, loads_no_store}
use Rattle.reachable.proofs.Moved.{known}
use Rattle.completeness.proofs.KindFacts.{fence_to_fences}
use Rattle.completeness.proofs.Related.{Related, Safe, StoreBefore, LoadBefore, named_mark}
use Rattle.completeness.proofs.Values.{same_instruction, stands, address_value, data_value}
use Rattle.completeness.proofs.EarlierStores.{cell_known, cell_met, one_cell, cell_same, Gap, StoredBefore, stored_before, store_before_is}
use Rattle.completeness.proofs.Saturation.{Still, settled, ready_by, address, store_data, cleared_before}
use Rattle.completeness.proofs.NextAccess.{next_cleared, next_stands, next_waits, related_next}
use Rattle.completeness.proofs.CellsAfter.{cells_stay}
use Rattle.completeness.proofs.LoadSource.{older_lower, cell_stated, forwarded_stated}

module _ (q : Litmus) (checked : Checked q) (w : Execution) (bounds : Within w) (A : Axioms gam q w) (t : ℕ) (s : State) (R : Related q w t s) (still : Still q s)
    (p i : ℕ) (l : i < length (path_at w p)) (load : loads (terms.instruction q w p i) ≡ true) (now : rank q w p i ≡ t) where
  here : AccessAt q w p i
  here = (l, load_accesses (terms.instruction q w p i) load)

  before : (kind : Instruction → Bool) (j : ℕ) → kind (instruction s p j) ≡ true → kind (terms.instruction q w p j) ≡ true
  before kind j h = ap kind (sym (same_instruction q w t s R p j)) ∙ h

  -- It has its address.
  own_address : (entry s p i).address ≡ Some (event q w p i).address
  own_address =
      let x = settled q w t s R still p i l (next_cleared q w A t s R p i here now) in
      let (a, e) = known (entry s p i).address (x.addressed here.1) in
      e ∙ ap Some (address_value q w t s R p i l a e)

  -- FenceOrd: older fences that loads come after are done.
  older_fences : Older s p i (λ e. fence_to access_type.Load e.instruction ≡ true → e.done ≡ true)
  older_fences j b h =
      let k = before (fence_to access_type.Load) j h in
      let kept : gam (events q w p) j i = constraints.GAM.fence_ord (constraints.FenceOrd.after_fence access_type.Load b k load) in
      (settled q w t s R still p j (omega arith) (cleared_before q w t s R still p j i kept (next_cleared q w A t s R p i here now))).fenced
      (fence_to_fences access_type.Load (terms.instruction q w p j) k)

  -- SAStLd: what the nearest earlier store to its cell depends on is done, and so that store has its address and its data.
  module _ (m : ℕ) (near : StoreBefore q w p m i) where
    m_in : m < length (path_at w p)
    m_in = omega (arith, near.earlier)

    store_address : (entry s p m).address ≡ Some (event q w p m).address
    store_address =
        let (x, u) = ready_by q w t s R still p (first_operand (terms.instruction q w p m)) m i m_in
        (λ k f. constraints.GAM.sa_st_ld (record { load = load; nearest = m; store = near; depends = inl f })) (next_cleared q w A t s R p i here now) in
        let (a, e) = known (entry s p m).address (address q w t s R still p m m_in (store_accesses (terms.instruction q w p m) near.store)
        (x, subst (λ c. Ready s p m (first_operand c) x) (sym (same_instruction q w t s R p m)) u)) in
        e ∙ ap Some (address_value q w t s R p m m_in a e)

    store_has_data : (entry s p m).datum ≡ Some (event q w p m).datum
    store_has_data =
        let (y, u) = ready_by q w t s R still p (second_operand (terms.instruction q w p m)) m i m_in
        (λ k f. constraints.GAM.sa_st_ld (record { load = load; nearest = m; store = near; depends = inr f })) (next_cleared q w A t s R p i here now) in
        let (d, e) = known (entry s p m).datum (store_data q w t s R still p m m_in near.store
        (y, subst (λ c. Ready s p m (second_operand c) y) (sym (same_instruction q w t s R p m)) u)) in
        e ∙ ap Some (data_value q w t s R p m m_in d e)

  -- SALdLd: older loads of its cell, with no store to it between, are done.
  older_loads : (m : ℕ) → LoadBefore q w p m i → (entry s p m).done ≡ true
  older_loads m x = next_cleared q w A t s R p i here now m (one (constraints.GAM.sa_ld_ld x)) (load_accesses (terms.instruction q w p m) x.first_load)

  -- An older open access to the cell of the entries is to the cell of the event.
  open_cell : (m : ℕ) → m < i → OpenTo (event q w p i).address (entry s p m) → cell q w p m ≡ cell q w p i
  open_cell m b (h, d, z) =
      let (a, e, c) = cell_known (event q w p i).address (entry s p m).address z in
      ap cell_number (sym (address_value q w t s R p m (omega arith) a e)) ∙ sym c

  -- Behind the nearest earlier store to its cell nothing to it is open.
  closed_behind : (m : ℕ) → m < i → ((k : ℕ) → m ≤ k → k < i → stores (terms.instruction q w p k) ≡ true → cell q w p k ≡ cell q w p i → ⊥) →
      OpenTo (event q w p i).address (entry s p m) → ⊥
  closed_behind m b none o =
      let e = open_cell m b o in
      elim (or_cases (loads (terms.instruction q w p m)) (stores (terms.instruction q w p m)) (before access m o.0)) [
        | inl h ↦ both_ways (entry s p m).done o.1 (older_loads m (record {
          earlier = b;
          first_load = h;
          second_load = load;
          same = one_cell q w p m i e;
          none_between = λ k u v st z. none k (omega arith) v st (cell_same q w p k i z);
        }))
        | inr h ↦ none m (omega arith) b h e
      ]

  -- The load goes, with what its record states.
  record Goes : Type 0 where
    value : ℕ
    mark : Mark
    fires : Fires q s (step 5 p i 0) 0 (changed s p i (load_change (entry s p i) value mark))
    right_value : value ≡ (source_at q w p i).value
    right_mark : mark ≡ named_mark (source_at q w p i)

  -- From the memory, where nothing older to its cell is open and the own earlier stores to it are done.
  from_memory : Older s p i (λ e. OpenTo (event q w p i).address e → ⊥) →
      ((m : ℕ) → m < i → stores (terms.instruction q w p m) ≡ true → cell q w p m ≡ cell q w p i → rank q w p m < t) → Goes
  from_memory none own =
      let c : cell_at s.cells (event q w p i).address ≡ record { value = (source_at q w p i).value; mark = named_mark (source_at q w p i) } =
      R.cells (cell q w p i) (omega arith) ∙ cell_stated q w bounds A t p i (l, load) now own in
      record {
        value = (cell_at s.cells (event q w p i).address).value;
        mark = (cell_at s.cells (event q w p i).address).mark;
        fires = Fires.load_from_memory p i (event q w p i).address (stands q w t s R p i l) (ap loads (same_instruction q w t s R p i) ∙ load)
            (next_waits q w A t s R p i here now) own_address older_fences none;
        right_value = ap (λ (x : Cell). x.value) c;
        right_mark = ap (λ (x : Cell). x.mark) c;
      }

  module _ (m : ℕ) (b : m < i) (h : stores (terms.instruction q w p m) ≡ true) (e : cell q w p m ≡ cell q w p i) (gap : Gap q w p m i) where
    m_store : StoreAt q w p m
    m_store = (omega arith, h)

    m_access : AccessAt q w p m
    m_access = (omega arith, store_accesses (terms.instruction q w p m) h)

    -- The nearest earlier store is done: so is all before it to the cell.
    after_done : (entry s p m).done ≡ true → Goes
    after_done d = from_memory none own
      where
        m_early : rank q w p m < t
        m_early = (R.done_is p m m_access).0 d

        none : Older s p i (λ x. OpenTo (event q w p i).address x → ⊥)
        none k c o = elim (cases_order k m) [
          | inl z ↦ both_ways (entry s p m).done (subst (λ y. (entry s p y).done ≡ false) z o.1) d
          | inr (inl z) ↦ (let y : AccessAt q w p k = (omega arith, before access k o.0) in
              both_ways (entry s p k).done o.1 ((R.done_is p k y).1 (omega (arith, older_lower q w bounds A p k m z y m_store (open_cell k c o ∙ sym e), m_early))))
          | inr (inr z) ↦ closed_behind k c (λ n u v. gap n (omega arith) v) o
        ]

        own : (k : ℕ) → k < i → stores (terms.instruction q w p k) ≡ true → cell q w p k ≡ cell q w p i → rank q w p k < t
        own k c st z = elim (cases_order k m) [
          | inl y ↦ subst (λ n. rank q w p n < t) (sym y) m_early
          | inr (inl y) ↦ omega (arith, older_lower q w bounds A p k m y (omega arith, store_accesses (terms.instruction q w p k) st) m_store (z ∙ sym e), m_early)
          | inr (inr y) ↦ absurd (gap k y c st z)
        ]

    -- The nearest earlier store is not done: the load takes its data.
    forwarded : (entry s p m).done ≡ false → Goes
    forwarded d =
        let near = store_before_is q w p m i b h e gap in
        let late : t ≤ rank q w p m = elim (cases_lt (rank q w p m) t) [ inl z ↦ absurd (both_ways (entry s p m).done d ((R.done_is p m m_access).1 z)) | inr z ↦ z ] in
        let (v, n) = forwarded_stated q w bounds A t p i (l, load) now m b h e gap late in
        let x : NearestOpen s p i (event q w p i).address m = record {
          older = b;
          open_to_cell = (ap access (same_instruction q w t s R p m) ∙ m_access.1, d, cell_met (event q w p i).address (event q w p m).address (entry s p m).address (store_address m near) (sym e));
          none_between = λ k u c. closed_behind k c (λ n y z. gap n (omega arith) z);
        } in
        record {
          value = (event q w p m).datum;
          mark = mark.Store p m;
          fires = Fires.load_forwarded p i (event q w p i).address m (event q w p m).datum (stands q w t s R p i l) (ap loads (same_instruction q w t s R p i) ∙ load)
              (next_waits q w A t s R p i here now) own_address older_fences x (ap stores (same_instruction q w t s R p m) ∙ h) (store_has_data m near);
          right_value = v;
          right_mark = n;
        }

  by_store : StoredBefore q w p i → Goes
  by_store (StoredBefore.never none) = from_memory (λ k c. closed_behind k c (λ n u v. none n v)) (λ k c st z. absurd (none k c st z))
  by_store (StoredBefore.by m b h e gap) = elim (cases_Bool (entry s p m).done) [ inl d ↦ after_done m b h e gap d | inr d ↦ forwarded m b h e gap d ]

  goes : Goes
  goes = by_store (stored_before q w p i)

  -- What the load has settled.
  settles : Safe q w s p i
  settles = record { store = λ m near. ap is_some (store_address m near); older_loads = older_loads }

  -- The load is carried out, and the state that it leads to is related.
  pub load_goes : (u : State) × Fires q s (step 5 p i 0) 0 u × Related q w (suc t) u
  load_goes =
      let done : State = changed s p i (load_change (entry s p i) goes.value goes.mark) in
      let related : Related q w (suc t) done =
      related_next q w A t s R p i here now checked done (step 5 p i 0) goes.fires (loaded (entry s p i) goes.value goes.mark) refl refl refl refl refl
      (λ x. record { value = goes.right_value; mark = goes.right_mark })
      (cells_stay q w t s R p i (next_stands q w A t s R p i here now) (loads_no_store (terms.instruction q w p i) load))
      (λ x. settles) in
      (done, goes.fires, related)
