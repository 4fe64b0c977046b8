-- In a related state the first younger access to a cell whose address becomes known is never a done load: nothing is removed.
use Rattle.std.proofs.Common.{◌≡◌, ℕ, ◌<◌, true, false, length, is_some, sym, ap, ◌∙◌, inl, inr, arith}
use Rattle.std.proofs.lemmas.Bool.{both_ways, cases_lt, or_cases}
use Rattle.instructions.specs.Effects.{address_sum, cell_number}
use Rattle.instructions.specs.Kinds.{loads, stores, access, first_operand}
use Rattle.question.specs.Litmus.{Litmus}
use Rattle.witness.specs.Execution.{Execution}
use Rattle.events.specs.Sources.{path_at}
use Rattle.checker.specs.Terms.{cell}
use Rattle.checker.specs.Terms as terms
use Rattle.machine.specs.Fires.{entry, instruction, Ready, FirstYounger}
use Rattle.machine.specs.State.{State}
use Rattle.reachable.proofs.Exclusive.{store_accesses}
use Rattle.reachable.proofs.Moved.{known}
use Rattle.completeness.proofs.Related.{Related, Safe}
use Rattle.completeness.proofs.Values.{same_instruction, stands_in, address_sum_is, address_value}
use Rattle.completeness.proofs.EarlierStores.{cell_known, cell_met, one_cell, cell_same, Gap, StoredBefore, stored_before, store_before_is}

module _ (q : Litmus) (w : Execution) (t : ℕ) (s : State) (R : Related q w t s) (p i : ℕ) (l : i < length (path_at w p))
    (accesses : access (instruction s p i) ≡ true) (new : is_some (entry s p i).address ≡ false) (x : ℕ) (ready : Ready s p i (first_operand (instruction s p i)) x) where
  abbrev a : ℕ
  a = address_sum (instruction s p i) x

  -- The sum means the event's cell.
  right_cell : cell_number a ≡ cell q w p i
  right_cell = ap cell_number (address_sum_is q w t s R p i l x ready)

  -- The entry has no address, and so it is not done.
  not_done : (entry s p i).done ≡ true → ⊥
  not_done d = both_ways (is_some (entry s p i).address) new (((R.invariant.entries p i (stands_in q w t s R p i l)).finished d).has_address accesses)

  module _ (m : ℕ) (first : FirstYounger s p i a m) (load : loads (instruction s p m) ≡ true) (done : (entry s p m).done ≡ true) where
    m_in : m < length (path_at w p)
    m_in = omega (arith, first.within, R.whole p)

    is_load : loads (terms.instruction q w p m) ≡ true
    is_load = ap loads (sym (same_instruction q w t s R p m)) ∙ load

    m_cell : cell q w p i ≡ cell q w p m
    m_cell =
        let (b, e, h) = cell_known a (entry s p m).address first.same in
        sym right_cell ∙ h ∙ ap cell_number (address_value q w t s R p m m_in b e)

    safe : Safe q w s p m
    safe = R.safe p m (m_in, is_load) done

    -- No store to the cell stands between: then what gets its address is done, or had its address.
    none_between : Gap q w p i m → ⊥
    none_between gap = elim (or_cases (loads (instruction s p i)) (stores (instruction s p i)) accesses) [
      | inl h ↦ not_done (safe.older_loads i (record {
        earlier = first.younger;
        first_load = ap loads (sym (same_instruction q w t s R p i)) ∙ h;
        second_load = is_load;
        same = one_cell q w p i m m_cell;
        none_between = λ k u v st z. gap k u v st (cell_same q w p k m z);
      }))
      | inr h ↦ both_ways (is_some (entry s p i).address) new
          (safe.store i (store_before_is q w p i m first.younger (ap stores (sym (same_instruction q w t s R p i)) ∙ h) m_cell gap))
    ]

    -- A store to the cell stands between: it has its address, and would be met first.
    between : (k : ℕ) → i < k → k < m → stores (terms.instruction q w p k) ≡ true → cell q w p k ≡ cell q w p m → Gap q w p k m → ⊥
    between k u v st z gap =
        let (b, e) = known (entry s p k).address (safe.store k (store_before_is q w p k m v st z gap)) in
        first.none_between k u v (ap access (same_instruction q w t s R p k) ∙ store_accesses (terms.instruction q w p k) st)
        (cell_met a b (entry s p k).address e (right_cell ∙ m_cell ∙ sym z ∙ sym (ap cell_number (address_value q w t s R p k (omega (arith, m_in)) b e))))

    by_store : StoredBefore q w p m → ⊥
    by_store (StoredBefore.never h) = none_between (λ k u v. h k v)
    by_store (StoredBefore.by k v st z gap) = elim (cases_lt i k) [
      | inl u ↦ between k u v st z gap
      | inr u ↦ none_between (λ n b c. gap n (omega arith) c)
    ]

    -- The first younger access to the cell is no done load.
    pub meets_no_done_load : ⊥
    meets_no_done_load = by_store (stored_before q w p m)
