-- The next access of the order, if it is a store, is accepted and leads to a related state.
use Rattle.std.proofs.Common.{◌≡◌, ℕ, suc, ◌<◌, Bool, true, length, is_some, Some, None, sym, refl, ap, ◌∙◌, subst, arith}
use Rattle.std.proofs.lemmas.Bool.{both_ways}
use Rattle.instructions.specs.Kinds.{loads, stores, access, branches, fence_to, first_operand}
use Rattle.instructions.specs.declared.instruction.AccessType.TheVariants as access_type
use Rattle.instructions.specs.declared.instruction.Instruction.{Instruction}
use Rattle.memory.specs.declared.cell.Mark.TheVariants as mark
use Rattle.question.specs.Litmus.{Litmus}
use Rattle.rules.specs.Entries.{done_with}
use Rattle.instructions.specs.Effects.{cell_number}
use Rattle.rules.specs.declared.change.Effect.TheVariants.{Stored}
use Rattle.witness.specs.Execution.{Execution}
use Rattle.events.specs.Sources.{path_at, events}
use Rattle.ordering.specs.Closure.Closure.{one}
use Rattle.ordering.specs.Constraints as constraints
use Rattle.ordering.specs.Rules.{gam}
use Rattle.checker.specs.Axioms.{Axioms}
use Rattle.checker.specs.Terms.{event, cell, AccessAt}
use Rattle.checker.specs.Terms as terms
use Rattle.checker.specs.Tests.{rank}
use Rattle.machine.specs.Fires.{entry, instruction, step, Older, OpenTo, Ready, Fires}
use Rattle.machine.specs.State.{State}
use Rattle.machine.specs.Steps.{changed}
use Rattle.reachable.specs.Checked.{Checked}
use Rattle.reachable.proofs.Exclusive.{store_accesses, stores_no_load}
use Rattle.reachable.proofs.Moved.{known}
use Rattle.completeness.proofs.KindFacts.{fence_to_fences}
use Rattle.completeness.proofs.Related.{Related}
use Rattle.completeness.proofs.Values.{same_instruction, stands, address_value, data_value}
use Rattle.completeness.proofs.EarlierStores.{cell_known, one_cell}
use Rattle.completeness.proofs.Saturation.{Still, Settled, settled, ready_by, address, cleared_before}
use Rattle.completeness.proofs.NextAccess.{next_cleared, next_stands, next_waits, related_next}
use Rattle.completeness.proofs.CellsAfter.{cells_written}

module _ (q : Litmus) (checked : Checked q) (w : Execution) (A : Axioms gam q w) (t : ℕ) (s : State) (R : Related q w t s) (still : Still q s)
    (p i : ℕ) (l : i < length (path_at w p)) (store : stores (terms.instruction q w p i) ≡ true) (now : rank q w p i ≡ t) where
  here : AccessAt q w p i
  here = (l, store_accesses (terms.instruction q w p i) store)

  -- What stands before it, in the instructions of the entries.
  before : (kind : Instruction → Bool) (j : ℕ) → kind (instruction s p j) ≡ true → kind (terms.instruction q w p j) ≡ true
  before kind j h = ap kind (sym (same_instruction q w t s R p j)) ∙ h

  -- What is kept directly before it is settled.
  kept_settled : (j : ℕ) → j < i → gam (events q w p) j i → Settled q w t s R still p j
  kept_settled j b k = settled q w t s R still p j (omega arith) (cleared_before q w t s R still p j i k (next_cleared q w A t s R p i here now))

  own : Settled q w t s R still p i
  own = settled q w t s R still p i l (next_cleared q w A t s R p i here now)

  -- It has its address and its data.
  own_address : (entry s p i).address ≡ Some (event q w p i).address
  own_address = let (a, e) = known (entry s p i).address (own.addressed here.1) in e ∙ ap Some (address_value q w t s R p i l a e)

  own_data : (entry s p i).datum ≡ Some (event q w p i).datum
  own_data = let (d, e) = known (entry s p i).datum (own.supplied store) in e ∙ ap Some (data_value q w t s R p i l d e)

  -- BrSt: older branches are done.
  older_branches : Older s p i (λ e. branches e.instruction ≡ true → e.done ≡ true)
  older_branches j b h = let k = before branches j h in (kept_settled j b (constraints.GAM.br_st (record { earlier = b; branch = k; store = store }))).branched k

  -- FenceOrd: older fences that stores come after are done.
  older_fences : Older s p i (λ e. fence_to access_type.Store e.instruction ≡ true → e.done ≡ true)
  older_fences j b h =
      let k = before (fence_to access_type.Store) j h in
      (kept_settled j b (constraints.GAM.fence_ord (constraints.FenceOrd.after_fence access_type.Store b k store))).fenced (fence_to_fences access_type.Store (terms.instruction q w p j) k)

  -- AddrSt: older accesses have their addresses.
  older_addresses : Older s p i (λ e. access e.instruction ≡ true → is_some e.address ≡ true)
  older_addresses j b h =
      let k = before access j h in
      let (x, u) = ready_by q w t s R still p (first_operand (terms.instruction q w p j)) j i (omega arith)
      (λ m f. constraints.GAM.addr_st (record { store = store; middle = j; earlier = b; depends = record { accesses = k; feeds = f } }))
      (next_cleared q w A t s R p i here now) in
      address q w t s R still p j (omega arith) k (x, subst (λ c. Ready s p j (first_operand c) x) (sym (same_instruction q w t s R p j)) u)

  -- SAMemSt: older accesses to its cell are done.
  older_same : Older s p i (λ e. OpenTo (event q w p i).address e → ⊥)
  older_same j b (h, d, z) =
      let k = before access j h in
      let (a, e, c) = cell_known (event q w p i).address (entry s p j).address z in
      let same : cell q w p j ≡ cell q w p i = ap cell_number (sym (address_value q w t s R p j (omega arith) a e)) ∙ sym c in
      both_ways (entry s p j).done d
      (next_cleared q w A t s R p i here now j (one (constraints.GAM.sa_mem_st (record { earlier = b; accesses = k; store = store; same = one_cell q w p j i same }))) k)

  -- The state that it leads to.
  abbrev stored : State
  stored = changed s p i (record {
    entry = done_with (entry s p i) (entry s p i).value;
    cut = None;
    effect = Stored (event q w p i).address (record { value = (event q w p i).datum; mark = mark.Store p i });
  })

  store_fires : Fires q s (step 7 p i 0) 0 stored
  store_fires = Fires.store p i (event q w p i).address (event q w p i).datum (stands q w t s R p i l) (ap stores (same_instruction q w t s R p i) ∙ store)
      (next_waits q w A t s R p i here now) own_address own_data older_branches older_addresses older_same older_fences

  store_related : Related q w (suc t) stored
  store_related = related_next q w A t s R p i here now checked stored (step 7 p i 0) store_fires (done_with (entry s p i) (entry s p i).value) refl refl refl refl refl
      (λ x. absurd (both_ways (loads (terms.instruction q w p i)) (stores_no_load (terms.instruction q w p i) store) x.1))
      (cells_written q w t s R p i (next_stands q w A t s R p i here now) (l, store))
      (λ x. absurd (both_ways (loads (terms.instruction q w p i)) (stores_no_load (terms.instruction q w p i) store) x.1))

  -- The store is carried out, and the state that it leads to is related.
  pub store_goes : (u : State) × Fires q s (step 7 p i 0) 0 u × Related q w (suc t) u
  store_goes = (stored, store_fires, store_related)
