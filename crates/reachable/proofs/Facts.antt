-- The invariant in the forms in which proofs use it: values of ready operands, and what a done access knows.
use Rattle.std.proofs.Common.{◌≡◌, ℕ, ◌+◌, ◌<◌, ◌≤◌, true, length, Some, Option, sym, ap, ◌∙◌, ap₂, arith}
use Rattle.instructions.specs.Effects.{arithmetic_result, address_sum, data_sum, next_place}
use Rattle.instructions.specs.Kinds.{stores, computes, first_operand, second_operand}
use Rattle.machine.specs.Fires.{buffer, entry, instruction, Ready}
use Rattle.machine.specs.State.{State, core_at}
use Rattle.machine_laws.proofs.ReadyValues.{ready_is}
use Rattle.question.specs.Litmus.{Litmus}
use Rattle.rules.specs.Ready.{ready}
use Rattle.reachable.specs.Entries.{EntryKept}
use Rattle.reachable.specs.Invariant.{Invariant}
use Rattle.reachable.specs.Order.{DoneAccess}
use Rattle.reachable.proofs.Moved.{known}
use Rattle.reachable.proofs.Put.{place_within, place_behind}

-- A ready operand has one value.
pub ready_once : (s : State) (p i x y : ℕ) (o : Option ℕ) → i ≤ length (buffer s p) → Ready s p i o x → Ready s p i o y → x ≡ y
ready_once s p i x y o l u v =
    let a : ready (buffer s p) i o ≡ Some x = ready_is s p i l u in
    let b : ready (buffer s p) i o ≡ Some y = ready_is s p i l v in
    cc

module _ (q : Litmus) (s : State) (inv : Invariant q s) where
  -- An entry leads to the next one's place.
  pub next_is_following : (p i : ℕ) → i + 1 < length (buffer s p) → (entry s p i).next ≡ (entry s p (i + 1)).place
  next_is_following p i l = (inv.chained p).follows i (omega arith) ∙ place_within s p (i + 1) l

  -- The youngest entry leads to the counter.
  pub next_is_counter : (p i : ℕ) → i + 1 ≡ length (buffer s p) → (entry s p i).next ≡ (core_at s p).counter
  next_is_counter p i l = (inv.chained p).follows i (omega arith) ∙ place_behind s p (i + 1) (omega arith)

  -- The oldest entry stands at place 0.
  pub oldest_at_zero : (p : ℕ) → 0 < length (buffer s p) → (entry s p 0).place ≡ 0
  oldest_at_zero p l = sym (place_within s p 0 l) ∙ (inv.chained p).starts

  -- The counter is 0 where there is no entry.
  pub empty_at_zero : (p : ℕ) → length (buffer s p) ≡ 0 → (core_at s p).counter ≡ 0
  empty_at_zero p l = sym (place_behind s p 0 (omega arith)) ∙ (inv.chained p).starts

  module _ (p i : ℕ) (l : i < length (buffer s p)) where
    k : EntryKept q s p i (entry s p i)
    k = inv.entries p i l

    -- The address is the sum of whatever value the operand is ready with.
    pub address_is : (a x : ℕ) → (entry s p i).address ≡ Some a → Ready s p i (first_operand (instruction s p i)) x → a ≡ address_sum (instruction s p i) x
    address_is a x h u =
        let w = (inv.entries p i l).address a h in
        w.sum ∙ ap (address_sum (instruction s p i)) (ready_once s p i w.operand x _ (omega arith) w.ready u)

    -- The data are the sum of whatever value the operand is ready with.
    pub data_are : (d y : ℕ) → (entry s p i).datum ≡ Some d → Ready s p i (second_operand (instruction s p i)) y → d ≡ data_sum (instruction s p i) y
    data_are d y h u =
        let w = (inv.entries p i l).datum d h in
        w.sum ∙ ap (data_sum (instruction s p i)) (ready_once s p i w.operand y _ (omega arith) w.ready u)

    module _ (done : (entry s p i).done ≡ true) where
      -- A done entry leads to its true next place.
      pub next_is : (x : ℕ) → Ready s p i (first_operand (instruction s p i)) x → (entry s p i).next ≡ next_place (instruction s p i) (entry s p i).place x
      next_is x u =
          let w = (k.finished done).worked_out in
          w.next ∙ ap (next_place (instruction s p i) (entry s p i).place) (ready_once s p i w.first x _ (omega arith) w.first_ready u)

      -- A done computation has its result.
      pub value_is : computes (instruction s p i) ≡ true → (x y : ℕ) → Ready s p i (first_operand (instruction s p i)) x → Ready s p i (second_operand (instruction s p i)) y →
          (entry s p i).value ≡ arithmetic_result (instruction s p i) x y
      value_is h x y u v =
          let w = (k.finished done).worked_out in
          w.value h ∙ ap₂ (arithmetic_result (instruction s p i)) (ready_once s p i w.first x _ (omega arith) w.first_ready u) (ready_once s p i w.second y _ (omega arith) w.second_ready v)

      -- A done store has its data.
      pub done_has_data : stores (instruction s p i) ≡ true → (d : ℕ) × ((entry s p i).datum ≡ Some d)
      done_has_data h = known (entry s p i).datum ((k.finished done).has_data h)

  -- A done access has its address.
  pub done_has_address : (p i : ℕ) → DoneAccess s p i → (a : ℕ) × ((entry s p i).address ≡ Some a)
  done_has_address p i d = known (entry s p i).address (((inv.entries p i d.stands).finished d.done).has_address d.accesses)
