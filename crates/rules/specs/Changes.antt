-- What each rule does to the entry at position i of a buffer, or why it is refused.
use Rattle.std.specs.Prelude.{ℕ, ◌+◌, ◌-◌, Bool, true, false, cond, ◌&&◌, List, length, Some, None, Ok, Err, Option, Result, ◌==◌}
use Rattle.fields.specs.declared.refusal.Refusal.{Refusal}
use Rattle.fields.specs.declared.refusal.Refusal.TheVariants.{OperandWanting, HeldBack}
use Rattle.fields.specs.Rows.{then}
use Rattle.memory.specs.declared.cell.Mark.{Mark}
use Rattle.memory.specs.declared.cell.Mark.TheVariants as mark
use Rattle.instructions.specs.Effects.{arithmetic_result, address_sum, data_sum, next_place}
use Rattle.instructions.specs.Kinds.{loads, stores, first_operand, second_operand}
use Rattle.search.specs.Search.{nearest, first, passes}
use Rattle.rules.specs.declared.change.Action.{Action}
use Rattle.rules.specs.declared.change.Action.TheVariants.{Make, Read}
use Rattle.rules.specs.declared.change.Change.{Change}
use Rattle.rules.specs.declared.change.Cut.{Cut}
use Rattle.rules.specs.declared.change.Effect.TheVariants.{Local, Loaded, Stored}
use Rattle.rules.specs.declared.entry.Entry.{Entry}
use Rattle.rules.specs.Entries.{at, done_with, turned, loaded, addressed, supplied}
use Rattle.rules.specs.Ready.{ready}
use Rattle.rules.specs.Tests.{open_for_fence, open_fence_to_load, open_to_cell, holds_store, to_cell}

-- A value that must be there.
abbrev pub wanted : Option ℕ → Result ℕ Refusal
wanted None = Err OperandWanting
wanted (Some v) = Ok v

-- The answer, unless a search found something in the way.
abbrev pub unless_held : {A : Type 0} → Option ℕ → Result A Refusal → Result A Refusal
unless_held None r = r
unless_held (Some j) r = Err HeldBack

-- The entry changes and nothing else does.
abbrev pub only : Entry → Change
only e = record { entry = e; cut = None; effect = Local }

-- Rule 5: the load done, with a value and where it came from.
abbrev pub load_change : Entry → ℕ → Mark → Change
load_change e v m = record { entry = loaded e v m; cut = None; effect = Loaded }

module _ (es : List Entry) (i : ℕ) where
  -- The value of the first operand.
  abbrev pub first_value : Result ℕ Refusal
  first_value = wanted (ready es i (first_operand (at es i).instruction))

  -- The value of the second operand.
  abbrev pub second_value : Result ℕ Refusal
  second_value = wanted (ready es i (second_operand (at es i).instruction))

  -- Rule 2: the operands are ready; the result, done.
  abbrev pub arithmetic : Result Change Refusal
  arithmetic = then first_value (λ x. then second_value (λ y. Ok (only (done_with (at es i) (arithmetic_result (at es i).instruction x y)))))

  -- Rule 3: what goes where the true next place is not the guessed one: everything younger.
  abbrev pub branch_cut : ℕ → Option Cut
  branch_cut next = cond ((at es i).next == next) None (Some (record { keep = i + 1; counter = next }))

  -- Rule 3: the operand is ready; done, with the true next place.
  abbrev pub branch : Result Change Refusal
  branch =
      then first_value (λ x.
      let next = next_place (at es i).instruction (at es i).place x in
      Ok (record { entry = turned (at es i) next; cut = branch_cut next; effect = Local }))

  -- Rule 4: all older accesses of the fence's first type are done; done.
  abbrev pub fence : Result Change Refusal
  fence = unless_held (nearest (passes (open_for_fence (at es i).instruction) es) i) (Ok (only (done_with (at es i) (at es i).value)))

  -- Rule 6: the second operand is ready; the data are available.
  abbrev pub store_data : Result Change Refusal
  store_data = then second_value (λ y. Ok (only (supplied (at es i) (data_sum (at es i).instruction y))))

  -- Rule 8: what goes once address a is known: the first younger access to the same cell, if it is a done load, and everything younger than that.
  abbrev pub address_cut : Option ℕ → Option Cut
  address_cut None = None
  address_cut (Some m) = cond (loads (at es m).instruction && (at es m).done) (Some (record { keep = m; counter = (at es m).place })) None

  -- Rule 8: the first operand is ready; the address is available.
  abbrev pub address : Result Change Refusal
  address =
      then first_value (λ x.
      let a = address_sum (at es i).instruction x in
      Ok (record { entry = addressed (at es i) a; cut = address_cut (first (passes (to_cell a) es) (i + 1) (length es - (i + 1))); effect = Local }))

  module _ (p : ℕ) where
    -- Rule 5: what the nearest older access to the cell that is not done leaves for the load: a store with data gives them.
    abbrev pub forwarded : Option ℕ → Bool → ℕ → Result Action Refusal
    forwarded (Some v) true j = Ok (Make (load_change (at es i) v (mark.Store p j)))
    forwarded (Some v) false j = Err HeldBack
    forwarded None true j = Err HeldBack
    forwarded None false j = Err HeldBack

    -- Rule 5: where the value comes from: such an access, or the memory if there is none.
    abbrev pub taken_from : ℕ → Option ℕ → Result Action Refusal
    taken_from a None = Ok (Read a)
    taken_from a (Some j) = forwarded (at es j).datum (stores (at es j).instruction) j

    -- Rule 5: the address is available and all older fences that loads come after are done.
    abbrev pub load : Result Action Refusal
    load =
        then (wanted (at es i).address) (λ a.
        unless_held (nearest (passes open_fence_to_load es) i) (taken_from a (nearest (passes (open_to_cell a) es) i)))

    -- Rule 7: address and data are available and nothing older holds the store back; done, and the cell is written with this position as mark.
    abbrev pub store : Result Change Refusal
    store =
        then (wanted (at es i).address) (λ a. then (wanted (at es i).datum) (λ d.
        unless_held (nearest (passes (holds_store a) es) i)
        (Ok (record { entry = done_with (at es i) (at es i).value; cut = None; effect = Stored a (record { value = d; mark = mark.Store p i }) }))))
