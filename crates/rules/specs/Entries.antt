-- Entries: a new one, and what a rule leaves of one.
use Rattle.std.specs.Prelude.{ℕ, true, false, List, Some, None, slice_index_or}
use Rattle.memory.specs.declared.cell.Mark.{Mark}
use Rattle.memory.specs.declared.cell.Mark.TheVariants.{Start}
use Rattle.instructions.specs.declared.instruction.Instruction.{Instruction}
use Rattle.instructions.specs.declared.instruction.Instruction.TheVariants.{Add}
use Rattle.rules.specs.declared.entry.Entry.{Entry}

-- An entry as it is fetched: nothing is known of it but its next place as guessed.
abbrev pub fresh : ℕ → Instruction → ℕ → Entry
fresh place i next =
    record { place = place; instruction = i; next = next; done = false; value = 0; address = None; datum = None; mark = Start }

-- What stands past the end of a buffer, where nobody looks.
abbrev pub blank : Entry
blank = fresh 0 (Add 0 None None 0) 0

-- The entry at a position.
abbrev pub at : List Entry → ℕ → Entry
at es i = slice_index_or es i blank

-- The entry done, with this result.
abbrev pub done_with : Entry → ℕ → Entry
done_with e v =
    record { place = e.place; instruction = e.instruction; next = e.next; done = true; value = v; address = e.address; datum = e.datum; mark = e.mark }

-- The branch done, with its true next place.
abbrev pub turned : Entry → ℕ → Entry
turned e next =
    record { place = e.place; instruction = e.instruction; next = next; done = true; value = e.value; address = e.address; datum = e.datum; mark = e.mark }

-- The load done, with its value and where that came from.
abbrev pub loaded : Entry → ℕ → Mark → Entry
loaded e v m =
    record { place = e.place; instruction = e.instruction; next = e.next; done = true; value = v; address = e.address; datum = e.datum; mark = m }

-- The entry with its address available.
abbrev pub addressed : Entry → ℕ → Entry
addressed e a =
    record { place = e.place; instruction = e.instruction; next = e.next; done = e.done; value = e.value; address = Some a; datum = e.datum; mark = e.mark }

-- The entry with its data available.
abbrev pub supplied : Entry → ℕ → Entry
supplied e d =
    record { place = e.place; instruction = e.instruction; next = e.next; done = e.done; value = e.value; address = e.address; datum = Some d; mark = e.mark }
