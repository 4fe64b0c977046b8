-- Ordering rules over the events of a path.
use Rattle.std.specs.Prelude.{◌≡◌, ℕ, Bool, true, List, Some, Option}
use Rattle.instructions.specs.declared.instruction.Instruction.{Instruction}
use Rattle.events.specs.declared.event.Event.{Event}
use Rattle.events.specs.Events.{at}
use Rattle.instructions.specs.Effects.{cell_number}
use Rattle.ordering.specs.Constraints as constraints

-- An ordering rule says of the events of a path and two positions whether the first is kept directly before the second.
abbrev pub Rule : Type 1
Rule = List Event → ℕ → ℕ → Type 0

-- The instruction of the event at a position.
abbrev pub instruction_of : List Event → ℕ → Instruction
instruction_of es i = (at es i).instruction

-- The cell of the event at a position: on a path all are known.
abbrev pub cell_of : List Event → ℕ → Option ℕ
cell_of es i = Some (cell_number (at es i).address)

-- GAM on a path.
abbrev pub gam : Rule
gam es = constraints.GAM (instruction_of es) (cell_of es)

-- Sequential consistency on a path.
abbrev pub sc : Rule
sc es = constraints.SC (instruction_of es) (cell_of es)

-- The pairs that pass a test.
abbrev pub tested : (List Event → ℕ → ℕ → Bool) → Rule
tested keeps es i j = keeps es i j ≡ true
