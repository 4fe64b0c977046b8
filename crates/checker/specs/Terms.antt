-- What the axioms speak of: the accesses of a witness's paths, and the memory order.
use Rattle.std.specs.Prelude.{◌≡◌, ℕ, ◌<◌, true, List, length, slice_index_or}
use Rattle.instructions.specs.Kinds.{loads, stores, access}
use Rattle.instructions.specs.declared.instruction.Instruction.{Instruction}
use Rattle.question.specs.Litmus.{Litmus}
use Rattle.witness.specs.Execution.{Execution}
use Rattle.witness.specs.declared.record.Access.{Access}
use Rattle.events.specs.declared.event.Event.{Event}
use Rattle.events.specs.Events.{at}
use Rattle.instructions.specs.Effects.{cell_number}
use Rattle.events.specs.Sources.{path_at, events}

-- The access at position i of processor p, as the order field names it.
abbrev pub access_at : ℕ → ℕ → Access
access_at p i = record { processor = p; position = i }

module _ (q : Litmus) (w : Execution) where
  -- The event at position i of processor p's path, and its instruction.
  abbrev pub event : ℕ → ℕ → Event
  event p i = at (events q w p) i

  abbrev pub instruction : ℕ → ℕ → Instruction
  instruction p i = (event p i).instruction

  -- The cell that the access at position i of processor p is to.
  abbrev pub cell : ℕ → ℕ → ℕ
  cell p i = cell_number (event p i).address

  -- Processor p's path has a position i.
  abbrev pub OnPath : ℕ → ℕ → Type 0
  OnPath p i = i < length (path_at w p)

  -- Position i of processor p's path is an access, a load, a store.
  abbrev pub AccessAt : ℕ → ℕ → Type 0
  AccessAt p i = OnPath p i × (access (instruction p i) ≡ true)

  abbrev pub LoadAt : ℕ → ℕ → Type 0
  LoadAt p i = OnPath p i × (loads (instruction p i) ≡ true)

  abbrev pub StoreAt : ℕ → ℕ → Type 0
  StoreAt p i = OnPath p i × (stores (instruction p i) ≡ true)

-- The access stands at number k of the order.
abbrev pub Stands : List Access → ℕ → Access → Type 0
Stands order k a = (k < length order) × (slice_index_or order k (access_at 0 0) ≡ a)

-- The first access stands before the second in the order.
pub record Precedes (order : List Access) (a b : Access) : Type 0 where
  pub first : ℕ
  pub second : ℕ
  pub before : first < second
  pub first_stands : Stands order first a
  pub second_stands : Stands order second b
