-- Which source record belongs to which load, and the events of a processor with the load values that a witness states.
use Rattle.std.specs.Prelude.{ℕ, zero, suc, ◌+◌, cond, List, [], length, slice_index, slice_index_or}
use Rattle.instructions.specs.Kinds.{loads}
use Rattle.instructions.specs.declared.instruction.Instruction.{Instruction}
use Rattle.question.specs.Litmus.{Litmus, code_at, instruction_at}
use Rattle.witness.specs.Execution.{Execution}
use Rattle.witness.specs.declared.record.Source.{Source}
use Rattle.events.specs.declared.event.Event.{Event}
use Rattle.events.specs.Events.{events_upto}

-- The path of processor p; none where there is no such path.
abbrev pub path_at : Execution → ℕ → List ℕ
path_at w p = slice_index_or w.paths p []

-- How many of the first n places of a path are loads.
unfoldable pub loads_upto : List Instruction → List ℕ → ℕ → ℕ
loads_upto code places zero = 0
loads_upto code places (suc n) = loads_upto code places n + cond (loads (instruction_at code (slice_index places n))) 1 0

-- How many loads the paths of the first p processors have.
unfoldable pub loads_before : Litmus → Execution → ℕ → ℕ
loads_before q w zero = 0
loads_before q w (suc p) = loads_before q w p + loads_upto (code_at q p) (path_at w p) (length (path_at w p))

-- What stands past the last source record, where nobody looks.
abbrev pub no_source : Source
no_source = record { processor = 0; position = 0; value = 0 }

-- The source record of position i of processor p: records go by processor, then by position of the loads.
abbrev pub source_at : Litmus → Execution → ℕ → ℕ → Source
source_at q w p i = slice_index_or w.sources (loads_before q w p + loads_upto (code_at q p) (path_at w p) i) no_source

-- The events of processor p's path.
abbrev pub events : Litmus → Execution → ℕ → List Event
events q w p = events_upto (code_at q p) (path_at w p) (λ i. (source_at q w p i).value) (length (path_at w p))
