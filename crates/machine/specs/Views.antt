-- What the types of the code stand for. The cells are those of the memory inside the run.
use Rattle.std.specs.Prelude.{ℕ, List, map, length, take}
use Rattle.bounded.specs.Items.{items}
use Rattle.memory.specs.declared.cell.Cell.{Cell}
use Rattle.question.specs.Litmus.{Litmus}
use Rattle.question.specs.Views.{litmus_of}
use Rattle.witness.specs.Views.{execution_of}
use Rattle.machine.specs.declared.closed.ClosedRun.{ClosedRun}
use Rattle.machine.specs.declared.open.OpenRun.{OpenRun}
use Rattle.machine.specs.declared.processor.Processor.{Processor}
use Rattle.machine.specs.declared.processor.Processors.{Processors}
use Rattle.machine.specs.declared.registers.Registers.{Registers}
use Rattle.machine.specs.Results.{Closed}
use Rattle.machine.specs.State.{Core, State}

-- A processor.
abbrev pub core_of : Processor → Core
core_of p = record { counter = p.counter; entries = items p.entries }

-- The first n processors.
abbrev pub cores_of : ℕ → Processors → List Core
cores_of n ps = take n (map core_of ps.rows)

-- The registers of one processor.
abbrev pub row_values : Registers → List ℕ
row_values r = r.values

-- The litmus test that an open run runs.
abbrev pub run_question : {M : Type 0} → OpenRun M → Litmus
run_question r = litmus_of r.question.now

module _ {M : Type 0} (cells : M → List Cell) where
  -- The state of an open run.
  abbrev pub open_state : OpenRun M → State
  open_state r = record {
    cores = cores_of (length (run_question r).code) r.processors;
    order = items r.order;
    cells = cells r.memory;
  }

  -- What a closed run holds.
  abbrev pub closed_state : ClosedRun M → Closed
  closed_state r = record {
    finished = r.finished;
    registers = map row_values (items r.registers);
    execution = execution_of r.witness;
    cells = cells r.memory;
  }
