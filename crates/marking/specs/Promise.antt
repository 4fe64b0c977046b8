-- The promise of the course: steps and witness earn the same mark.
use Rattle.std.specs.Prelude.{◌≡◌, ℕ, zero, suc, ◌<◌, ◌≤◌, true, List, ◌++◌, length, drop, replicate, Ok, slice_index}
use Rattle.memory.specs.Cells.{written}
use Rattle.memory.specs.declared.cell.Cell.{Cell}
use Rattle.question.specs.Litmus.{Litmus}
use Rattle.witness.specs.Bytes.{bytes_of}
use Rattle.witness.specs.Execution.{Execution, Within}
use Rattle.ordering.specs.Rules.{gam}
use Rattle.ordering.specs.Tests.{gam_keeps}
use Rattle.checker.specs.Axioms.{Axioms}
use Rattle.checker.specs.Fixed.{fixed_register, fixed_cell}
use Rattle.checker.specs.Verdict.{verdict}
use Rattle.machine.specs.Results.{Closed, closed, register_answer, cell_answer, witness_answer, witness_area}
use Rattle.machine.specs.State.{State, started, start_cell}
use Rattle.machine.specs.Steps.{run_all}
use Rattle.machine.specs.declared.step.Step.{Step}
use Rattle.runs.specs.Records.{answers}
use Rattle.completeness.specs.Complete.{Rebuilt}
use Rattle.completeness.specs.StepsFor.{steps_for, bytes_of_steps}
use Rattle.completeness.specs.Rebuild.{rebuild_answer, rebuild_area}

-- The first n start cells written over what a memory held.
unfoldable pub start_over : List ℕ → List Cell → ℕ → List Cell
start_over start cells zero = cells
start_over start cells (suc n) = written (start_over start cells n) n (start_cell (slice_index start n))

-- The state in which a run of the question starts over a memory that held these cells: sixteen writes.
abbrev pub started_over : Litmus → List Cell → State
started_over q cells = record { cores = (started q).cores; order = (started q).order; cells = start_over q.start cells 16 }

-- The closed run of a list of steps over such a memory, refused steps counting as none.
abbrev pub run_over : Litmus → List Cell → List Step → Closed
run_over q cells sts = closed q (run_all q (started_over q cells) sts)

-- The witness call on a closed run writes this witness into every area that has room.
abbrev pub Writes : Closed → Execution → Type 0
Writes c w =
    (area : List ℕ) → length (bytes_of w) ≤ length area →
    (witness_answer c area ≡ Ok (length (bytes_of w))) × (witness_area c area ≡ bytes_of w ++ drop (length (bytes_of w)) area)

-- A closed run agrees with its witness: the axioms hold of it, its verdict is 0, and registers, cells and bytes are those that it fixes.
pub record AgreesWithItsWitness (q : Litmus) (c : Closed) : Type 0 where
  pub axioms : Axioms gam q c.execution
  pub within : Within c.execution
  pub accepted : verdict gam_keeps q c.execution ≡ 0
  pub written : Writes c c.execution
  pub registers : (p r : ℕ) → p < length q.code → r < 8 → register_answer c p r ≡ Ok (fixed_register q c.execution p r)
  pub cells : (a : ℕ) → a < 16 → cell_answer c a ≡ Ok (fixed_cell q c.execution a)

-- The rebuild call writes the steps for a witness into every area of at least 1,024 bytes.
abbrev pub WritesSteps : Litmus → Execution → Type 0
WritesSteps q w =
    (area : List ℕ) → 1024 ≤ length area →
    (rebuild_answer q w area ≡ Ok (length (bytes_of_steps (steps_for q w))))
    × (rebuild_area q w area ≡ bytes_of_steps (steps_for q w) ++ drop (length (bytes_of_steps (steps_for q w))) area)

-- Over this memory every step for the witness is accepted with nothing removed, and the run closes finished with this witness and writes it.
pub record RunsToIt (q : Litmus) (w : Execution) (cells : List Cell) : Type 0 where
  pub answered : answers q (started_over q cells) (steps_for q w) ≡ replicate (length (steps_for q w)) (Ok 0)
  pub finished : (run_over q cells (steps_for q w)).finished ≡ true
  pub same : (run_over q cells (steps_for q w)).execution ≡ w
  pub written : Writes (run_over q cells (steps_for q w)) w

-- A witness agrees with its steps: it is rebuilt, the steps are written, and over every memory they run to it.
pub record AgreesWithItsSteps (q : Litmus) (w : Execution) : Type 0 where
  pub rebuilt : Rebuilt q w
  pub steps_written : WritesSteps q w
  pub runs : (cells : List Cell) → length cells ≡ 16 → RunsToIt q w cells

-- Whatever the memory held, a run starts alike; every finished run agrees with its witness; every witness of which the axioms of GAM hold agrees with its steps.
pub record StepsAndWitnessesAgree (q : Litmus) : Type 0 where
  pub every_memory : (cells : List Cell) → length cells ≡ 16 → started_over q cells ≡ started q
  pub from_steps : (cells : List Cell) → length cells ≡ 16 → (steps : List Step) → (run_over q cells steps).finished ≡ true → AgreesWithItsWitness q (run_over q cells steps)
  pub from_witness : (w : Execution) → Within w → Axioms gam q w → AgreesWithItsSteps q w
