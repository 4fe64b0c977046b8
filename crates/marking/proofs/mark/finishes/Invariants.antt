-- The steps that are left lead where all of them do.
use Rattle.std.proofs.Common.{◌≡◌, map, drop}
use Rattle.machine.specs.Steps.{run_all}
use Rattle.machine.specs.Views.{open_state, run_question}
use Rattle.marking.specs.Views.{step_stated}
use Rattle.marking.proofs.mark.finishes.Given as goal

abbrev pub invariant-loop-step : goal.invariant-loop-step
invariant-loop-step g l =
    let q = run_question l.initial.run in
    (l.run.question ≡ l.initial.run.question)
    × (run_all q (open_state g.M.Memory.cells l.run) (map step_stated (drop l.step-index l.steps)) ≡ run_all q (open_state g.M.Memory.cells l.initial.run) (map step_stated l.steps))
