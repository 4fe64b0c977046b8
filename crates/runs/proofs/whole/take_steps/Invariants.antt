-- What is left of the steps gives the rest of the answers and the state.
use Rattle.std.proofs.Common.{◌≡◌, ◌++◌, drop, vec_items}
use Rattle.machine.specs.Steps.{run_all}
use Rattle.machine.specs.Views.{open_state, run_question}
use Rattle.runs.specs.Records.{answers}
use Rattle.runs.proofs.whole.take_steps.Given as goal

abbrev pub invariant-loop-step : goal.invariant-loop-step
invariant-loop-step g l =
    let q = run_question l.initial.run in
    let s = open_state g.M.Memory.cells l.run in
    let first = open_state g.M.Memory.cells l.initial.run in
    (l.run.question ≡ l.initial.run.question)
    × (vec_items l.answers ++ answers q s (drop l.step-index l.steps) ≡ answers q first l.steps)
    × (run_all q s (drop l.step-index l.steps) ≡ run_all q first l.steps)
