-- Each four bytes are taken as the step that they state, and the state at the end decides.
use Rattle.std.proofs.Common.{ap, ◌∙◌}
use Rattle.machine.specs.Results.{Closed}
use Rattle.machine.specs.Views.{open_state, run_question}
use Rattle.question.specs.Views.{litmus_of}
use Rattle.marking.proofs.Chunks.{step_taken, all_taken}
use Rattle.marking.proofs.mark.finishes.Goals as goal

pub loop-step-preserved : goal.loop-step-preserved
loop-step-preserved g c =
    let same = c.loop-step.invariant.0 in (
      c.step.ensures.question ∙ same,
      step_taken (run_question c.start-run.result) (run_question c.loop-step.run) (open_state g.M.Memory.cells c.loop-step.run) _ c.args.steps.now c.loop-step.step-index c.from.result c.loop-step-test.true c.from.ensures (ap (λ r. litmus_of r.now) same) c.step.ensures.state
          ∙ c.loop-step.invariant.1,
    )

pub returns : goal.returns
returns g c =
    c.is_finished.ensures
    ∙ ap (λ (x : Closed). x.finished)
    (c.close.ensures
    ∙ all_taken (run_question c.start-run.result) _ _ _ _ c.args.steps.now c.loop-step.step-index c.loop-step-test.false (ap (λ r. litmus_of r.now) c.loop-step.invariant.0) c.start-run.ensures.question c.start-run.ensures.state c.loop-step.invariant.1)
