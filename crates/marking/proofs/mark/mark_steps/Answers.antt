-- A finished run is accepted, by soundness.
use Rattle.std.proofs.Common.{map, sym, rules}
use Rattle.question.specs.Views.{litmus_of}
use Rattle.reachable.proofs.Questions.{questions_are_checked}
use Rattle.marking.specs.Views.{step_stated}
use Rattle.marking.proofs.Chunks.{stated_by_chunks}
use Rattle.marking.proofs.Marked.{steps_accepted}
use Rattle.marking.proofs.mark.mark_steps.Goals as goal

pub returns : goal.returns
returns g c =
    let fours = c.as_chunks.result.0.now in
    sym (steps_accepted (litmus_of c.args.question.now) (questions_are_checked c.args.question.now) c.args.bytes.now (map step_stated fours) (stated_by_chunks c.args.bytes.now fours c.as_chunks.ensures.front (search rules)) (search rules))
