use Rattle.std.proofs.Common.{ap}
use Rattle.question.specs.Views.{litmus_of}
use Rattle.rebuilder.specs.Views.{progress_of}
use Rattle.rebuilder.proofs.GoesOn.{one_more}
use Rattle.rebuilder.proofs.rebuilding.Rebuilding.take.Goals as goal

pub returns : goal.returns
unfolding progress_of
returns c = one_more (progress_of c.args.self.now) _ c.args.step (ap (λ r. litmus_of r.now) c.step.ensures.question) c.step.ensures.state c.push.ensures.items
