use Rattle.std.proofs.Common.{is_ok, refl, ap, ◌∙◌}
use Rattle.question.specs.Views.{litmus_of}
use Rattle.rebuilder.specs.Views.{progress_of}
use Rattle.rebuilder.proofs.GoesOn.{one_accepted, one_refused}
use Rattle.rebuilder.proofs.rebuilding.Rebuilding.take_if_accepted.Goals as goal

pub returns-then-accepted : goal.returns-then-accepted
unfolding progress_of
returns-then-accepted c =
    one_accepted (progress_of c.args.self.now) _ c.args.step (ap (λ r. litmus_of r.now) c.step.ensures.question) c.step.ensures.state
    (c.is_ok-accepted.ensures.value ∙ ap is_ok c.step.ensures.value) c.if-accepted.true c.push.ensures.items

pub returns-else-accepted : goal.returns-else-accepted
unfolding progress_of
returns-else-accepted c =
    one_refused (progress_of c.args.self.now) _ c.args.step (ap (λ r. litmus_of r.now) c.step.ensures.question) c.step.ensures.state
    (c.is_ok-accepted.ensures.value ∙ ap is_ok c.step.ensures.value) c.if-accepted.false refl
