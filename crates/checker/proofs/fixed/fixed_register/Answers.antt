use Rattle.std.proofs.Common.{◌≡◌, length, Some, ap, ◌∙◌}
use Rattle.question.specs.Views.{litmus_of}
use Rattle.witness.specs.Views.{execution_of}
use Rattle.events.specs.Events.{operand}
use Rattle.events.specs.Sources.{events}
use Rattle.checker.proofs.Evaluations.{length_events}
use Rattle.checker.proofs.fixed.fixed_register.Goals as goal

pub returns : goal.returns
returns c =
    let q = litmus_of c.args.question.now in
    let w = execution_of c.args.witness.now in
    let p = c.args.processor in
    let r = c.args.register in
    let same : c.events.result.now ≡ events q w p = c.events.ensures.value ∙ (λ i. events (c.new-evaluated.ensures.question i) (c.new-evaluated.ensures.witness i) p) in
    c.register_after.ensures ∙ ap (λ es. operand es (length es) (Some r)) same ∙ ap (λ n. operand (events q w p) n (Some r)) (length_events q w p)
