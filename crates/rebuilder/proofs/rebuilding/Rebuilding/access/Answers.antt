use Rattle.std.proofs.Common.{sym, refl, ap, ◌∙◌}
use Rattle.question.specs.Views.{litmus_of}
use Rattle.rebuilder.specs.Views.{progress_of, says_loads}
use Rattle.rebuilder.proofs.AccessRules.{accessed_by_load, accessed_by_store}
use Rattle.rebuilder.proofs.GoesOn.{one_more}
use Rattle.rebuilder.proofs.rebuilding.Rebuilding.access.Goals as goal

pub returns-then-says_loads : goal.returns-then-says_loads
unfolding progress_of
returns-then-says_loads c =
    let p = progress_of c.args.self.now in
    accessed_by_load p c.args.access c.entry_step-load.result c.entry_step-load.ensures (sym (ap says_loads c.step.ensures.value) ∙ sym c.if-says_loads.ensures) _
    (one_more p _ c.entry_step-load.result (ap (λ r. litmus_of r.now) c.step.ensures.question) c.step.ensures.state c.push.ensures.items)

pub returns-else-says_loads : goal.returns-else-says_loads
unfolding progress_of
returns-else-says_loads c =
    let p = progress_of c.args.self.now in
    accessed_by_store p c.args.access c.entry_step-load.result c.entry_step-load.ensures (sym (ap says_loads c.step.ensures.value) ∙ sym c.if-says_loads.ensures) _
    (ap (λ r. litmus_of r.now) c.step.ensures.question) refl c.step.ensures.state c.entry_step.result c.entry_step.ensures _ c.take.ensures
