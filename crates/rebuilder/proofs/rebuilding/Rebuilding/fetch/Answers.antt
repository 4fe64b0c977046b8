use Rattle.std.proofs.Common.{◌+◌, [], ◌∷◌, drop, sym, ap, ◌∙◌}
use Rattle.std.proofs.lemmas.List.{at_drop_all, at_drop_more}
use Rattle.events.specs.Events.{at, no_event}
use Rattle.machine.specs.Fires.{step}
use Rattle.completeness.specs.StepsFor.{guess_of}
use Rattle.rebuilder.specs.Progress.{runs}
use Rattle.rebuilder.specs.Views.{path_fetches, progress_of}
use Rattle.rebuilder.proofs.GoesOn.{few_steps, runs_none, runs_both}
use Rattle.rebuilder.proofs.rebuilding.Rebuilding.fetch.Goals as goal

pub loop-event-preserved : goal.loop-event-preserved
loop-event-preserved c =
    let p = progress_of c.loop-event.self in
    let es = c.args.events.now in
    let i = c.loop-event.event-index in
    let by = step 1 c.args.processor 0 in
    let rest = path_fetches c.args.processor (drop (i + 1) es) in
    ap (λ v. runs v rest) (c.take.ensures ∙ (λ j. runs p (step (c.into.ensures j) c.args.processor 0 (c.guess_of.ensures j) ∷ [])))
    ∙ runs_both p (by (guess_of (at es i)) ∷ []) rest
    ∙ sym (at_drop_more (λ xs. runs p (path_fetches c.args.processor xs)) es i no_event c.loop-event-test.true)
    ∙ c.loop-event.invariant

pub returns : goal.returns
returns c =
    let p = progress_of c.loop-event.self in
    runs_none p (few_steps c.loop-event.self)
    ∙ sym (at_drop_all (λ xs. runs p (path_fetches c.args.processor xs)) c.args.events.now c.loop-event.event-index c.loop-event-test.false)
    ∙ c.loop-event.invariant
