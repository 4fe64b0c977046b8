use Rattle.std.proofs.Common.{get_or, sym, ap, ◌∙◌, arith}
use Rattle.events.specs.Sources.{no_source}
use Rattle.events.proofs.Evaluations.{events_none, events_push}
use Rattle.events.proofs.evaluate.path_events.Goals as goal

pub loop-i-init : goal.loop-i-init
loop-i-init c = c.new-events.ensures ∙ sym (events_none c.args.code.now c.args.places.now _)

pub loop-i-preserved : goal.loop-i-preserved
loop-i-preserved c =
    events_push c.args.code.now c.args.places.now (λ k. (get_or c.args.sources.now k no_source).value) c.loop-i.i c.source_at-stated.result.value
    (omega (arith, c.requires, c.loop-i-test.true))
    c.loop-i.invariant
    c.as_slice.ensures
    (ap (λ s. s.value) c.source_at-stated.ensures)
    c.next_event-event.ensures
    c.push.ensures.items
