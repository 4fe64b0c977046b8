use Rattle.std.proofs.Common.{◌≡◌, get_or}
use Rattle.bounded.specs.Items.{items}
use Rattle.events.specs.Events.{events_upto}
use Rattle.events.specs.Sources.{no_source}
use Rattle.events.proofs.evaluate.path_events.Given as goal

-- The events of the places so far.
abbrev pub invariant-loop-i : goal.invariant-loop-i
invariant-loop-i l = items l.events ≡ events_upto l.code l.places (λ k. (get_or l.sources k no_source).value) l.i
