use Rattle.std.proofs.Common.{◌≡◌, map}
use Rattle.std.specs.List.{range_with_len}
use Rattle.bounded.specs.Items.{items}
use Rattle.question.specs.Views.{litmus_of}
use Rattle.witness.specs.Views.{execution_of}
use Rattle.events.specs.Sources.{events}
use Rattle.events.specs.Views.{path_sources, events_of, sources_of}
use Rattle.events.proofs.evaluate.evaluate.Given as goal

-- What the paths so far come to.
abbrev pub invariant-loop-p : goal.invariant-loop-p
invariant-loop-p l =
    let q = litmus_of l.question in
    let w = execution_of l.witness in
    (events_of (items l.rows) ≡ map (events q w) (range_with_len 0 l.p))
    × (sources_of (items l.rows) ≡ map (path_sources q w) (range_with_len 0 l.p))
