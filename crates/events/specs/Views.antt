-- The events and the source records of all paths, and what the types of the code stand for.
use Rattle.std.specs.Prelude.{ℕ, List, map, length}
use Rattle.std.specs.List.{range_with_len}
use Rattle.bounded.specs.Items.{items}
use Rattle.question.specs.Litmus.{Litmus}
use Rattle.witness.specs.Execution.{Execution}
use Rattle.witness.specs.declared.record.Source.{Source}
use Rattle.events.specs.declared.event.Event.{Event}
use Rattle.events.specs.declared.path.PathEvents.{PathEvents}
use Rattle.events.specs.Sources.{path_at, source_at, events}

-- The events of each path, by processor.
abbrev pub all_events : Litmus → Execution → List (List Event)
all_events q w = map (events q w) (range_with_len 0 (length w.paths))

-- The source record of each position of processor p's path.
abbrev pub path_sources : Litmus → Execution → ℕ → List Source
path_sources q w p = map (source_at q w p) (range_with_len 0 (length (path_at w p)))

-- The source records of each path's positions, by processor.
abbrev pub all_sources : Litmus → Execution → List (List Source)
all_sources q w = map (path_sources q w) (range_with_len 0 (length w.paths))

-- The events that rows hold.
abbrev pub events_of : List PathEvents → List (List Event)
events_of rows = map (λ x. items x.events) rows

-- The source records that rows hold.
abbrev pub sources_of : List PathEvents → List (List Source)
sources_of rows = map (λ x. items x.sources) rows
