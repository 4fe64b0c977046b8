-- The events that are left give the result.
use Rattle.std.proofs.Common.{◌≡◌, drop}
use Rattle.rebuilder.specs.Progress.{runs}
use Rattle.rebuilder.specs.Views.{path_fetches, progress_of}
use Rattle.rebuilder.proofs.rebuilding.Rebuilding.fetch.Given as goal

abbrev pub invariant-loop-event : goal.invariant-loop-event
invariant-loop-event l = runs (progress_of l.self) (path_fetches l.processor (drop l.event-index l.events)) ≡ runs (progress_of l.initial.self) (path_fetches l.processor l.events)
