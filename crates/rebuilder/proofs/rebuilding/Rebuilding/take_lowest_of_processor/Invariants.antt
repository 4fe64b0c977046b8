-- None was accepted so far.
use Rattle.std.proofs.Common.{drop}
use Rattle.std.specs.List.{range_with_len, flat_map}
use Rattle.completeness.specs.StepsFor.{entry_steps}
use Rattle.rebuilder.specs.Views.{progress_of}
use Rattle.rebuilder.proofs.First.{Searching}
use Rattle.rebuilder.proofs.rebuilding.Rebuilding.take_lowest_of_processor.Given as goal

abbrev pub invariant-loop-position : goal.invariant-loop-position
invariant-loop-position l = Searching (progress_of l.initial.self) (progress_of l.self) (flat_map (entry_steps l.processor) (drop l.position (range_with_len 0 16))) (flat_map (entry_steps l.processor) (range_with_len 0 16))
