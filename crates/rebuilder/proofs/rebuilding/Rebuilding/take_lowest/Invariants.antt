-- None was accepted so far.
use Rattle.std.proofs.Common.{drop}
use Rattle.std.specs.List.{range_with_len, flat_map}
use Rattle.rebuilder.proofs.Processors.{processor_steps}
use Rattle.rebuilder.specs.Progress.{lowest_first}
use Rattle.rebuilder.specs.Views.{progress_of}
use Rattle.rebuilder.proofs.First.{Searching}
use Rattle.rebuilder.proofs.rebuilding.Rebuilding.take_lowest.Given as goal

abbrev pub invariant-loop-processor : goal.invariant-loop-processor
invariant-loop-processor l = Searching (progress_of l.initial.self) (progress_of l.self) (flat_map processor_steps (drop l.processor (range_with_len 0 l.initial.self.processors))) (lowest_first (progress_of l.initial.self))
