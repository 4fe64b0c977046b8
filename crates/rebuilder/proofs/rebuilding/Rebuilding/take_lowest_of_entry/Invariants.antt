-- None was accepted so far.
use Rattle.std.proofs.Common.{drop}
use Rattle.completeness.specs.StepsFor.{entry_steps}
use Rattle.rebuilder.specs.Views.{progress_of}
use Rattle.rebuilder.proofs.First.{Searching}
use Rattle.rebuilder.proofs.rebuilding.Rebuilding.take_lowest_of_entry.Given as goal

abbrev pub invariant-loop-rule : goal.invariant-loop-rule
invariant-loop-rule l = Searching (progress_of l.initial.self) (progress_of l.self) (drop l.rule-index (entry_steps l.processor l.position)) (entry_steps l.processor l.position)
