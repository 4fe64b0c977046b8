-- The lines counted are at most those read.
use Rattle.std.proofs.Common.{◌+◌, ◌≤◌}
use Rattle.std.specs.Iterator.Adapters.{enumerate_count}
use Rattle.cuckooshelf.proofs.commands.vectors.compare_all.Given as goal

abbrev pub invariant-loop-index : goal.invariant-loop-index
invariant-loop-index l =
    (goal.iterator-loop-index).can_next l.index-iterator ×
    (goal.iterator-loop-index).is_finite l.index-iterator ×
    (l.tally.agree + l.tally.differ + l.tally.skipped ≤ enumerate_count l.index-iterator)
