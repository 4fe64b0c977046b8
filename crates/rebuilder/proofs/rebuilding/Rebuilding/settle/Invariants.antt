-- The steps that are left give the result.
use Rattle.std.proofs.Common.{◌≡◌, ◌-◌}
use Rattle.completeness.specs.StepsFor.{most_steps}
use Rattle.rebuilder.specs.Progress.{settled}
use Rattle.rebuilder.specs.Views.{progress_of}
use Rattle.rebuilder.proofs.Settling.{settled_in}
use Rattle.rebuilder.proofs.rebuilding.Rebuilding.settle.Given as goal

abbrev pub invariant-loop-taken : goal.invariant-loop-taken
invariant-loop-taken l = settled_in (most_steps - l.taken) (progress_of l.self) ≡ settled (progress_of l.initial.self)
