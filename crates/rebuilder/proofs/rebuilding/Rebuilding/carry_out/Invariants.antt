-- The accesses that are left give the result.
use Rattle.std.proofs.Common.{◌≡◌, drop}
use Rattle.rebuilder.specs.Progress.{carried}
use Rattle.rebuilder.specs.Views.{progress_of}
use Rattle.rebuilder.proofs.rebuilding.Rebuilding.carry_out.Given as goal

abbrev pub invariant-loop-access : goal.invariant-loop-access
invariant-loop-access l = carried (progress_of l.self) (drop l.access-index l.order) ≡ carried (progress_of l.initial.self) l.order
