-- Each turn takes an access away.
use Rattle.std.proofs.Common.{length}
use Rattle.litmus.proofs.tries.Tries.order.Given as goal

abbrev pub decreases-loop-rest : goal.decreases-loop-rest
decreases-loop-rest l = length l.rest.items
