use Rattle.std.proofs.Common.{arith}
use Rattle.std.proofs.Math.Seq.{take-set-lt}
use Rattle.bounded.proofs.vector.Bounded.set.Goals as goal

pub returns-clause-items : goal.returns-clause-items
returns-clause-items g c = take-set-lt _ _ _ _ (omega arith)
