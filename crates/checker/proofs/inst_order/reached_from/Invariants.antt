use Rattle.std.proofs.Common.{◌≡◌}
use Rattle.bounded.specs.Items.{items}
use Rattle.checker.specs.Tests.{reached}
use Rattle.checker.proofs.inst_order.reached_from.Given as goal

abbrev pub invariant-loop-second : goal.invariant-loop-second
invariant-loop-second g l = items l.reached ≡ reached (g.R.OrderingRule.keeps l.rule l.events) l.first l.second
