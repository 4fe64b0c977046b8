use Rattle.std.proofs.Common.{◌∙◌, arith}
use Rattle.bounded.specs.Items.{items}
use Rattle.checker.proofs.Closures.{reached_none, reached_push}
use Rattle.checker.proofs.inst_order.reached_from.Goals as goal

pub loop-second-init : goal.loop-second-init
loop-second-init g c = c.new-reached.ensures ∙ reached_none _ _

pub loop-second-preserved : goal.loop-second-preserved
loop-second-preserved g c =
    let R = g.R.OrderingRule.keeps c.args.rule.now c.args.events.now in
    reached_push R c.args.first c.loop-second.second (items c.loop-second.reached) c.as_slice.result.now (items c.push.new.self) c.is_reached-hit.result
    (omega arith) c.loop-second.invariant c.as_slice.ensures c.is_reached-hit.ensures c.push.ensures.items
