use Rattle.std.proofs.Common.{length, rules}
use borrow.Author.Tests.{tests}
use Rattle.events.specs.Sources.{path_at}
use Rattle.checker.specs.Tests.{all_below, is_kept_in_order, inst_order_test}
use Rattle.checker.specs.Views.{asked, stated}
use Rattle.checker.proofs.evaluated.Evaluated.inst_order_test.Goals as goal

pub returns : goal.returns
unfolding inst_order_test
returns g c =
    let r = c.args.self.now in
    c.every_position.ensures (λ p i. all_below (is_kept_in_order (asked r) (stated r) (g.R.OrderingRule.keeps c.args.rule.now) p i) (length (path_at (stated r) p))) (λ at b k. search (rules, tests))
