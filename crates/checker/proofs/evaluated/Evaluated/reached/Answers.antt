use Rattle.std.proofs.Common.{◌∙◌}
use Rattle.checker.specs.Views.{asked, stated}
use Rattle.checker.proofs.Closures.{reached_on_path}
use Rattle.checker.proofs.evaluated.Evaluated.reached.Goals as goal

pub returns : goal.returns
returns g c =
    let s = c.args.self.now in
    c.reached_from.ensures
    ∙ reached_on_path (g.R.OrderingRule.keeps c.args.rule.now) (asked s) (stated s) c.args.from.processor c.args.from.position c.events.result.now c.events.ensures.value
