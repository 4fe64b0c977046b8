use Rattle.std.proofs.Common.{◌∙◌}
use Rattle.checker.specs.Views.{asked, stated}
use Rattle.checker.proofs.Closures.{row_is_what_is_kept}
use Rattle.checker.proofs.evaluated.Evaluated.position_is_kept.Goals as goal

pub returns : goal.returns
returns g c =
    let s = c.args.self.now in
    c.row_is_kept.ensures
    ∙ row_is_what_is_kept (g.R.OrderingRule.keeps c.args.rule.now) (asked s) (stated s) c.args.from.processor c.args.from.position c.as_slice.result.now
    (c.as_slice.ensures ∙ c.reached-reached.ensures)
