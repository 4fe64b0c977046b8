use Rattle.std.proofs.Common.{◌∙◌}
use Rattle.checker.specs.Verdict.{tests, first_failing, verdict}
use Rattle.checker.proofs.check.check.Goals as goal

pub returns : goal.returns
unfolding verdict
returns g c =
    let keeps = g.R.OrderingRule.keeps c.args.rule.now in
    c.judge.ensures ∙ (λ i. first_failing (tests keeps (c.new-evaluated.ensures.question i) (c.new-evaluated.ensures.witness i)))
