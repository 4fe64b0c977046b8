use Rattle.std.proofs.Common.{rules}
use borrow.Author.Tests.{tests}
use Rattle.checker.specs.Tests.{is_sourced, source_test}
use Rattle.checker.specs.Views.{asked, stated}
use Rattle.checker.proofs.evaluated.Evaluated.source_test.Goals as goal

pub returns : goal.returns
unfolding source_test
returns c =
    let r = c.args.self.now in
    c.every_position.ensures (is_sourced (asked r) (stated r)) (λ at b k. search (rules, tests))
