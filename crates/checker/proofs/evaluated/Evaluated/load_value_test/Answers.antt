use Rattle.std.proofs.Common.{rules}
use borrow.Author.Tests.{tests}
use Rattle.checker.specs.Tests.{is_youngest, load_value_test}
use Rattle.checker.specs.Views.{asked, stated}
use Rattle.checker.proofs.evaluated.Evaluated.load_value_test.Goals as goal

pub returns : goal.returns
unfolding load_value_test
returns c =
    let r = c.args.self.now in
    c.every_position.ensures (is_youngest (asked r) (stated r)) (λ at b k. search (rules, tests))
