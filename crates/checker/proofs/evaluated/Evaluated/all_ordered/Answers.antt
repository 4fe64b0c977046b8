use Rattle.std.proofs.Common.{rules}
use borrow.Author.Tests.{tests}
use Rattle.checker.specs.Tests.{is_ordered}
use Rattle.checker.specs.Views.{asked, stated}
use Rattle.checker.proofs.evaluated.Evaluated.all_ordered.Goals as goal

pub returns : goal.returns
returns c =
    let r = c.args.self.now in
    c.every_position.ensures (is_ordered (asked r) (stated r)) (λ at b k. search (rules, tests))
