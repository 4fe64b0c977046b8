use Rattle.std.proofs.Common.{rules}
use borrow.Author.Tests.{tests}
use Rattle.checker.proofs.Loops.{all_from_all}
use Rattle.checker.proofs.evaluated.Evaluated.path_passes.Goals as goal

pub returns : goal.returns
returns g c t h = all_from_all (t c.args.processor) _ _ c.positions.ensures c.all.ensures.ran (λ x b q k. search (rules, tests, h))
