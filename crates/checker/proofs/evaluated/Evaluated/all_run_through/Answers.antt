use Rattle.std.proofs.Common.{rules}
use borrow.Author.Tests.{tests}
use Rattle.checker.proofs.Loops.{all_from_all}
use Rattle.checker.proofs.evaluated.Evaluated.all_run_through.Goals as goal

pub returns : goal.returns
returns c = all_from_all _ _ _ c.processors.ensures c.all.ensures.ran (λ x b q k. search (rules, tests))
