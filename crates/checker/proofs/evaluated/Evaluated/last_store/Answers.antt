use Rattle.std.proofs.Common.{rules}
use borrow.Author.Tests.{tests}
use Rattle.checker.proofs.Loops.{nearest_from_rfind}
use Rattle.checker.proofs.evaluated.Evaluated.last_store.Goals as goal

pub returns : goal.returns
returns c = nearest_from_rfind _ _ _ c.accesses.ensures _ c.rfind.ensures.ran (λ x b q k. search (rules, tests))
