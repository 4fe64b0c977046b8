use Rattle.std.proofs.Common.{rules}
use borrow.Author.Tests.{tests}
use Rattle.ordering.proofs.Ranges.{some_from_any}
use Rattle.checker.proofs.inst_order.is_after_reached.Goals as goal

pub returns : goal.returns
returns g c = some_from_any _ _ c.any.ensures.ran (λ x b q k. search (rules, tests))
