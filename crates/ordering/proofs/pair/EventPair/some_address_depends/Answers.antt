use Rattle.std.proofs.Common.{rules}
use borrow.Author.Tests.{tests}
use Rattle.ordering.proofs.Ranges.{some_from_any}
use Rattle.ordering.proofs.pair.EventPair.some_address_depends.Goals as goal

pub returns : goal.returns
returns c = some_from_any _ _ c.any.ensures.ran (λ x b q k. search (rules, tests))
