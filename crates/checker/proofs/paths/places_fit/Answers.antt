use Rattle.std.proofs.Common.{refl, rules}
use borrow.Author.Tests.{tests}
use Rattle.checker.proofs.Loops.{all_from_all}
use Rattle.checker.proofs.paths.places_fit.Goals as goal

pub returns : goal.returns
returns c = all_from_all _ _ _ refl c.all.ensures.ran (λ x b q k. search (rules, tests))
