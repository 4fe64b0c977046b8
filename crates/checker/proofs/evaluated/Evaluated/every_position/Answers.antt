use Rattle.std.proofs.Common.{length, rules}
use borrow.Author.Tests.{tests}
use Rattle.events.specs.Sources.{path_at}
use Rattle.checker.specs.Tests.{all_below}
use Rattle.checker.specs.Views.{stated}
use Rattle.checker.proofs.Loops.{all_from_all}
use Rattle.checker.proofs.evaluated.Evaluated.every_position.Goals as goal

pub returns : goal.returns
returns g c t h =
    let w = stated c.args.self.now in
    all_from_all (λ p. all_below (t p) (length (path_at w p))) _ _ c.processors.ensures c.all.ensures.ran (λ x b q k. search (rules, tests, h))
