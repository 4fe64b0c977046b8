use Rattle.std.proofs.Common.{is_some, sym, ap, ◌∙◌}
use Rattle.checker.specs.Terms.{access_at}
use Rattle.checker.specs.Tests.{same_access}
use Rattle.checker.proofs.Loops.{some_is_found, nearest_by_places}
use Rattle.checker.proofs.order.is_among.Goals as goal

pub returns : goal.returns
returns c =
    let b = access_at c.args.at.processor c.args.at.position in
    c.is_some.ensures
    ∙ ap is_some (c.nearest_earlier.ensures.value ∙ nearest_by_places (λ a. same_access a b) c.args.order.now (access_at 0 0) c.args.count c.requires)
    ∙ sym (some_is_found _ c.args.count)
