use Rattle.std.proofs.Common.{◌≡◌, ℕ, Some, None, Option, length, refl, ap, ◌∙◌, arith}
use Rattle.std.specs.Option.{unwrap_or}
use Rattle.search.specs.Search.{nearest, passes}
use Rattle.question.specs.Litmus.{Litmus}
use Rattle.witness.specs.Execution.{Execution}
use Rattle.checker.specs.Terms.{access_at}
use Rattle.checker.specs.Tests.{same_access, number_or_0}
use Rattle.checker.specs.Views.{asked, stated}
use Rattle.checker.proofs.Loops.{nearest_by_places}
use Rattle.checker.proofs.evaluated.Evaluated.rank.Goals as goal

-- The number found, or 0.
found : (q : Litmus) (w : Execution) (o : Option ℕ) → unwrap_or o 0 ≡ number_or_0 q w o
found q w None = refl
found q w (Some k) = refl

pub returns : goal.returns
returns c =
    let s = c.args.self.now in
    let order = (stated s).order in
    let a = access_at c.args.at.processor c.args.at.position in
    c.unwrap_or.ensures
    ∙ found (asked s) (stated s) c.nearest_earlier.result
    ∙ ap (number_or_0 (asked s) (stated s)) (
    c.nearest_earlier.ensures.value
    ∙ ap (λ os. nearest (passes (λ x. same_access x a) os) (length os)) c.order-order.ensures
    ∙ nearest_by_places (λ x. same_access x a) order (access_at 0 0) (length order) (omega arith)
    )
