use Rattle.std.proofs.Common.{◌+◌, get_or, drop, sym, ap, ◌∙◌}
use Rattle.std.proofs.lemmas.List.{at_drop_all, at_drop_more}
use Rattle.checker.specs.Terms.{access_at}
use Rattle.rebuilder.specs.Progress.{accessed, carried}
use Rattle.rebuilder.specs.Views.{progress_of}
use Rattle.rebuilder.proofs.Settling.{carrying_goes_on, carrying_ends}
use Rattle.rebuilder.proofs.rebuilding.Rebuilding.carry_out.Goals as goal

pub loop-access-preserved : goal.loop-access-preserved
loop-access-preserved c =
    let p = progress_of c.loop-access.self in
    let order = c.args.order.now in
    let i = c.loop-access.access-index in
    let a = get_or order i (access_at 0 0) in
    ap (λ v. carried v (drop (i + 1) order)) (c.access.ensures ∙ ap (λ v. accessed v a) c.settle.ensures)
    ∙ carrying_goes_on p a (drop (i + 1) order)
    ∙ sym (at_drop_more (carried p) order i (access_at 0 0) c.loop-access-test.true)
    ∙ c.loop-access.invariant

pub returns : goal.returns
returns c =
    let p = progress_of c.loop-access.self in
    c.settle-2.ensures ∙ carrying_ends p ∙ sym (at_drop_all (carried p) c.args.order.now c.loop-access.access-index c.loop-access-test.false) ∙ c.loop-access.invariant
