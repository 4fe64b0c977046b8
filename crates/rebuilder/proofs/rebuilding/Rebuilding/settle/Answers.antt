use Rattle.std.proofs.Common.{◌≡◌, suc, ◌+◌, ◌-◌, ap, ◌∙◌, arith}
use Rattle.rebuilder.specs.Views.{progress_of}
use Rattle.rebuilder.proofs.GoesOn.{few_steps}
use Rattle.rebuilder.proofs.Settling.{settled_in, settled_fully, settling_goes_on, settling_stops, settling_ends}
use Rattle.rebuilder.proofs.rebuilding.Rebuilding.settle.Goals as goal

pub loop-taken-init : goal.loop-taken-init
loop-taken-init c = settled_fully (progress_of c.args.self.now)

pub loop-taken-preserved : goal.loop-taken-preserved
loop-taken-preserved c =
    let k = c.loop-taken.taken in
    let one : suc (256 - (k + 1)) ≡ 256 - k = omega arith in
    settling_goes_on c.take_lowest.ensures (256 - (k + 1)) c.if-not-take_lowest.false ∙ ap (λ n. settled_in n (progress_of c.loop-taken.self)) one ∙ c.loop-taken.invariant

pub returns-then-not-take_lowest : goal.returns-then-not-take_lowest
returns-then-not-take_lowest c =
    let k = c.loop-taken.taken in
    let one : suc (256 - (k + 1)) ≡ 256 - k = omega arith in
    settling_stops c.take_lowest.ensures (few_steps c.loop-taken.self) (256 - (k + 1)) c.if-not-take_lowest.true ∙ ap (λ n. settled_in n (progress_of c.loop-taken.self)) one ∙ c.loop-taken.invariant

pub returns : goal.returns
returns c =
    let spent : 0 ≡ 256 - c.loop-taken.taken = omega arith in
    settling_ends (progress_of c.loop-taken.self) (few_steps c.loop-taken.self) ∙ ap (λ n. settled_in n (progress_of c.loop-taken.self)) spent ∙ c.loop-taken.invariant
