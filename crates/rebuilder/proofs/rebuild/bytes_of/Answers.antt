use Rattle.std.proofs.Common.{◌+◌, ◌++◌, get_or, take, drop, sym, ap, ◌∙◌}
use Rattle.std.proofs.lemmas.List.{at_drop_all, at_drop_more}
use Rattle.bounded.specs.Items.{items}
use Rattle.bounded.proofs.Fits.{items_fit}
use Rattle.machine.specs.Fires.{step}
use Rattle.completeness.specs.StepsFor.{bytes_of_steps}
use Rattle.machine.specs.Bytes.{step_bytes}
use Rattle.rebuilder.proofs.Pushes.{pushed, pushed_all}
use Rattle.rebuilder.proofs.rebuild.bytes_of.Goals as goal

pub loop-step-init : goal.loop-step-init
loop-step-init c = ap (λ xs. take 1024 (xs ++ bytes_of_steps c.args.steps.now)) c.new-bytes.ensures

pub loop-step-preserved : goal.loop-step-preserved
loop-step-preserved c =
    let steps = c.args.steps.now in
    let i = c.loop-step.step-index in
    let st = get_or steps i (step 0 0 0 0) in
    let rest = bytes_of_steps (drop (i + 1) steps) in
    let all = items c.loop-step.bytes in
    pushed 1024 all (items c.extend.new.self) (step_bytes st) rest (c.extend.ensures ∙ ap (λ b. take 1024 (all ++ b)) c.from.ensures)
    ∙ ap (λ xs. take 1024 (all ++ xs)) (sym (at_drop_more bytes_of_steps steps i (step 0 0 0 0) c.loop-step-test.true))
    ∙ c.loop-step.invariant

pub returns : goal.returns
returns c =
    let all = items c.loop-step.bytes in
    pushed_all 1024 all (items_fit c.loop-step.bytes)
    ∙ ap (λ xs. take 1024 (all ++ xs)) (sym (at_drop_all bytes_of_steps c.args.steps.now c.loop-step.step-index c.loop-step-test.false))
    ∙ c.loop-step.invariant
