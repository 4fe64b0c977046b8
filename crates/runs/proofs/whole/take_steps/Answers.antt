use Rattle.std.proofs.Common.{◌+◌, ◌∷◌, ◌++◌, get_or, drop, vec_items, sym, ap, ◌∙◌, append_assoc, append-nil}
use Rattle.std.proofs.lemmas.List.{at_drop_all, at_drop_more}
use Rattle.machine.specs.Fires.{step}
use Rattle.machine.specs.Steps.{answer, after, step_outcome, run_all}
use Rattle.machine.specs.Views.{open_state, run_question}
use Rattle.question.specs.Views.{litmus_of}
use Rattle.runs.specs.Records.{answers}
use Rattle.runs.proofs.whole.take_steps.Goals as goal

pub loop-step-preserved : goal.loop-step-preserved
unfolding answers run_all
loop-step-preserved g c =
    let q = run_question c.args.run.now in
    let steps = c.args.steps.now in
    let i = c.loop-step.step-index in
    let s = open_state g.M.Memory.cells c.loop-step.run in
    let st = get_or steps i (step 0 0 0 0) in
    let same = ap (λ r. litmus_of r.now) c.loop-step.invariant.0 in
    let value = c.step.ensures.value ∙ ap (λ l. answer (step_outcome l s st)) same in
    let state = c.step.ensures.state ∙ ap (λ l. after s (step_outcome l s st)) same in (
      c.step.ensures.question ∙ c.loop-step.invariant.0,
      ap (λ l. l ++ answers q (open_state g.M.Memory.cells c.step.new.self) (drop (i + 1) steps)) c.in_ok-push.ensures.items
          ∙ append_assoc (vec_items c.loop-step.answers) _ _
          ∙ ap (λ x. vec_items c.loop-step.answers ++ x ∷ answers q (open_state g.M.Memory.cells c.step.new.self) (drop (i + 1) steps)) value
          ∙ ap (λ t. vec_items c.loop-step.answers ++ answer (step_outcome q s st) ∷ answers q t (drop (i + 1) steps)) state
          ∙ ap (λ l. vec_items c.loop-step.answers ++ l) (sym (at_drop_more (answers q s) steps i (step 0 0 0 0) c.loop-step-test.true))
          ∙ c.loop-step.invariant.1,
      ap (λ t. run_all q t (drop (i + 1) steps)) state
          ∙ sym (at_drop_more (run_all q s) steps i (step 0 0 0 0) c.loop-step-test.true)
          ∙ c.loop-step.invariant.2,
    )

pub returns : goal.returns
unfolding answers run_all
returns g c =
    let q = run_question c.args.run.now in
    let steps = c.args.steps.now in
    let i = c.loop-step.step-index in
    let s = open_state g.M.Memory.cells c.loop-step.run in
    record {
      value =
          sym (append-nil (vec_items c.loop-step.answers))
          ∙ ap (λ l. vec_items c.loop-step.answers ++ l) (sym (at_drop_all (answers q s) steps i c.loop-step-test.false))
          ∙ c.loop-step.invariant.1;
      state = sym (at_drop_all (run_all q s) steps i c.loop-step-test.false) ∙ c.loop-step.invariant.2;
      question = c.loop-step.invariant.0;
    }
