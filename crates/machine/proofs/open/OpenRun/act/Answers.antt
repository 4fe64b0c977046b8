use Rattle.std.proofs.Common.{◌≡◌, ◌<◌, map, length, take, set, Ok, Err, sym, refl, ap, ◌∙◌, arith}
use Rattle.std.proofs.lemmas.Result.{err_from_is_err_and}
use Rattle.question.specs.Views.{litmus_of}
use Rattle.rules.specs.Act as rules
use Rattle.rules.specs.Changes.{load_change}
use Rattle.rules.specs.Entries.{at}
use Rattle.machine.specs.State.{core_at}
use Rattle.machine.specs.Steps.{answer, after, act_outcome, done, made, removed, changed, core_changed}
use Rattle.machine.specs.Views.{core_of, open_state, run_question}
use Rattle.machine.proofs.Cores.{entries_read, core_within, take_set_within, few_processors, same_state}
use Rattle.machine.proofs.open.OpenRun.act.Given.{Over}
use Rattle.machine.proofs.open.OpenRun.act.Goals as goal
use Rattle.machine.proofs.open.OpenRun.act.Goals.{After-act, in-Make, in-Read}

-- The rule acted on the entries of the processor in the state.
acted : (g : Over) (c : After-act g) →
    c.act.result ≡ rules.act c.args.rule (core_at (open_state g.M.Memory.cells c.args.self.now) c.args.step.processor).entries c.args.step.processor c.args.step.position c.args.step.guess
acted g c =
    let r = c.args.self.now in
    let p = c.args.step.processor in
    let l : p < length r.processors.rows = omega (arith, few_processors r.question.now, c.requires, r.processors.four) in
    c.act.ensures
    ∙ ap (λ es. rules.act c.args.rule es p c.args.step.position c.args.step.guess) (c.as_slice-entries.ensures ∙ entries_read r p c.index-self-processor.result l c.requires)

pub returns-in_err-change : goal.returns-in_err-change
unfolding act_outcome
returns-in_err-change g c =
    let s = open_state g.M.Memory.cells c.args.self.now in
    let o = ap (done s c.args.step.processor c.args.step.position) (sym (acted g (goal.at.returns-in_err-change g c).After-act) ∙ c.in_err-change.was) in
    let q = err_from_is_err_and c.from_residual.result c.from_residual.ensures.1 in
    record { value = q.1 ∙ ap Err q.2 ∙ sym (ap answer o); state = sym (ap (after s) o); question = refl }

pub returns : goal.returns
unfolding act_outcome
returns g c =
    let r = c.args.self.now in
    let s = open_state g.M.Memory.cells r in
    let p = c.args.step.processor in
    let i = c.args.step.position in
    let es = (core_at s p).entries in
    let l : p < length r.processors.rows = omega (arith, few_processors r.question.now, c.requires, r.processors.four) in
    let seen = c.as_slice-entries.ensures ∙ entries_read r p c.index-self-processor.result l c.requires in
    let was = sym (acted g (goal.at.returns g c).After-act) ∙ c.in_ok-change.was in
    let before = c.match-branch-2.self in
    let change = c.match-branch-2.change in
    let told : (before.question ≡ r.question) × (open_state g.M.Memory.cells before ≡ s) × (act_outcome s c.args.rule p i c.args.step.guess ≡ made s p i change) =
    elim c.match-branch-2.branch [
      | in-Make w ↦ (ap (λ x. x.question) w.self-is, ap (open_state g.M.Memory.cells) w.self-is, ap (done s p i) (was ∙ ap Ok w.in-Make.is) ∙ ap (made s p i) (sym w.change-is))
      | in-Read w ↦ (
        ap (λ x. x.question) w.self-is,
        ap (open_state g.M.Memory.cells) w.self-is ∙ same_state {cs = s.cores} {o = s.order} refl refl w.read-cell.ensures.same,
        ap (done s p i) (was ∙ ap Ok w.in-Read.is)
            ∙ ap (made s p i) (sym (w.change-is ∙ w.loaded-change.ensures
            ∙ ap (λ x. load_change (at x i) w.read-cell.result.value w.read-cell.result.mark) seen
            ∙ ap (λ x. load_change (at es i) x.value x.mark) w.read-cell.ensures.value)),
      )
    ] in
    let n = length (run_question before).code in
    let cs = map core_of before.processors.rows in
    let h : p < n = omega (arith, c.requires, ap (λ q. length (litmus_of q.now).code) told.0) in
    let w = sym (core_within n cs p h) in
    let cores = ap (take n) c.make.ensures.cores ∙ take_set_within n cs p _ h ∙ ap (λ x. set (take n cs) p (core_changed x i change)) w in
    record {
      value =
          ap Ok (c.make.ensures.value ∙ ap (λ x. removed change.cut (length x.entries)) w)
          ∙ ap (λ t. Ok (removed change.cut (length (core_at t p).entries))) told.1
          ∙ sym (ap answer told.2);
      state = same_state cores c.after_step.ensures c.write_cell.ensures ∙ ap (λ t. changed t p i change) told.1 ∙ sym (ap (after s) told.2);
      question = told.0;
    }
