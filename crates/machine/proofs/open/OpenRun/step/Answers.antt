use Rattle.std.proofs.Common.{◌<◌, map, length, take, set, Some, Err, sym, refl, ap, ◌∙◌, arith}
use Rattle.std.proofs.lemmas.Result.{err_from_is_err_and}
use Rattle.machine.specs.Steps.{answer, after, fetch_outcome, fetched, core_fetched}
use Rattle.machine.specs.Views.{core_of, run_question, open_state}
use Rattle.machine.proofs.Cores.{take_set_within, core_within, same_state}
use Rattle.machine.proofs.Outcomes.{processors_counted, rule_present, no_rule, no_processor, fetch_step, act_step}
use Rattle.machine.proofs.open.OpenRun.step.Goals as goal

pub returns-in_err-rule : goal.returns-in_err-rule
returns-in_err-rule g c =
    let s = open_state g.M.Memory.cells c.args.self.now in
    let q = err_from_is_err_and c.from_residual.result c.from_residual.ensures.1 in
    let o = no_rule (run_question c.args.self.now) s c.args.step _ (sym c.try_from.ensures ∙ c.in_err-rule.was) in
    record { value = q.1 ∙ ap Err q.2 ∙ sym (ap answer o); state = sym (ap (after s) o); question = refl }

pub returns-then-step-processors : goal.returns-then-step-processors
returns-then-step-processors g c =
    let r = c.args.self.now in
    let s = open_state g.M.Memory.cells r in
    let o = no_processor (run_question r) s c.args.step c.in_ok-rule.rule (rule_present _ _ _ (sym c.try_from.ensures ∙ c.in_ok-rule.was)) (omega (arith, processors_counted r)) in
    record { value = sym (ap answer o); state = sym (ap (after s) o); question = refl }

pub returns-in_err-entry-in-Fetch : goal.returns-in_err-entry-in-Fetch
unfolding fetch_outcome
returns-in_err-entry-in-Fetch g c =
    let r = c.args.self.now in
    let s = open_state g.M.Memory.cells r in
    let p = c.args.step.processor in
    let o = fetch_step (run_question r) s c.args.step (rule_present _ _ _ (sym c.try_from.ensures ∙ c.in_ok-rule.was) ∙ ap Some c.in-Fetch.is) (omega (arith, processors_counted r)) in
    let f = ap (fetched s p) (sym c.fetched_entry.ensures ∙ c.in_err-entry-in-Fetch.was) in
    let q = err_from_is_err_and c.from_residual-in_err-entry-in-Fetch.result c.from_residual-in_err-entry-in-Fetch.ensures.1 in
    record { value = q.1 ∙ ap Err q.2 ∙ sym (ap answer (o ∙ f)); state = sym (ap (after s) (o ∙ f)); question = refl }

pub returns-in_ok-entry-in-Fetch : goal.returns-in_ok-entry-in-Fetch
unfolding fetch_outcome
returns-in_ok-entry-in-Fetch g c =
    let r = c.args.self.now in
    let s = open_state g.M.Memory.cells r in
    let n = length (run_question r).code in
    let p = c.args.step.processor in
    let l : p < n = omega (arith, processors_counted r) in
    let cs = map core_of r.processors.rows in
    let y = c.in_ok-entry-in-Fetch.entry in
    let o = fetch_step (run_question r) s c.args.step (rule_present _ _ _ (sym c.try_from.ensures ∙ c.in_ok-rule.was) ∙ ap Some c.in-Fetch.is) (omega (arith, processors_counted r)) in
    let f = ap (fetched s p) (sym c.fetched_entry.ensures ∙ c.in_ok-entry-in-Fetch.was) in
    let cores = ap (take n) c.fetched.ensures ∙ take_set_within n cs p _ l ∙ ap (λ z. set (take n cs) p (core_fetched z y)) (sym (core_within n cs p l)) in
    record { value = sym (ap answer (o ∙ f)); state = same_state cores refl refl ∙ sym (ap (after s) (o ∙ f)); question = refl }

pub returns-in_default : goal.returns-in_default
returns-in_default g c =
    let r = c.args.self.now in
    let s = open_state g.M.Memory.cells r in
    let o = act_step (run_question r) s c.args.step c.in_ok-rule.rule (rule_present _ _ _ (sym c.try_from.ensures ∙ c.in_ok-rule.was)) c.in_default.not-Fetch (omega (arith, processors_counted r)) in
    record { value = c.act.ensures.value ∙ sym (ap answer o); state = c.act.ensures.state ∙ sym (ap (after s) o); question = c.act.ensures.question }
