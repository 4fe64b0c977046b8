use Rattle.std.proofs.Common.{◌<◌, map, length, get_or, sym, ap, ◌∙◌, arith}
use Rattle.question.specs.Litmus.{code_at}
use Rattle.rules.specs.Act as rules
use Rattle.machine.specs.Views.{core_of, run_question}
use Rattle.machine.proofs.Cores.{core_within, core_read, few_processors}
use Rattle.machine.proofs.open.OpenRun.fetched_entry.Goals as goal

pub returns : goal.returns
returns g c =
    let r = c.args.self.now in
    let p = c.args.step.processor in
    let x = get_or r.processors.rows p c.index-self-step.result in
    let l : p < length r.processors.rows = omega (arith, few_processors r.question.now, c.requires, r.processors.four) in
    let e = core_read r.processors.rows p c.index-self-step.result l ∙ sym (core_within (length (run_question r).code) (map core_of r.processors.rows) p c.requires) in
    let code = code_at (run_question r) p in
    c.fetch.ensures
    ∙ ap (λ es. rules.fetch code x.counter es c.args.step.position c.args.step.guess) c.as_slice.ensures
    ∙ ap (λ y. rules.fetch code y.counter y.entries c.args.step.position c.args.step.guess) e
