use Rattle.std.proofs.Common.{◌≡◌, ◌≤◌, List, map, length, take, sym, ap, ◌∙◌, arith}
use Rattle.std.proofs.lemmas.List.{length-map, length-take, take_all, take-map}
use Rattle.std.specs.List.{flat_map}
use Rattle.bounded.specs.Items.{items}
use Rattle.question.specs.Views.{instructions_of}
use Rattle.witness.specs.Execution.{Execution}
use Rattle.machine.specs.Results.{all_finished, registers_of, core_path, core_sources}
use Rattle.machine.specs.State.{Core}
use Rattle.machine.specs.Views.{core_of, run_question, open_state}
use Rattle.machine.proofs.Cores.{few_processors}
use Rattle.machine.proofs.Closing.{same_closed}
use Rattle.machine.proofs.open.OpenRun.close.Goals as goal

pub gathered-requires : goal.gathered-requires
gathered-requires g c =
    let q = c.args.self.question.now in
    let n = c.processors.result in
    let ps = items q.processors in
    let few : n ≤ 4 = omega (arith, few_processors q, c.processors.ensures) in
    let count : length c.first-rows.result.now ≡ n =
    omega (arith, ap length c.first-rows.ensures, length-take n c.args.self.processors.rows, c.args.self.processors.four) in
    let some : 1 ≤ n = omega (arith, q.some, length-map ps instructions_of, c.processors.ensures) in
    record { some = omega arith; few = omega arith }

pub returns : goal.returns
returns g c =
    let s = c.args.self in
    let q = s.question.now in
    let n = length (run_question s).code in
    let rows = c.first-rows.result.now in
    let cs = (open_state g.M.Memory.cells s).cores in
    let same : map core_of rows ≡ cs =
    ap (map core_of) (c.first-rows.ensures ∙ ap (λ k. take k s.processors.rows) c.processors.ensures) ∙ sym (take-map core_of n s.processors.rows) in
    let few : length cs ≤ 4 = omega (arith, few_processors q, length-take n (map core_of s.processors.rows)) in
    let witness : List Core → Execution = λ xs. record { paths = map core_path xs; sources = flat_map core_sources xs; order = items s.order } in
    same_closed
    (c.gathered.ensures.finished ∙ ap (all_finished (run_question s).code) same)
    (c.gathered.ensures.registers ∙ ap (λ xs. take 4 (map registers_of xs)) same ∙ take_all 4 (map registers_of cs) (omega (arith, length-map cs registers_of)))
    (c.gathered.ensures.execution ∙ ap witness same)
    (ap g.M.Memory.cells c.gathered.ensures.memory)
