use Rattle.std.proofs.Common.{ℕ, ◌/◌, ◌%◌, Result, refl, ◌∙◌, rules}
use Rattle.std.specs.List.{range_with_len}
use Rattle.std.specs.Result.{result_ok}
use Rattle.std.proofs.lemmas.Iterator.{YieldsList-from_range, items_from_collect}
use Rattle.std.proofs.lemmas.Iterator.Consumers.{YieldsList-from_filter_map}
use Rattle.std.proofs.lemmas.Result.{IfOk-weaker}
use Rattle.fields.specs.declared.refusal.Refusal.{Refusal}
use Rattle.machine.specs.Results.{register_answer}
use Rattle.machine.specs.Views.{closed_state}
use Rattle.runs.specs.Records.{shown_registers}
use Rattle.runs.proofs.Shown.{values_given}
use Rattle.runs.proofs.whole.registers.Goals as goal

pub returns : goal.returns
unfolding shown_registers
returns g c =
    let answer : ℕ → Result ℕ Refusal = λ k. register_answer (closed_state g.M.Memory.cells c.args.run.now) (k / 8) (k % 8) in
    IfOk-weaker c.collect.result _ _ (λ v h. h ∙ values_given answer (range_with_len 0 32))
    (items_from_collect c.collect.result c.collect.ensures.ran
    (YieldsList-from_filter_map _ (λ k. result_ok (answer k)) (YieldsList-from_range 0 32 32 (search rules) refl) c.filter_map.ensures.closure (λ x r q k. search rules)))
