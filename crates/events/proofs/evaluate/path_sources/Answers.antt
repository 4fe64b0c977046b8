use Rattle.std.proofs.Common.{◌≡◌, ℕ, ◌+◌, get_or, sym, ap, ◌∙◌, arith}
use Rattle.bounded.specs.Items.{items}
use Rattle.instructions.specs.Kinds.{loads}
use Rattle.witness.specs.declared.record.Source.{Source}
use Rattle.question.specs.Litmus.{instruction_at}
use Rattle.events.specs.Sources.{loads_upto, no_source}
use Rattle.events.proofs.LoadCounts.{loads_none, loads_more, loads_same, loads_few}
use Rattle.events.proofs.Rows.{counted_next}
use Rattle.events.proofs.evaluate.path_sources.Goals as goal
use Rattle.events.proofs.evaluate.path_sources.Goals.{then-is_load, else-is_load}

pub loop-place-init : goal.loop-place-init
loop-place-init c = (omega (arith, loads_none c.args.code.now c.args.places.now), c.new-sources.ensures)

pub overflow_add-number : goal.overflow_add-number
overflow_add-number c = omega (arith, c.loop-place.invariant.0, c.requires, loads_few c.args.code.now c.args.places.now c.loop-place.place-index)

pub loop-place-preserved : goal.loop-place-preserved
loop-place-preserved c =
    let code = c.args.code.now in
    let places = c.args.places.now in
    let i = c.loop-place.place-index in
    let record-at : ℕ → Source = λ k. get_or c.args.records.now (c.args.first + loads_upto code places k) no_source in
    let here : loads (instruction_at code (get_or places i 0)) ≡ c.is_load.result = sym c.is_load.ensures in
    let number : c.if-is_load.number ≡ c.args.first + loads_upto code places (i + 1) =
    elim c.if-is_load.branch [
      | then-is_load w ↦ omega (arith, w.number-is, c.loop-place.invariant.0, loads_more code places i (here ∙ w.if-is_load.true))
      | else-is_load w ↦ omega (arith, w.number-is, c.loop-place.invariant.0, loads_same code places i (here ∙ w.if-is_load.false))
    ]
    in (
      number,
      counted_next record-at 16 i (items c.loop-place.sources) (items c.push.new.self) c.source_at.result
          (omega (arith, c.requires, c.loop-place-test.true))
          c.push.ensures.items
          c.loop-place.invariant.1
          (c.source_at.ensures ∙ ap (λ k. get_or c.args.records.now k no_source) c.loop-place.invariant.0),
    )
