use Rattle.std.proofs.Common.{◌≡◌, ℕ, List, vec_items, sym, refl, ap, ◌∙◌, arith}
use Rattle.memory.specs.declared.cell.Cell.{Cell}
use Rattle.machine.specs.Results.{cell_answer}
use Rattle.machine.specs.Views.{closed_state}
use Rattle.runs.specs.Records.{given, shown_cells}
use Rattle.runs.proofs.Shown.{gathered_value, gathered_nothing}
use Rattle.runs.proofs.whole.cells.Goals as goal
use Rattle.runs.proofs.whole.cells.Goals.{in-Ok+in_ok-push, in_default}

pub loop-address-init : goal.loop-address-init
unfolding shown_cells
loop-address-init g c = (c.new-cells.ensures.items, refl)

pub loop-address-preserved : goal.loop-address-preserved
unfolding shown_cells
loop-address-preserved g c =
    let run = closed_state g.M.Memory.cells c.args.run.now in
    let f : ℕ → List Cell = λ a. given (cell_answer run a) in
    let n = c.loop-address.address in
    let e = sym (ap (λ r. cell_answer r n) c.loop-address.invariant.1) ∙ sym c.cell.ensures.value in (
      elim c.match-cell.branch [
        | in-Ok+in_ok-push w ↦
            gathered_value f n (vec_items c.loop-address.cells) (vec_items c.match-cell.cells) w.in-Ok.cell c.loop-address.invariant.0
            (ap vec_items w.cells-is ∙ w.in_ok-push.ensures.items)
            (ap given (e ∙ w.in-Ok.is))
        | in_default w ↦
            gathered_nothing f n (vec_items c.match-cell.cells) (ap vec_items w.cells-is ∙ c.loop-address.invariant.0)
            (ap given (e ∙ w.in_default.is))
      ],
      c.cell.ensures.same ∙ c.loop-address.invariant.1,
    )

pub returns : goal.returns
returns g c =
    let e : c.loop-address.address ≡ 16 = omega arith in
    record {
      value = c.loop-address.invariant.0 ∙ ap (λ n. shown_cells (closed_state g.M.Memory.cells c.args.run.now) n) e;
      same = c.loop-address.invariant.1;
    }
