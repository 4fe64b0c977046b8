use Rattle.std.proofs.Common.{◌≡◌, ap, ◌∙◌}
use Rattle.std.specs.List.{range_with_len, flat_map}
use Rattle.bounded.specs.Items.{items}
use Rattle.question.specs.Views.{litmus_of}
use Rattle.witness.specs.Views.{execution_of}
use Rattle.checker.specs.Rows.{Evaluation}
use Rattle.completeness.specs.StepsFor.{fetches}
use Rattle.rebuilder.specs.Progress.{Progress, begun, carried, processors_of, runs}
use Rattle.rebuilder.specs.Views.{progress_of, row_fetches}
use Rattle.rebuilder.proofs.Fetching.{fetches_by_rows, steps_are}
use Rattle.rebuilder.proofs.rebuild.steps_for.Goals as goal

pub returns : goal.returns
unfolding progress_of
returns c =
    let q = litmus_of c.args.question.now in
    let w = execution_of c.args.witness.now in
    let rows = items c.evaluate.result in
    let evaluation : Evaluation q w rows = record { runs = c.evaluate.ensures.events; records = c.evaluate.ensures.sources } in
    let fetched : progress_of c.fetch_all.new.self ≡ runs (begun q) (fetches q w) =
    c.fetch_all.ensures
    ∙ (λ i. runs (c.start-rebuilding.ensures i) (flat_map (row_fetches (c.as_slice.ensures i)) (range_with_len 0 (processors_of (c.start-rebuilding.ensures i)))))
    ∙ ap (runs (begun q)) (fetches_by_rows q w rows evaluation) in
    ap (λ (p : Progress). p.steps) (c.carry_out.ensures ∙ (λ i. carried (fetched i) (c.order.ensures i))) ∙ steps_are q w
