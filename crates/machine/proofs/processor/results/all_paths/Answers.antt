use Rattle.std.proofs.Common.{ap, ◌∙◌}
use Rattle.bounded.specs.Items.{items}
use Rattle.machine.specs.Results.{core_path}
use Rattle.machine.specs.Views.{core_of}
use Rattle.machine.proofs.Closing.{rows_next, rows_all}
use Rattle.machine.proofs.processor.results.all_paths.Goals as goal

pub loop-row-preserved : goal.loop-row-preserved
loop-row-preserved c =
    rows_next items core_path c.args.rows.now c.loop-row.row-index (items c.loop-row.all) (items c.push.new.self) c.path.result c.row-item.result
    c.loop-row-test.true
    c.push.ensures.items
    c.loop-row.invariant
    (c.path.ensures ∙ ap (λ x. core_path (core_of x)) c.row-item.is)

pub returns : goal.returns
returns c = rows_all items core_path c.args.rows.now c.loop-row.row-index (items c.loop-row.all) c.loop-row-test.false c.loop-row.invariant
