use Rattle.std.proofs.Common.{sym, ◌∙◌}
use Rattle.fields.specs.Views.{cut}
use Rattle.fields.proofs.Rows.{row_next}
use Rattle.fields.proofs.row.read_row.Goals as goal

pub loop-rest-preserved : goal.loop-rest-preserved
loop-rest-preserved g c =
    c.loop-rest.invariant ∙ row_next g.R.RowReader.format c.loop-rest.rest.now _ _ (cut c.in_ok-field.field) (sym c.in_ok-field.ensures) c.in_ok-take.ensures
