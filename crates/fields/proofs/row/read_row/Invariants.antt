use Rattle.std.proofs.Common.{◌≡◌, length}
use Rattle.fields.specs.Rows.{read_row}
use Rattle.fields.proofs.row.read_row.Given as goal

abbrev pub invariant-loop-rest : goal.invariant-loop-rest
invariant-loop-rest g l = read_row g.R.RowReader.format g.R.RowReader.nothing l.bytes ≡ read_row g.R.RowReader.format (g.R.RowReader.known l.reader) l.rest

abbrev pub decreases-loop-rest : goal.decreases-loop-rest
decreases-loop-rest g l = length l.rest
