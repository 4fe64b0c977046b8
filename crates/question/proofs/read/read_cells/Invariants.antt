use Rattle.std.proofs.Common.{◌≡◌, ◌*◌, length, drop}
use Rattle.question.specs.Cells.{cells_from, zeros}
use Rattle.question.proofs.read.read_cells.Given as goal

abbrev pub invariant-loop-address : goal.invariant-loop-address
invariant-loop-address l =
    (length l.cells ≡ 16) × (cells_from 0 zeros l.contents ≡ cells_from l.least l.cells (drop (3 * l.address-index) l.contents))
