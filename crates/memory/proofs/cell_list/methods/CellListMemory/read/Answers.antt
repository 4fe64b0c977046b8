use Rattle.std.proofs.Common.{◌%◌, sym, refl, ◌∙◌, arith}
use Rattle.bounded.specs.Items.{items}
use Rattle.memory.specs.Cells.{zero_cell}
use Rattle.memory.specs.SixteenCells.{cells_at}
use Rattle.memory.proofs.cell_list.methods.CellListMemory.read.Goals as goal

pub returns : goal.returns
returns c = record {
  value = c.find.ensures ∙ sym (cells_at (items c.args.self.now.rows) (c.args.address % 16) zero_cell (omega arith));
  same = refl;
}
