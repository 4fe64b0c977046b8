use Rattle.std.proofs.Common.{◌%◌, ap, ◌∙◌, arith}
use Rattle.bounded.specs.Items.{items}
use Rattle.memory.specs.CellList.{cells_of}
use Rattle.memory.specs.SixteenCells.{cells_put}
use Rattle.memory.proofs.cell_list.methods.CellListMemory.write.Goals as goal

pub returns : goal.returns
returns c =
    ap cells_of c.put.ensures
    ∙ cells_put (items c.args.self.now.rows) (c.args.address % 16) c.args.cell (omega arith)
