use Rattle.std.proofs.Common.{◌≡◌, ◌%◌, get_or, sym, ap, ◌∙◌}
use Rattle.bounded.specs.Items.{items}
use Rattle.memory.specs.CellList.{blank_row}
use Rattle.memory.specs.Cells.{zero_cell}
use Rattle.memory.specs.Rows.{find_placed, find_missing}
use Rattle.memory.proofs.cell_list.CellList.find.Goals as goal

pub returns-in-Some : goal.returns-in-Some
returns-in-Some c =
    let i = c.in-Some.i in
    ap (λ rs. (get_or rs i blank_row).cell) c.as_slice.ensures ∙ sym (find_placed (items c.args.self.now.rows) (c.args.address % 16) i c.in-Some.ensures)

pub returns-in-None : goal.returns-in-None
returns-in-None c =
    let zero : c.default.result ≡ zero_cell = λ i. record { value = c.default.ensures.0 i; mark = c.default.ensures.1 i } in
    zero ∙ sym (find_missing (items c.args.self.now.rows) (c.args.address % 16) c.in-None.ensures)
