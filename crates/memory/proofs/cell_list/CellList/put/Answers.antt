use Rattle.std.proofs.Common.{◌≡◌, ◌%◌, sym, ◌∙◌, arith}
use Rattle.bounded.specs.Items.{items}
use Rattle.memory.specs.CellList.{put}
use Rattle.memory.specs.Rows.{put_placed, once_put}
use Rattle.memory.proofs.Room.{push_is_put}
use Rattle.memory.proofs.cell_list.CellList.put.Goals as goal
use Rattle.memory.proofs.cell_list.CellList.put.Goals.{After-set, After-push}

-- The rows after a row was replaced.
replaced : (c : After-set) → items c.set.new.self ≡ put (items c.args.self.now.rows) (c.args.address % 16) c.args.cell
replaced c = c.set.ensures.items ∙ sym (put_placed (items c.args.self.now.rows) (c.args.address % 16) c.in-Some.i c.args.cell c.in-Some.ensures)

-- The rows after a row was added.
added : (c : After-push) → items c.push.new.self ≡ put (items c.args.self.now.rows) (c.args.address % 16) c.args.cell
added c = c.push.ensures.items ∙ push_is_put (items c.args.self.now.rows) (c.args.address % 16) c.args.cell c.args.self.now.apart c.in-None.ensures (omega arith)

pub returns-in-Some : goal.returns-in-Some
returns-in-Some c = replaced (goal.at.returns-in-Some c).After-set

pub returns-in-None : goal.returns-in-None
returns-in-None c = added (goal.at.returns-in-None c).After-push

pub invariant_of-self : goal.invariant_of-self
invariant_of-self c =
    let s = c.args.self.now in
    record { apart = rw (replaced c) (once_put (items s.rows) (c.args.address % 16) c.args.cell s.apart (omega arith)) }

pub invariant_of-self-in-None : goal.invariant_of-self-in-None
invariant_of-self-in-None c =
    let s = c.args.self.now in
    record { apart = rw (added c) (once_put (items s.rows) (c.args.address % 16) c.args.cell s.apart (omega arith)) }
