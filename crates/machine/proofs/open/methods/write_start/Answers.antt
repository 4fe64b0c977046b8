use Rattle.std.proofs.Common.{◌+◌, List, sym, subst, arith}
use Rattle.memory.specs.declared.cell.Cell.{Cell}
use Rattle.machine.proofs.StartCells.{Started, started_more, started_all}
use Rattle.machine.proofs.open.methods.write_start.Goals as goal

pub loop-address-preserved : goal.loop-address-preserved
loop-address-preserved g c =
    let cells = g.M.Memory.cells c.loop-address.memory in
    let start = c.args.start.now in
    let i = c.loop-address.address in
    let more = started_more cells start i (g.met.M.Memory.sixteen c.loop-address.memory) (omega arith) c.loop-address.invariant in
    subst (λ (x : List Cell). Started x start (i + 1)) (sym c.write.ensures) more

pub returns : goal.returns
returns g c =
    let cells = g.M.Memory.cells c.loop-address.memory in
    let all : Started cells c.args.start.now 16 = subst (λ i. Started cells c.args.start.now i) (omega arith) c.loop-address.invariant in
    started_all cells c.args.start.now (g.met.M.Memory.sixteen c.loop-address.memory) c.requires all
