use Rattle.machine.proofs.StartCells.{Started}
use Rattle.machine.proofs.open.methods.write_start.Given as goal

abbrev pub invariant-loop-address : goal.invariant-loop-address
invariant-loop-address g l = Started (g.M.Memory.cells l.memory) l.start l.address
