-- The cells so far are those below the address, and the run shows the same.
use Rattle.std.proofs.Common.{◌≡◌, vec_items}
use Rattle.machine.specs.Views.{closed_state}
use Rattle.runs.specs.Records.{shown_cells}
use Rattle.runs.proofs.whole.cells.Given as goal

abbrev pub invariant-loop-address : goal.invariant-loop-address
invariant-loop-address g l =
    (vec_items l.cells ≡ shown_cells (closed_state g.M.Memory.cells l.initial.run) l.address)
    × (closed_state g.M.Memory.cells l.run ≡ closed_state g.M.Memory.cells l.initial.run)
