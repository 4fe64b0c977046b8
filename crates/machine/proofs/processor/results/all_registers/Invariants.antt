use Rattle.std.proofs.Common.{◌≡◌, map, take}
use Rattle.bounded.specs.Items.{items}
use Rattle.machine.specs.Results.{registers_of}
use Rattle.machine.specs.Views.{core_of, row_values}
use Rattle.machine.proofs.processor.results.all_registers.Given as goal

abbrev pub invariant-loop-row : goal.invariant-loop-row
invariant-loop-row l = map row_values (items l.all) ≡ take 4 (map registers_of (map core_of (take l.row-index l.rows)))
