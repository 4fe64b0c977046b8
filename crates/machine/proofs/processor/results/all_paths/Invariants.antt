use Rattle.std.proofs.Common.{◌≡◌, map, take}
use Rattle.bounded.specs.Items.{items}
use Rattle.machine.specs.Results.{core_path}
use Rattle.machine.specs.Views.{core_of}
use Rattle.machine.proofs.processor.results.all_paths.Given as goal

abbrev pub invariant-loop-row : goal.invariant-loop-row
invariant-loop-row l = map items (items l.all) ≡ take 4 (map core_path (map core_of (take l.row-index l.rows)))
