use Rattle.std.proofs.Common.{◌≡◌, map, take}
use Rattle.std.specs.List.{flat_map}
use Rattle.bounded.specs.Items.{items}
use Rattle.machine.specs.Results.{core_sources}
use Rattle.machine.specs.Views.{core_of}
use Rattle.machine.proofs.processor.results.all_sources.Given as goal

abbrev pub invariant-loop-row : goal.invariant-loop-row
invariant-loop-row l = items l.all ≡ take 64 (flat_map core_sources (map core_of (take l.row-index l.rows)))
