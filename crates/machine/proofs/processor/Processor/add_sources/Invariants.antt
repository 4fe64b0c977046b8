use Rattle.std.proofs.Common.{◌≡◌, ◌++◌, take}
use Rattle.std.specs.List.{flat_map}
use Rattle.bounded.specs.Items.{items}
use Rattle.machine.specs.Results.{entry_sources}
use Rattle.machine.proofs.processor.Processor.add_sources.Given as goal

abbrev pub invariant-loop-entry : goal.invariant-loop-entry
invariant-loop-entry l = items l.sources ≡ take 64 (items l.initial.sources ++ flat_map entry_sources (take l.entry-index (items l.self.entries)))
