use Rattle.std.proofs.Common.{◌≡◌, map, take}
use Rattle.bounded.specs.Items.{items}
use Rattle.machine.proofs.processor.Processor.path.Given as goal

abbrev pub invariant-loop-entry : goal.invariant-loop-entry
invariant-loop-entry l = items l.path ≡ take 16 (map (λ e. e.place) (take l.entry-index (items l.self.entries)))
