use Rattle.std.proofs.Common.{◌≡◌, ◌≤◌, ◌++◌, length, drop}
use Rattle.bounded.specs.Items.{items}
use Rattle.machine.specs.Steps.{only, stays}
use Rattle.machine.proofs.order.kept.Given as goal

abbrev pub invariant-loop-access : goal.invariant-loop-access
invariant-loop-access l =
    (length (items l.rest) ≤ l.access-index) ×
    (only (stays l.processor l.keep) l.access-items ≡ items l.rest ++ only (stays l.processor l.keep) (drop l.access-index l.access-items))
