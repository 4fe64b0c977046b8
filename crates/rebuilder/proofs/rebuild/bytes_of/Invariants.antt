-- The steps that are left give the rest of the bytes.
use Rattle.std.proofs.Common.{◌≡◌, ◌++◌, take, drop}
use Rattle.bounded.specs.Items.{items}
use Rattle.completeness.specs.StepsFor.{bytes_of_steps}
use Rattle.rebuilder.proofs.rebuild.bytes_of.Given as goal

abbrev pub invariant-loop-step : goal.invariant-loop-step
invariant-loop-step l = take 1024 (items l.bytes ++ bytes_of_steps (drop l.step-index l.steps)) ≡ take 1024 (bytes_of_steps l.steps)
