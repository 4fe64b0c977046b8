use Rattle.reachable.proofs.Runs.{fires_keeps, every_reachable_state_keeps_the_invariant}
use Rattle.reachable.proofs.Starts.{started_keeps}
use Rattle.reachable.proofs.every_reachable_state_keeps_the_invariant.Goals as goal

pub returns : goal.returns
returns c = record { start = started_keeps; rules = fires_keeps; runs = every_reachable_state_keeps_the_invariant }
