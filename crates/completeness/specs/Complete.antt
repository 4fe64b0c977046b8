-- Every witness of which the axioms of GAM hold is rebuilt, and its steps run to it.
use Rattle.std.specs.Prelude.{◌≡◌, ◌≤◌, true, List, length, replicate, Ok}
use Rattle.question.specs.Litmus.{Litmus}
use Rattle.witness.specs.Execution.{Execution, Within}
use Rattle.ordering.specs.Rules.{gam}
use Rattle.ordering.specs.Tests.{gam_keeps}
use Rattle.checker.specs.Axioms.{Axioms}
use Rattle.checker.specs.Verdict.{verdict}
use Rattle.machine.specs.Results.{closed}
use Rattle.machine.specs.State.{started}
use Rattle.machine.specs.Steps.{run_all}
use Rattle.machine.specs.declared.step.Step.{Step}
use Rattle.reachable.specs.Checked.{Checked}
use Rattle.runs.specs.Records.{answers}
use Rattle.completeness.specs.Rebuilds.{Rebuilds}
use Rattle.completeness.specs.StepsFor.{steps_for}

-- What a rebuilt witness gives: an accepting verdict, the rebuilt steps and no others, few of them, all accepted with nothing removed, and a finished run with this witness.
pub record Rebuilt (q : Litmus) (w : Execution) : Type 0 where
  pub accepted : verdict gam_keeps q w ≡ 0
  pub rebuilds : Rebuilds q w (steps_for q w)
  pub only : (steps : List Step) → Rebuilds q w steps → steps ≡ steps_for q w
  pub few : length (steps_for q w) ≤ 256
  pub answered : answers q (started q) (steps_for q w) ≡ replicate (length (steps_for q w)) (Ok 0)
  pub finished : (closed q (run_all q (started q) (steps_for q w))).finished ≡ true
  pub same : (closed q (run_all q (started q) (steps_for q w))).execution ≡ w

-- Of every checked question and every witness within the bounds.
abbrev pub AcceptedWitnessesAreRebuilt : Type 0
AcceptedWitnessesAreRebuilt = (q : Litmus) → Checked q → (w : Execution) → Within w → Axioms gam q w → Rebuilt q w
