-- The promise in the course's own terms.
use Rattle.std.specs.Prelude.{◌≡◌, ℕ, ◌<◌, true, List, Some, Ok}
use Rattle.std.specs.List.{AllByRecursion}
use Rattle.question.specs.Litmus.{Litmus}
use Rattle.witness.specs.Bytes.{bytes_of}
use Rattle.witness.specs.Execution.{Execution}
use Rattle.witness.specs.Read.{witness_of}
use Rattle.machine.specs.declared.step.Step.{Step}
use Rattle.runs.specs.StepBytes.{steps_of}
use Rattle.completeness.specs.StepsFor.{steps_for, bytes_of_steps}
use Rattle.marking.specs.Earned.{steps, witness, accepted, earned, run_of}

-- A step list that finishes is accepted, and so is its witness; the steps rebuilt from the bytes of an accepted witness are accepted, finish, and give these bytes again.
pub record MarksAgree (q : Litmus) : Type 0 where
  pub finished_accepted : (b : List ℕ) (sts : List Step) → steps_of b ≡ Some sts → (run_of q sts).finished ≡ true → earned q (steps b) ≡ accepted
  pub of_steps : (b : List ℕ) (sts : List Step) → steps_of b ≡ Some sts → (run_of q sts).finished ≡ true →
      earned q (steps b) ≡ earned q (witness (bytes_of (run_of q sts).execution))
  pub of_witness : (b : List ℕ) → AllByRecursion (λ x. x < 256) b → (w : Execution) → witness_of b ≡ Ok w → earned q (witness b) ≡ accepted →
      earned q (steps (bytes_of_steps (steps_for q w))) ≡ accepted
  pub back_again : (b : List ℕ) → AllByRecursion (λ x. x < 256) b → (w : Execution) → witness_of b ≡ Ok w → earned q (witness b) ≡ accepted →
      bytes_of (run_of q (steps_for q w)).execution ≡ b
