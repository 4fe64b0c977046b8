-- The bytes of steps state these steps, four bytes a step.
use Rattle.std.proofs.Common.{◌≡◌, ◌*◌, List, [], ◌∷◌, length, Some, refl, ap}
use Rattle.std.specs.Option.{option_map}
use Rattle.machine.specs.declared.step.Step.{Step}
use Rattle.witness.proofs.Joined.{length_joined}
use Rattle.runs.specs.StepBytes.{steps_of}
use Rattle.completeness.specs.StepsFor.{bytes_of_steps}
use Rattle.machine.specs.Bytes.{step_bytes}

pub steps_back : (sts : List Step) → steps_of (bytes_of_steps sts) ≡ Some sts
unfolding steps_of
steps_back [] = refl
steps_back (st ∷ sts) = ap (option_map (λ more. st ∷ more)) (steps_back sts)

pub four_bytes_a_step : (sts : List Step) → length (bytes_of_steps sts) ≡ 4 * length sts
four_bytes_a_step = length_joined step_bytes 4 (λ x. refl)
