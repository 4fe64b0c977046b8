-- Lists of steps as bytes.
use Rattle.std.specs.Prelude.{ℕ, List, [], ◌∷◌, Some, None, Option}
use Rattle.std.specs.Option.{option_map}
use Rattle.machine.specs.Fires.{step}
use Rattle.machine.specs.declared.step.Step.{Step}

-- The steps that bytes state, four bytes a step; none where a part of a step is left over.
unfoldable pub steps_of : List ℕ → Option (List Step)
steps_of [] = Some []
steps_of (rule ∷ []) = None
steps_of (rule ∷ p ∷ []) = None
steps_of (rule ∷ p ∷ i ∷ []) = None
steps_of (rule ∷ p ∷ i ∷ guess ∷ rest) = option_map (λ more. step rule p i guess ∷ more) (steps_of rest)
