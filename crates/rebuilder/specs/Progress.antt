-- How far a rebuild is.
use Rattle.std.specs.Prelude.{◌≡◌, ℕ, Bool, is_some, List, [], ◌∷◌, ◌++◌, length, take, Some, None, Option}
use Rattle.question.specs.Litmus.{Litmus}
use Rattle.witness.specs.declared.record.Access.{Access}
use Rattle.machine.specs.State.{State, started}
use Rattle.machine.specs.Steps.{run_all}
use Rattle.machine.specs.declared.step.Step.{Step}
use Rattle.completeness.specs.StepsFor.{Taken, Made, access_step, carry_out, first_accepted, local_steps, most_steps, settle}

-- The question of a rebuild, the steps that it took, the first 256 where there are more, and the state that they led to.
pub record Progress : Type 0 where
  pub question : Litmus
  pub steps : List Step
  pub state : State

-- Before the first step.
unfoldable pub begun : Litmus → Progress
begun q = record { question = q; steps = []; state = started q }

-- How many processors there are.
unfoldable pub processors_of : Progress → ℕ
processors_of p = length p.question.code

-- More steps, and the state that they led to.
unfoldable pub goes_on : Progress → Made → Progress
goes_on p m = record { question = p.question; steps = take most_steps (p.steps ++ m.steps); state = m.state }

-- A step that was taken, if one was.
unfoldable pub takes : Progress → Option Taken → Progress
takes p None = p
takes p (Some t) = goes_on p (record { steps = t.step ∷ []; state = t.state })

-- Steps one after the other, whether they are accepted or refused.
unfoldable pub runs : Progress → List Step → Progress
runs p sts = goes_on p (record { steps = sts; state = run_all p.question p.state sts })

-- The first of some steps that is accepted.
unfoldable pub first_of : Progress → List Step → Option Taken
first_of p sts = first_accepted p.question p.state sts

-- A rebuild took the first of some steps that is accepted, and found says whether there is one.
pub record TakesFirst (p : Progress) (sts : List Step) (found : Bool) (u : Progress) : Type 0 where
  pub if_accepted : found ≡ is_some (first_of p sts)
  pub progress : u ≡ takes p (first_of p sts)

-- The local steps of all processors, the lowest processor, position and rule first.
unfoldable pub lowest_first : Progress → List Step
lowest_first p = local_steps (length p.state.cores)

-- Local steps until none is left.
unfoldable pub settled : Progress → Progress
settled p = goes_on p (settle p.question most_steps p.state)

-- The step that carries out an access.
unfoldable pub accessed : Progress → Access → Progress
accessed p a = runs p (access_step p.state a ∷ [])

-- Local steps before each access of an order and after the last, and the steps that carry them out.
unfoldable pub carried : Progress → List Access → Progress
carried p order = goes_on p (carry_out p.question order p.state)
