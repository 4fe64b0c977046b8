-- The steps that rebuild a witness.
use Rattle.std.specs.Prelude.{ℕ, zero, suc, ◌+◌, cond, not, ◌&&◌, List, [], ◌∷◌, ◌++◌, map, length, Some, None, Option, ◌==◌}
use Rattle.std.specs.List.{range_with_len, flat_map}
use Rattle.instructions.specs.Kinds.{loads, branches}
use Rattle.instructions.specs.declared.instruction.Instruction.{Instruction}
use Rattle.question.specs.Litmus.{Litmus}
use Rattle.witness.specs.Execution.{Execution}
use Rattle.witness.specs.declared.record.Access.{Access}
use Rattle.events.specs.declared.event.Event.{Event}
use Rattle.events.specs.Sources.{events}
use Rattle.machine.specs.Bytes.{step_bytes}
use Rattle.machine.specs.Fires.{step, instruction}
use Rattle.machine.specs.State.{State, started}
use Rattle.machine.specs.Steps.{Outcome, refused, went, after, step_outcome, run_all}
use Rattle.machine.specs.declared.step.Step.{Step}

-- The guess that leads where an event leads; 0 where both ways meet.
abbrev pub guess_of : Event → ℕ
guess_of e = cond (branches e.instruction && not (e.next == e.place + 1)) 1 0

-- All fetches, by processor, with the guesses of the paths.
abbrev pub fetches : Litmus → Execution → List Step
fetches q w = flat_map (λ p. map (λ e. step 1 p 0 (guess_of e)) (events q w p)) (range_with_len 0 (length q.code))

-- The rules of local steps: arithmetic, branch, fence, store data, address.
abbrev pub local_rules : List ℕ
local_rules = 2 ∷ 3 ∷ 4 ∷ 6 ∷ 8 ∷ []

-- The local steps of one entry, by rule.
abbrev pub entry_steps : ℕ → ℕ → List Step
entry_steps p i = map (λ r. step r p i 0) local_rules

-- The local steps of n processors, by processor, position and rule.
abbrev pub local_steps : ℕ → List Step
local_steps n = flat_map (λ p. flat_map (entry_steps p) (range_with_len 0 16)) (range_with_len 0 n)

-- A step that was taken, and the state that it led to.
pub record Taken : Type 0 where
  pub step : Step
  pub state : State

-- The step taken, or else the other.
abbrev pub taken_or : Step → Outcome → Option Taken → Option Taken
taken_or st (refused e) other = other
taken_or st (went n t) other = Some (record { step = st; state = t })

-- The first of some steps that is accepted.
unfoldable pub first_accepted : Litmus → State → List Step → Option Taken
first_accepted q s [] = None
first_accepted q s (st ∷ sts) = taken_or st (step_outcome q s st) (first_accepted q s sts)

-- The acceptable local step of lowest processor, position and rule.
abbrev pub lowest : Litmus → State → Option Taken
lowest q s = first_accepted q s (local_steps (length s.cores))

-- Steps, and the state that they lead to.
pub record Made : Type 0 where
  pub steps : List Step
  pub state : State

-- One step more in front.
abbrev pub led_by : Step → Made → Made
led_by st m = record { steps = st ∷ m.steps; state = m.state }

-- The lowest step and what comes after it, or nothing where there is none.
abbrev pub made_from : State → Option Taken → (State → Made) → Made
made_from s None go = record { steps = []; state = s }
made_from s (Some t) go = led_by t.step (go t.state)

-- Local steps until none is left, n at the most.
unfoldable pub settle : Litmus → ℕ → State → Made
settle q zero s = record { steps = []; state = s }
settle q (suc n) s = made_from s (lowest q s) (settle q n)

-- The most steps of a rebuilt list.
abbrev pub most_steps : ℕ
most_steps = 256

-- The rule that carries out an access.
abbrev pub access_rule : Instruction → ℕ
access_rule i = cond (loads i) 5 7

-- The step that carries out an access.
abbrev pub access_step : State → Access → Step
access_step s a = step (access_rule (instruction s a.processor a.position)) a.processor a.position 0

-- Local steps, then each access of the order with local steps after it.
unfoldable pub carry_out : Litmus → List Access → State → Made
carry_out q [] s = settle q most_steps s
carry_out q (a ∷ order) s =
    let before = settle q most_steps s in
    let st = access_step before.state a in
    let rest = carry_out q order (after before.state (step_outcome q before.state st)) in
    record { steps = before.steps ++ st ∷ rest.steps; state = rest.state }

-- The steps for a witness: all fetches, then local steps before each access of the order and after the last.
unfoldable pub steps_for : Litmus → Execution → List Step
steps_for q w = fetches q w ++ (carry_out q w.order (run_all q (started q) (fetches q w))).steps

-- The bytes of steps.
abbrev pub bytes_of_steps : List Step → List ℕ
bytes_of_steps sts = flat_map step_bytes sts
