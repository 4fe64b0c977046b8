-- What the types of the code stand for.
use Rattle.std.specs.Prelude.{ℕ, ⊤, List, Ok, Err, Result, slice_index}
use Rattle.fields.specs.Refusals.{refusal_number}
use Rattle.checker.specs.Views.{axiom_number}
use Rattle.machine.specs.Fires.{step}
use Rattle.machine.specs.declared.step.Step.{Step}
use Rattle.marking.specs.declared.answer.Answer.{Answer}
use Rattle.marking.specs.declared.answer.Answer.TheVariants as answer
use Rattle.marking.specs.declared.fault.Fault.{Fault}
use Rattle.marking.specs.declared.fault.Fault.TheVariants as fault
use Rattle.marking.specs.Earned.{Given, steps, witness, Earned, accepted, fails, unfinished, refused, unreadable}

-- The answer that was handed in.
abbrev pub given_of : Answer → Given
given_of (answer.Steps b) = steps b.now
given_of (answer.Witness b) = witness b.now

-- The mark of an answer with a fault.
abbrev pub earned_by : Fault → Earned
earned_by (fault.Fails a) = fails (axiom_number a)
earned_by fault.Unfinished = unfinished
earned_by (fault.Refused e) = refused (refusal_number e)
earned_by fault.Unreadable = unreadable

-- The mark that a result is.
abbrev pub earned_of : Result ⊤ Fault → Earned
earned_of (Ok _) = accepted
earned_of (Err f) = earned_by f

-- The step that four bytes state.
abbrev pub step_stated : List ℕ → Step
step_stated b = step (slice_index b 0) (slice_index b 1) (slice_index b 2) (slice_index b 3)
