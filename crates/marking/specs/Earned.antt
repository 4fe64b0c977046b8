-- What an answer to a question earns.
use Rattle.std.specs.Prelude.{ℕ, zero, suc, cond, List, Some, None, Ok, Err, Option, Result}
use Rattle.fields.specs.Refusals.{refusal_number}
use Rattle.fields.specs.declared.refusal.Refusal.{Refusal}
use Rattle.question.specs.Litmus.{Litmus}
use Rattle.witness.specs.Execution.{Execution}
use Rattle.witness.specs.Read.{witness_of}
use Rattle.ordering.specs.Tests.{gam_keeps}
use Rattle.checker.specs.Verdict.{verdict}
use Rattle.machine.specs.Results.{Closed, closed}
use Rattle.machine.specs.State.{started}
use Rattle.machine.specs.Steps.{run_all}
use Rattle.machine.specs.declared.step.Step.{Step}
use Rattle.runs.specs.StepBytes.{steps_of}

-- An answer: the bytes of a step list, or the bytes of a witness.
pub data Given : Type 0 where
  steps : List ℕ → Given
  witness : List ℕ → Given

-- The mark: accepted; the number of the first axiom that fails; a run that did not finish; a witness refused with a number; steps that end inside of a step.
pub data Earned : Type 0 where
  accepted : Earned
  fails : ℕ → Earned
  unfinished : Earned
  refused : ℕ → Earned
  unreadable : Earned

-- Each case has its number.
abbrev pub case_number : Earned → ℕ
case_number accepted = 0
case_number (fails n) = 1
case_number unfinished = 2
case_number (refused n) = 3
case_number unreadable = 4

-- The number that comes with a case: the verdict, the refusal of results of an unfinished run, the refusal of the reader.
abbrev pub detail_number : Earned → ℕ
detail_number accepted = 0
detail_number (fails n) = n
detail_number unfinished = 15
detail_number (refused n) = n
detail_number unreadable = 0

-- What a verdict earns.
abbrev pub by_verdict : ℕ → Earned
by_verdict zero = accepted
by_verdict (suc n) = fails (suc n)

module _ (q : Litmus) where
  -- The closed run of a list of steps, refused ones counting as none.
  abbrev pub run_of : List Step → Closed
  run_of sts = closed q (run_all q (started q) sts)

  -- What a closed run earns: what its witness earns, if it finished.
  abbrev pub by_run : Closed → Earned
  by_run c = cond c.finished (by_verdict (verdict gam_keeps q c.execution)) unfinished

  -- What steps earn, if they can be read.
  abbrev pub by_steps : Option (List Step) → Earned
  by_steps None = unreadable
  by_steps (Some sts) = by_run (run_of sts)

  -- What a witness earns, if it can be read.
  abbrev pub by_witness : Result Execution Refusal → Earned
  by_witness (Err e) = refused (refusal_number e)
  by_witness (Ok w) = by_verdict (verdict gam_keeps q w)

  -- What an answer earns.
  abbrev pub earned : Given → Earned
  earned (steps b) = by_steps (steps_of b)
  earned (witness b) = by_witness (witness_of b)
