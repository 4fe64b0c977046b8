-- What comes of an exam paper: a question, steps and a witness, all as bytes.
use Rattle.std.specs.Prelude.{ℕ, cond, List, [], map, Some, None, Ok, Err, Option, Result, ◌==◌}
use Rattle.fields.specs.Refusals.{refusal_number}
use Rattle.fields.specs.declared.refusal.Refusal.{Refusal}
use Rattle.question.specs.Litmus.{Litmus}
use Rattle.question.specs.Read.{question_of}
use Rattle.rules.specs.declared.entry.Entry.{Entry}
use Rattle.witness.specs.Bytes.{bytes_of}
use Rattle.witness.specs.Execution.{Execution}
use Rattle.witness.specs.Read.{witness_of}
use Rattle.ordering.specs.Tests.{gam_keeps, sc_keeps}
use Rattle.checker.specs.Verdict.{verdict}
use Rattle.machine.specs.Results.{Closed, closed}
use Rattle.machine.specs.State.{Core, started}
use Rattle.machine.specs.Steps.{run_all}
use Rattle.machine.specs.declared.step.Step.{Step}
use Rattle.runs.specs.Records.{answers}
use Rattle.runs.specs.StepBytes.{steps_of}
use Rattle.completeness.specs.StepsFor.{steps_for, bytes_of_steps}
use Rattle.marking.specs.Earned.{Earned, earned}
use Rattle.marking.specs.Earned as given

-- A paper, in bytes.
pub record Paper : Type 0 where
  pub question : List ℕ
  pub steps : List ℕ
  pub witness : List ℕ

-- What a finished run shows: its registers, eight a processor, and the bytes of its witness.
pub record Shown : Type 0 where
  pub registers : List (List ℕ)
  pub witness : List ℕ

-- What a witness that can be read gets: its verdicts under GAM and SC, and the bytes of the steps rebuilt from it if GAM accepts it.
pub record Judged : Type 0 where
  pub gam : ℕ
  pub sc : ℕ
  pub rebuilt : Option (List ℕ)

-- What comes of the steps and the witness: each step's answer, the results of done entries by processor, what a finished run shows, how the witness is judged, and what steps and witness earn.
pub record Sitting : Type 0 where
  pub answers : List (Result ℕ ℕ)
  pub results : List (List (Option ℕ))
  pub shown : Option Shown
  pub judged : Result Judged ℕ
  pub steps_earn : Earned
  pub witness_earns : Earned

-- What comes of a paper: the number of the question's refusal, or the sitting.
pub data Came : Type 0 where
  unread : ℕ → Came
  sat : Sitting → Came

-- A refusal as its number.
abbrev pub numbered : {A : Type 0} → Result A Refusal → Result A ℕ
numbered (Ok x) = Ok x
numbered (Err e) = Err (refusal_number e)

-- The steps that bytes state; none where they end inside of a step.
abbrev pub stated : Option (List Step) → List Step
stated None = []
stated (Some sts) = sts

-- The result of an entry that is done.
abbrev pub result : Entry → Option ℕ
result e = cond e.done (Some e.value) None

-- What a closed run shows, if it is finished.
abbrev pub shows : Closed → Option Shown
shows c = cond c.finished (Some (record { registers = c.registers; witness = bytes_of c.execution })) None

-- How a witness is judged, if it can be read.
abbrev pub judge : Litmus → Result Execution Refusal → Result Judged ℕ
judge q (Err e) = Err (refusal_number e)
judge q (Ok w) =
    let g = verdict gam_keeps q w in
    Ok (record { gam = g; sc = verdict sc_keeps q w; rebuilt = cond (g == 0) (Some (bytes_of_steps (steps_for q w))) None })

-- What comes of the steps and the witness of a question.
abbrev pub sitting : Litmus → Paper → Sitting
sitting q p =
    let sts = stated (steps_of p.steps) in
    let s = run_all q (started q) sts in
    record {
      answers = map numbered (answers q (started q) sts);
      results = map (λ (c : Core). map result c.entries) s.cores;
      shown = shows (closed q s);
      judged = judge q (witness_of p.witness);
      steps_earn = earned q (given.steps p.steps);
      witness_earns = earned q (given.witness p.witness);
    }

-- What comes of a paper whose question reads as this.
abbrev pub by_question : Result Litmus Refusal → Paper → Came
by_question (Err e) p = unread (refusal_number e)
by_question (Ok q) p = sat (sitting q p)

-- What comes of a paper.
abbrev pub came : Paper → Came
came p = by_question (question_of p.question) p
