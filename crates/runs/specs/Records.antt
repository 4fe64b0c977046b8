-- What a whole run gives: the answer to each step, and the results if it is finished.
use Rattle.std.specs.Prelude.{◌≡◌, ℕ, ◌/◌, ◌%◌, cond, List, [], ◌∷◌, Some, None, Ok, Err, vec_items, Option, Result}
use Rattle.std.specs.List.{range_with_len, flat_map}
use Rattle.std.specs.Option.{option_map}
use Rattle.fields.specs.declared.refusal.Refusal.{Refusal}
use Rattle.memory.specs.declared.cell.Cell.{Cell}
use Rattle.question.specs.Litmus.{Litmus}
use Rattle.witness.specs.Bytes.{bytes_of}
use Rattle.machine.specs.Results.{Closed, closed, register_answer, cell_answer}
use Rattle.machine.specs.State.{State, started}
use Rattle.machine.specs.Steps.{answer, after, step_outcome, run_all}
use Rattle.machine.specs.declared.step.Step.{Step}
use Rattle.runs.specs.declared.record.Record.{Record}
use Rattle.runs.specs.declared.record.Results.{Results}

-- What each step of a list answers, each in the state that those before it left.
unfoldable pub answers : Litmus → State → List Step → List (Result ℕ Refusal)
answers q s [] = []
answers q s (st ∷ sts) = answer (step_outcome q s st) ∷ answers q (after s (step_outcome q s st)) sts

-- The value of an answer, if it is not refused.
abbrev pub given : {A : Type 0} → Result A Refusal → List A
given (Ok x) = x ∷ []
given (Err e) = []

-- The results of a finished run: registers by processor, all cells, the bytes of the witness.
pub record Shown : Type 0 where
  pub registers : List ℕ
  pub cells : List Cell
  pub witness : List ℕ

-- The registers that there are of up to four processors, eight a processor.
unfoldable pub shown_registers : Closed → ℕ → List ℕ
shown_registers c n = flat_map (λ k. given (register_answer c (k / 8) (k % 8))) (range_with_len 0 n)

-- The cells from address 0 on.
unfoldable pub shown_cells : Closed → ℕ → List Cell
shown_cells c n = flat_map (λ a. given (cell_answer c a)) (range_with_len 0 n)

-- What a closed run shows.
abbrev pub shown : Closed → Option Shown
shown c =
    cond c.finished (Some (record { registers = shown_registers c 32; cells = shown_cells c 16; witness = bytes_of c.execution })) None

-- The results as the code holds them.
abbrev pub results_of : Results → Shown
results_of r = record { registers = vec_items r.registers; cells = vec_items r.cells; witness = vec_items r.witness }

-- A record is what comes of these steps of the question.
pub record IsRecord (q : Litmus) (steps : List Step) (r : Record) : Type 0 where
  pub answered : vec_items r.answers ≡ answers q (started q) steps
  pub results : option_map results_of r.results ≡ shown (closed q (run_all q (started q) steps))
