-- Soundness: what holds of every finished run.
use Rattle.std.specs.Prelude.{◌≡◌, ℕ, ◌<◌, true, false, List, [], ◌∷◌, length, None, Ok}
use Rattle.instructions.specs.declared.instruction.Instruction.TheVariants.{Branch}
use Rattle.machine.specs.declared.step.Step.{Step}
use Rattle.machine.specs.Results.{closed, register_answer, cell_answer}
use Rattle.machine.specs.State.{State, started}
use Rattle.machine.specs.Steps.{run_all}
use Rattle.question.specs.Litmus.{Litmus}
use Rattle.question.specs.Views.{litmus_of}
use Rattle.question.specs.declared.question.Question.{Question}
use Rattle.witness.specs.Execution.{Execution}
use Rattle.ordering.specs.Rules.{gam}
use Rattle.ordering.specs.Tests.{gam_keeps}
use Rattle.checker.specs.Axioms.{Axioms}
use Rattle.checker.specs.Fixed.{fixed_register, fixed_cell}
use Rattle.checker.specs.Verdict.{verdict}
use Rattle.reachable.specs.Checked.{Checked}

-- The state that these steps lead to from the start, refused ones counting as none.
abbrev pub reached : Litmus → List Step → State
reached q steps = run_all q (started q) steps

-- The witness of the run closed in a state.
abbrev pub witness : Litmus → State → Execution
witness q s = (closed q s).execution

-- Every register is what the witness fixes.
abbrev pub RegistersAsFixed : Litmus → State → Type 0
RegistersAsFixed q s = (p r : ℕ) → p < length q.code → r < 8 → register_answer (closed q s) p r ≡ Ok (fixed_register q (witness q s) p r)

-- Every cell, value and mark, is what the witness fixes.
abbrev pub CellsAsFixed : Litmus → State → Type 0
CellsAsFixed q s = (a : ℕ) → a < 16 → cell_answer (closed q s) a ≡ Ok (fixed_cell q (witness q s) a)

-- The axioms of GAM hold of the witness, the checker accepts it, and it fixes registers and cells as the run has them.
abbrev pub SatisfiesTheAxioms : Litmus → State → Type 0
SatisfiesTheAxioms q s =
    Axioms gam q (witness q s)
    × (verdict gam_keeps q (witness q s) ≡ 0)
    × RegistersAsFixed q s
    × CellsAsFixed q s

-- Whatever the steps, if the run is finished then its witness satisfies the axioms: a run starts alike over every memory.
abbrev pub FinishedRunsSatisfyTheAxioms : Type 0
FinishedRunsSatisfyTheAxioms =
    (q : Litmus) → Checked q → (steps : List Step) → (closed q (reached q steps)).finished ≡ true → SatisfiesTheAxioms q (reached q steps)

-- So it is of every question that was read.
abbrev pub FinishedRunsOfQuestionsSatisfyTheAxioms : Type 0
FinishedRunsOfQuestionsSatisfyTheAxioms =
    (q : Question) (steps : List Step) → (closed (litmus_of q) (reached (litmus_of q) steps)).finished ≡ true → SatisfiesTheAxioms (litmus_of q) (reached (litmus_of q) steps)

-- One branch to itself that is always taken: it compares no register with 0, so it goes to place 0.
abbrev pub branch_to_itself : List ℕ → Litmus
branch_to_itself start = record { start = start; code = (Branch None 0 0 ∷ []) ∷ [] }

-- No run of it finishes, whatever the cells start with.
abbrev pub BranchToItselfNeverFinishes : Type 0
BranchToItselfNeverFinishes =
    (start : List ℕ) → length start ≡ 16 → (steps : List Step) → (closed (branch_to_itself start) (reached (branch_to_itself start) steps)).finished ≡ false
