-- Runs worked through by hand, as statements about the definitions.
use Rattle.std.specs.Prelude.{◌≡◌, ℕ, true, List, [], ◌∷◌, ◌++◌, replicate, None, Ok, Err, Result}
use Rattle.fields.specs.declared.refusal.Refusal.{Refusal}
use Rattle.fields.specs.declared.refusal.Refusal.TheVariants.{BufferFull}
use Rattle.instructions.specs.declared.instruction.Instruction.{Instruction}
use Rattle.instructions.specs.declared.instruction.Instruction.TheVariants.{Store, Load, Branch}
use Rattle.question.specs.Cells.{zeros}
use Rattle.question.specs.Litmus.{Litmus}
use Rattle.witness.specs.Bytes.{bytes_of}
use Rattle.machine.specs.declared.step.Step.{Step}
use Rattle.machine.specs.Fires.{entry}
use Rattle.machine.specs.Results.{closed, register_answer}
use Rattle.machine.specs.State.{State, started}
use Rattle.machine.specs.Steps.{answer, step_outcome, run_all, after}

-- A step of a rule, a processor, a position and a guess.
abbrev step : ℕ → ℕ → ℕ → ℕ → Step
step rule p i g = record { rule = rule; processor = p; position = i; guess = g }

-- The question with one processor and cells that start at 0.
abbrev single : List Instruction → Litmus
single is = record { start = zeros; code = is ∷ [] }

-- What each step of a list answers.
abbrev answers : Litmus → State → List Step → List (Result ℕ Refusal)
answers q s [] = []
answers q s (st ∷ sts) = answer (step_outcome q s st) ∷ answers q (after s (step_outcome q s st)) sts

-- Store 5 to cell 1, then load it into register 0.
abbrev store_then_load : Litmus
store_then_load = single (Store None None 1 5 ∷ Load 0 None 1 ∷ [])

-- Both fetches, the store's data and address, the load's address, the load, the store.
abbrev seven_steps : List Step
seven_steps = step 1 0 0 0 ∷ step 1 0 0 0 ∷ step 6 0 0 0 ∷ step 8 0 0 0 ∷ step 8 0 1 0 ∷ step 5 0 1 0 ∷ step 7 0 0 0 ∷ []

-- The load takes the store's 5 before the store reaches the memory; the run finishes with these witness bytes.
abbrev pub StoreThenLoadReadsTheStore : Type 0
StoreThenLoadReadsTheStore =
    let c = closed store_then_load (run_all store_then_load (started store_then_load) seven_steps) in
    (c.finished ≡ true)
    × (register_answer c 0 0 ≡ Ok 5)
    × (bytes_of c.execution ≡ 69 ∷ 0 ∷ 2 ∷ 0 ∷ 1 ∷ 82 ∷ 0 ∷ 4 ∷ 0 ∷ 0 ∷ 0 ∷ 5 ∷ 77 ∷ 0 ∷ 4 ∷ 0 ∷ 1 ∷ 0 ∷ 0 ∷ [])

-- Both fetches, the load's address, the load.
abbrev early_steps : List Step
early_steps = step 1 0 0 0 ∷ step 1 0 0 0 ∷ step 8 0 1 0 ∷ step 5 0 1 0 ∷ []

-- A load done before the older store's address is known reads 0, and is removed when that address turns out to be its own.
abbrev pub EarlyLoadIsRemoved : Type 0
EarlyLoadIsRemoved =
    let s = run_all store_then_load (started store_then_load) early_steps in
    ((entry s 0 1).done ≡ true)
    × ((entry s 0 1).value ≡ 0)
    × (answer (step_outcome store_then_load s (step 8 0 0 0)) ≡ Ok 1)

-- A question without instructions closes finished at once.
abbrev pub EmptyQuestionFinishesAtOnce : Type 0
EmptyQuestionFinishesAtOnce =
    let c = closed (single []) (started (single [])) in
    (c.finished ≡ true) × (bytes_of c.execution ≡ 69 ∷ 0 ∷ 0 ∷ 82 ∷ 0 ∷ 0 ∷ 77 ∷ 0 ∷ 0 ∷ [])

-- A branch to itself, taken each time.
abbrev loop : Litmus
loop = single (Branch None 0 0 ∷ [])

-- With guess 1 each time, sixteen fetches go and the seventeenth finds the buffer full.
abbrev pub SeventeenthFetchIsRefused : Type 0
SeventeenthFetchIsRefused = answers loop (started loop) (replicate 17 (step 1 0 0 1)) ≡ replicate 16 (Ok 0) ++ Err BufferFull ∷ []

-- Cell 1 starts at 7; a load from address 17 reads it.
abbrev stray : Litmus
stray = record { start = 0 ∷ 7 ∷ replicate 14 0; code = (Load 0 None 17 ∷ []) ∷ [] }

-- An address is reduced modulo 16.
abbrev pub Address17IsCell1 : Type 0
Address17IsCell1 =
    register_answer (closed stray (run_all stray (started stray) (step 1 0 0 0 ∷ step 8 0 0 0 ∷ step 5 0 0 0 ∷ []))) 0 0 ≡ Ok 7
