-- The rules as a relation: guard and action of each, after Figure 17 of "Constructing a Weak Memory Model" with fixed sizes.
use Rattle.std.specs.Prelude.{◌≡◌, ℕ, ◌+◌, ◌-◌, ◌<◌, Bool, true, false, ◌↔◌, List, length, is_some, Some, None, Option, ◌≢◌}
use Rattle.instructions.specs.declared.instruction.AccessType.{AccessType}
use Rattle.instructions.specs.declared.instruction.AccessType.TheVariants as access_type
use Rattle.instructions.specs.declared.instruction.Instruction.{Instruction}
use Rattle.instructions.specs.Effects.{arithmetic_result, address_sum, data_sum, next_place, guessed_place}
use Rattle.instructions.specs.Kinds.{loads, stores, access, computes, branches, fences, of_type, fence_from, fence_to, first_operand, second_operand, writes}
use Rattle.memory.specs.Cells.{cell_at}
use Rattle.memory.specs.declared.cell.Mark.TheVariants as mark
use Rattle.question.specs.Litmus.{Litmus, code_at, instruction_at}
use Rattle.rules.specs.Changes.{only, load_change}
use Rattle.rules.specs.Entries.{at, fresh, done_with, turned, addressed, supplied}
use Rattle.rules.specs.Tests.{same_cell}
use Rattle.rules.specs.declared.change.Effect.TheVariants.{Local, Stored}
use Rattle.rules.specs.declared.entry.Entry.{Entry}
use Rattle.machine.specs.declared.step.Step.{Step}
use Rattle.machine.specs.State.{State, core_at}
use Rattle.machine.specs.Steps.{with_core, core_fetched, changed, step_outcome, went}

-- The buffer of processor p.
abbrev pub buffer : State → ℕ → List Entry
buffer s p = (core_at s p).entries

-- The entry at position i of processor p, and its instruction.
abbrev pub entry : State → ℕ → ℕ → Entry
entry s p i = at (buffer s p) i

abbrev pub instruction : State → ℕ → ℕ → Instruction
instruction s p i = (entry s p i).instruction

-- There is an entry at position i of processor p.
abbrev pub Stands : State → ℕ → ℕ → Type 0
Stands s p i = (p < length s.cores) × (i < length (buffer s p))

-- Every older entry has a property.
abbrev pub Older : State → ℕ → ℕ → (Entry → Type 0) → Type 0
Older s p i P = (j : ℕ) → j < i → P (entry s p j)

-- The operand of the entry at i is ready with a value: it is absent, or nothing older writes it, or its nearest older writer is done.
pub data Ready (s : State) (p i : ℕ) : Option ℕ → ℕ → Type 0 where
  absent : Ready s p i None 0
  unwritten : (r : ℕ) → Older s p i (λ e. writes e.instruction r ≡ false) → Ready s p i (Some r) 0
  from_writer : (r j : ℕ) → j < i → writes (instruction s p j) r ≡ true → ((k : ℕ) → j < k → k < i → writes (instruction s p k) r ≡ false) →
      (entry s p j).done ≡ true → Ready s p i (Some r) (entry s p j).value

-- An access to the cell of address a that is not done.
abbrev pub OpenTo : ℕ → Entry → Type 0
OpenTo a e = (access e.instruction ≡ true) × (e.done ≡ false) × (same_cell a e.address ≡ true)

-- j is the nearest older access to the cell that is not done.
pub record NearestOpen (s : State) (p i a j : ℕ) : Type 0 where
  pub older : j < i
  pub open_to_cell : OpenTo a (entry s p j)
  pub none_between : (k : ℕ) → j < k → k < i → OpenTo a (entry s p k) → ⊥

-- m is the first younger access to the cell of address a.
pub record FirstYounger (s : State) (p i a m : ℕ) : Type 0 where
  pub younger : i < m
  pub within : m < length (buffer s p)
  pub accesses : access (instruction s p m) ≡ true
  pub same : same_cell a (entry s p m).address ≡ true
  pub none_between : (k : ℕ) → i < k → k < m → access (instruction s p k) ≡ true → same_cell a (entry s p k).address ≢ true

-- A step by its rule's number.
abbrev pub step : ℕ → ℕ → ℕ → ℕ → Step
step rule p i g = record { rule = rule; processor = p; position = i; guess = g }

-- The entry that a fetch of processor p adds.
abbrev pub fetched_entry : Litmus → State → ℕ → Bool → Entry
fetched_entry q s p taken =
    let i = instruction_at (code_at q p) (core_at s p).counter in
    fresh (core_at s p).counter i (guessed_place i (core_at s p).counter taken)

-- Rule, guard and action: the step goes, removes so many entries and leads to that state.
pub data Fires (q : Litmus) (s : State) : Step → ℕ → State → Type 0 where
  -- 1, a branch taken by guess 1: not at the end and with room.
  fetch_taken : (p : ℕ) → p < length s.cores → (core_at s p).counter < length (code_at q p) → length (buffer s p) < 16 →
      branches (instruction_at (code_at q p) (core_at s p).counter) ≡ true →
      Fires q s (step 1 p 0 1) 0 (with_core s p (core_fetched (core_at s p) (fetched_entry q s p true)))
  -- 1, anything by guess 0: not at the end and with room.
  fetch : (p : ℕ) → p < length s.cores → (core_at s p).counter < length (code_at q p) → length (buffer s p) < 16 →
      Fires q s (step 1 p 0 0) 0 (with_core s p (core_fetched (core_at s p) (fetched_entry q s p false)))
  -- 2: the operands are ready; the result, done.
  arithmetic : (p i x y : ℕ) → Stands s p i → computes (instruction s p i) ≡ true → (entry s p i).done ≡ false →
      Ready s p i (first_operand (instruction s p i)) x → Ready s p i (second_operand (instruction s p i)) y →
      Fires q s (step 2 p i 0) 0 (changed s p i (only (done_with (entry s p i) (arithmetic_result (instruction s p i) x y))))
  -- 3, the guess was right: the operand is ready; done.
  branch_as_guessed : (p i x : ℕ) → Stands s p i → branches (instruction s p i) ≡ true → (entry s p i).done ≡ false →
      Ready s p i (first_operand (instruction s p i)) x → (entry s p i).next ≡ next_place (instruction s p i) (entry s p i).place x →
      Fires q s (step 3 p i 0) 0 (changed s p i (only (turned (entry s p i) (next_place (instruction s p i) (entry s p i).place x))))
  -- 3, the guess was wrong: done, all younger entries go, and the counter is set to the true next place.
  branch_otherwise : (p i x : ℕ) → Stands s p i → branches (instruction s p i) ≡ true → (entry s p i).done ≡ false →
      Ready s p i (first_operand (instruction s p i)) x → ((entry s p i).next ≢ next_place (instruction s p i) (entry s p i).place x) →
      Fires q s (step 3 p i 0) (length (buffer s p) - (i + 1)) (changed s p i (record {
        entry = turned (entry s p i) (next_place (instruction s p i) (entry s p i).place x);
        cut = Some (record { keep = i + 1; counter = next_place (instruction s p i) (entry s p i).place x });
        effect = Local;
      }))
  -- 4: all older accesses of the fence's first type are done; done.
  fence : (p i : ℕ) → Stands s p i → fences (instruction s p i) ≡ true → (entry s p i).done ≡ false →
      ((t : AccessType) → fence_from t (instruction s p i) ≡ true → Older s p i (λ e. of_type t e.instruction ≡ true → e.done ≡ true)) →
      Fires q s (step 4 p i 0) 0 (changed s p i (only (done_with (entry s p i) (entry s p i).value)))
  -- 5, from an older store that is not done: all older fences that loads come after are done, and the nearest older access to the cell that is not done is a store with data.
  load_forwarded : (p i a j v : ℕ) → Stands s p i → loads (instruction s p i) ≡ true → (entry s p i).done ≡ false → (entry s p i).address ≡ Some a →
      Older s p i (λ e. fence_to access_type.Load e.instruction ≡ true → e.done ≡ true) →
      NearestOpen s p i a j → stores (instruction s p j) ≡ true → (entry s p j).datum ≡ Some v →
      Fires q s (step 5 p i 0) 0 (changed s p i (load_change (entry s p i) v (mark.Store p j)))
  -- 5, from the memory: all older fences that loads come after are done, and no older access to the cell is not done.
  load_from_memory : (p i a : ℕ) → Stands s p i → loads (instruction s p i) ≡ true → (entry s p i).done ≡ false → (entry s p i).address ≡ Some a →
      Older s p i (λ e. fence_to access_type.Load e.instruction ≡ true → e.done ≡ true) →
      Older s p i (λ e. OpenTo a e → ⊥) →
      Fires q s (step 5 p i 0) 0 (changed s p i (load_change (entry s p i) (cell_at s.cells a).value (cell_at s.cells a).mark))
  -- 6: the second operand is ready; the data are available.
  store_data : (p i y : ℕ) → Stands s p i → stores (instruction s p i) ≡ true → is_some (entry s p i).datum ≡ false →
      Ready s p i (second_operand (instruction s p i)) y →
      Fires q s (step 6 p i 0) 0 (changed s p i (only (supplied (entry s p i) (data_sum (instruction s p i) y))))
  -- 7: address and data are available, all older branches are done, all older accesses have addresses, those to the same cell are done, and so are all older fences that stores come after; done, and the cell is written.
  store : (p i a d : ℕ) → Stands s p i → stores (instruction s p i) ≡ true → (entry s p i).done ≡ false → (entry s p i).address ≡ Some a → (entry s p i).datum ≡ Some d →
      Older s p i (λ e. branches e.instruction ≡ true → e.done ≡ true) →
      Older s p i (λ e. access e.instruction ≡ true → is_some e.address ≡ true) →
      Older s p i (λ e. OpenTo a e → ⊥) →
      Older s p i (λ e. fence_to access_type.Store e.instruction ≡ true → e.done ≡ true) →
      Fires q s (step 7 p i 0) 0 (changed s p i (record {
        entry = done_with (entry s p i) (entry s p i).value;
        cut = None;
        effect = Stored a (record { value = d; mark = mark.Store p i });
      }))
  -- 8, nothing goes: the first operand is ready; the address is available, and the first younger access to the cell, if there is one, is not a done load.
  address : (p i x : ℕ) → Stands s p i → access (instruction s p i) ≡ true → is_some (entry s p i).address ≡ false →
      Ready s p i (first_operand (instruction s p i)) x →
      ((m : ℕ) → FirstYounger s p i (address_sum (instruction s p i) x) m → loads (instruction s p m) ≡ true → (entry s p m).done ≢ true) →
      Fires q s (step 8 p i 0) 0 (changed s p i (only (addressed (entry s p i) (address_sum (instruction s p i) x))))
  -- 8, the first younger access to the cell is a done load: it and all younger entries go, and the counter is set to its place.
  address_removes : (p i x m : ℕ) → Stands s p i → access (instruction s p i) ≡ true → is_some (entry s p i).address ≡ false →
      Ready s p i (first_operand (instruction s p i)) x →
      FirstYounger s p i (address_sum (instruction s p i) x) m → loads (instruction s p m) ≡ true → (entry s p m).done ≡ true →
      Fires q s (step 8 p i 0) (length (buffer s p) - m) (changed s p i (record {
        entry = addressed (entry s p i) (address_sum (instruction s p i) x);
        cut = Some (record { keep = m; counter = (entry s p m).place });
        effect = Local;
      }))

-- A step is accepted exactly when its rule fires, and leads to exactly that state, removing exactly so many entries.
abbrev pub StepsAreTheRules : Type 0
StepsAreTheRules =
    (q : Litmus) (s : State) (st : Step) (n : ℕ) (t : State) → (step_outcome q s st ≡ went n t) ↔ Fires q s st n t
