-- The laws of the invariant.
use Rattle.std.specs.Prelude.{◌≡◌, ℕ, ◌<◌, true, false, ◌⊎◌, List, [], ◌∷◌, ◌++◌, length, Some}
use Rattle.instructions.specs.Kinds.{stores, access}
use Rattle.machine.specs.declared.step.Step.{Step}
use Rattle.machine.specs.Fires.{buffer, entry, instruction, Fires}
use Rattle.machine.specs.Results.{closed}
use Rattle.machine.specs.State.{State, core_at, started}
use Rattle.machine.specs.Steps.{only, joined, run_all}
use Rattle.question.specs.Litmus.{Litmus, code_at}
use Rattle.question.specs.Views.{litmus_of}
use Rattle.question.specs.declared.question.Question.{Question}
use Rattle.rules.specs.declared.entry.Entry.{Entry}
use Rattle.reachable.specs.Checked.{Checked}
use Rattle.reachable.specs.Invariant.{Invariant}
use Rattle.reachable.specs.Order.{event, standing}

-- Every question that was read is checked.
abbrev pub QuestionsAreChecked : Type 0
QuestionsAreChecked = (q : Question) → Checked (litmus_of q)

-- A run starts in the invariant.
abbrev pub StartedKeeps : Type 0
StartedKeeps = (q : Litmus) → Checked q → Invariant q (started q)

-- Every rule keeps the invariant.
abbrev pub FiresKeeps : Type 0
FiresKeeps = (q : Litmus) (s : State) (st : Step) (n : ℕ) (t : State) → Checked q → Invariant q s → Fires q s st n t → Invariant q t

-- Whatever the steps, refused ones included, the state that a run reaches keeps the invariant.
abbrev pub EveryReachableStateKeepsTheInvariant : Type 0
EveryReachableStateKeepsTheInvariant = (q : Litmus) → Checked q → (steps : List Step) → Invariant q (run_all q (started q) steps)

-- What an entry is afterwards: the same where it was done; otherwise of the same place and instruction, with the address and the data that it had.
pub record Onward (e f : Entry) : Type 0 where
  pub place : f.place ≡ e.place
  pub instruction : f.instruction ≡ e.instruction
  pub finished : e.done ≡ true → f ≡ e
  pub address : (a : ℕ) → e.address ≡ Some a → f.address ≡ Some a
  pub datum : (d : ℕ) → e.datum ≡ Some d → f.datum ≡ Some d

-- Every entry that a rule leaves standing goes onward.
abbrev pub EntriesGoOnward : Type 0
EntriesGoOnward =
    (q : Litmus) (s : State) (st : Step) (n : ℕ) (t : State) → Invariant q s → Fires q s st n t →
    (p i : ℕ) → i < length (buffer s p) → i < length (buffer t p) → Onward (entry s p i) (entry t p i)

-- No rule removes or changes a done store.
abbrev pub DoneStoresStay : Type 0
DoneStoresStay =
    (q : Litmus) (s : State) (st : Step) (n : ℕ) (t : State) → Invariant q s → Fires q s st n t →
    (p i : ℕ) → i < length (buffer s p) → stores (instruction s p i) ≡ true → (entry s p i).done ≡ true →
    (i < length (buffer t p)) × (entry t p i ≡ entry s p i)

-- An access that is not done yet joins the memory order at its end, and nothing is cut off.
abbrev pub OrderNeverCut : Type 0
OrderNeverCut =
    (q : Litmus) (s : State) → Checked q → Invariant q s →
    (p i : ℕ) → i < length (buffer s p) → access (instruction s p i) ≡ true → (entry s p i).done ≡ false →
    joined s.order (event p i) ≡ s.order ++ event p i ∷ []

-- What still stands of the memory order stays in its order, and at most one access joins it, at its end.
abbrev pub OrderGoesOn : Type 0
OrderGoesOn =
    (q : Litmus) (s : State) (st : Step) (n : ℕ) (t : State) → Checked q → Invariant q s → Fires q s st n t →
    (t.order ≡ only (standing t) s.order) ⊎ ((p i : ℕ) × (i < length (buffer s p)) × ((entry s p i).done ≡ false) × (t.order ≡ s.order ++ event p i ∷ []))

-- In a finished run every processor is at the end of its code, and every entry is done.
abbrev pub FinishedRunsAreDone : Type 0
FinishedRunsAreDone =
    (q : Litmus) (s : State) → Invariant q s → (closed q s).finished ≡ true →
    (p : ℕ) → ((core_at s p).counter ≡ length (code_at q p)) × ((i : ℕ) → i < length (buffer s p) → (entry s p i).done ≡ true)
