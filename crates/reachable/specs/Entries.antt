-- What every entry keeps: e stands for the entry at position i of processor p, behind the older entries of the state.
use Rattle.std.specs.Prelude.{◌≡◌, ℕ, ◌+◌, ◌<◌, Bool, true, false, length, is_some, Some}
use Rattle.instructions.specs.declared.instruction.AccessType.{AccessType}
use Rattle.instructions.specs.declared.instruction.AccessType.TheVariants as access_type
use Rattle.instructions.specs.Effects.{arithmetic_result, address_sum, data_sum, next_place, guessed_place}
use Rattle.instructions.specs.Kinds.{loads, stores, access, computes, branches, of_type, fence_from, fence_to, first_operand, second_operand}
use Rattle.machine.specs.Fires.{Older, Ready}
use Rattle.machine.specs.State.{State}
use Rattle.question.specs.Litmus.{Litmus, code_at, instruction_at}
use Rattle.rules.specs.Tests.{same_cell}
use Rattle.rules.specs.declared.entry.Entry.{Entry}

-- It stands at a place of the code, with the instruction that is there.
pub record InCode (q : Litmus) (p : ℕ) (e : Entry) : Type 0 where
  pub within : e.place < length (code_at q p)
  pub there : e.instruction ≡ instruction_at (code_at q p) e.place

-- Unless it is a branch, it leads to the place behind its own.
abbrev pub Straight : Entry → Type 0
Straight e = branches e.instruction ≡ false → e.next ≡ e.place + 1

-- Until it is done, it leads to one of its two ways.
abbrev pub Guessed : Entry → Type 0
Guessed e = e.done ≡ false → (taken : Bool) × (e.next ≡ guessed_place e.instruction e.place taken)

-- It is an access, its first operand is ready, and a is its address.
pub record AddressKnown (s : State) (p i : ℕ) (e : Entry) (a : ℕ) : Type 0 where
  pub accesses : access e.instruction ≡ true
  pub operand : ℕ
  pub ready : Ready s p i (first_operand e.instruction) operand
  pub sum : a ≡ address_sum e.instruction operand

-- It is a store, its second operand is ready, and d are its data.
pub record DataKnown (s : State) (p i : ℕ) (e : Entry) (d : ℕ) : Type 0 where
  pub is_store : stores e.instruction ≡ true
  pub operand : ℕ
  pub ready : Ready s p i (second_operand e.instruction) operand
  pub sum : d ≡ data_sum e.instruction operand

-- Its operands are ready, its value is computed from them if it computes, and it leads to its true next place.
pub record WorkedOut (s : State) (p i : ℕ) (e : Entry) : Type 0 where
  pub first : ℕ
  pub second : ℕ
  pub first_ready : Ready s p i (first_operand e.instruction) first
  pub second_ready : Ready s p i (second_operand e.instruction) second
  pub value : computes e.instruction ≡ true → e.value ≡ arithmetic_result e.instruction first second
  pub next : e.next ≡ next_place e.instruction e.place first

-- All older accesses of the fence's first type are done.
abbrev pub FenceWaited : State → ℕ → ℕ → Entry → Type 0
FenceWaited s p i e = (t : AccessType) → fence_from t e.instruction ≡ true → Older s p i (λ o. of_type t o.instruction ≡ true → o.done ≡ true)

-- All older fences that loads come after are done.
abbrev pub LoadWaited : State → ℕ → ℕ → Type 0
LoadWaited s p i = Older s p i (λ o. fence_to access_type.Load o.instruction ≡ true → o.done ≡ true)

-- All older branches are done, all older accesses have addresses, those to the same cell are done, and so are all older fences that stores come after.
pub record StoreWaited (s : State) (p i : ℕ) (e : Entry) : Type 0 where
  pub older_branches : Older s p i (λ o. branches o.instruction ≡ true → o.done ≡ true)
  pub older_addresses : Older s p i (λ o. access o.instruction ≡ true → is_some o.address ≡ true)
  pub same_cell_done : (a : ℕ) → e.address ≡ Some a → Older s p i (λ o. access o.instruction ≡ true → same_cell a o.address ≡ true → o.done ≡ true)
  pub older_fences : Older s p i (λ o. fence_to access_type.Store o.instruction ≡ true → o.done ≡ true)

-- It is worked out, an access has its address, a store its data, and what each kind waits for has happened.
pub record Finished (s : State) (p i : ℕ) (e : Entry) : Type 0 where
  pub worked_out : WorkedOut s p i e
  pub has_address : access e.instruction ≡ true → is_some e.address ≡ true
  pub has_data : stores e.instruction ≡ true → is_some e.datum ≡ true
  pub fence : FenceWaited s p i e
  pub load : loads e.instruction ≡ true → LoadWaited s p i
  pub store : stores e.instruction ≡ true → StoreWaited s p i e

-- What every entry keeps.
pub record EntryKept (q : Litmus) (s : State) (p i : ℕ) (e : Entry) : Type 0 where
  pub in_code : InCode q p e
  pub straight : Straight e
  pub guessed : Guessed e
  pub address : (a : ℕ) → e.address ≡ Some a → AddressKnown s p i e a
  pub datum : (d : ℕ) → e.datum ≡ Some d → DataKnown s p i e d
  pub finished : e.done ≡ true → Finished s p i e
