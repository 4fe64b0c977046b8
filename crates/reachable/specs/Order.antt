-- The memory order lists exactly the done accesses, each once.
use Rattle.std.specs.Prelude.{◌≡◌, ℕ, ◌<◌, Bool, true, List, length, ◌≢◌, nat_lt, slice_index_or}
use Rattle.instructions.specs.Kinds.{access}
use Rattle.machine.specs.Fires.{buffer, entry, instruction}
use Rattle.machine.specs.State.{State}
use Rattle.witness.specs.declared.record.Access.{Access}

-- The entry at position i of processor p, as an element of the order.
abbrev pub event : ℕ → ℕ → Access
event p i = record { processor = p; position = i }

-- The element at index k of an order.
abbrev pub event_at : List Access → ℕ → Access
event_at order k = slice_index_or order k (event 0 0)

-- At position i of processor p stands a done access.
pub record DoneAccess (s : State) (p i : ℕ) : Type 0 where
  pub stands : i < length (buffer s p)
  pub accesses : access (instruction s p i) ≡ true
  pub done : (entry s p i).done ≡ true

-- The element's entry stands in its buffer.
abbrev pub standing : State → Access → Bool
standing s a = nat_lt a.position (length (buffer s a.processor))

-- Every element is a done access, every done access is an element, and no two elements are the same.
pub record ListsDone (s : State) (order : List Access) : Type 0 where
  pub only_done : (k : ℕ) → k < length order → DoneAccess s (event_at order k).processor (event_at order k).position
  pub each_done : (p i : ℕ) → DoneAccess s p i → (k : ℕ) × (k < length order) × (event_at order k ≡ event p i)
  pub once : (k m : ℕ) → k < m → m < length order → event_at order k ≢ event_at order m
