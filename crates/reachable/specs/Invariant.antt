-- The invariant of the states that a run of a question reaches.
use Rattle.std.specs.Prelude.{◌≡◌, ℕ, ◌<◌, ◌≤◌, length}
use Rattle.machine.specs.Fires.{buffer, entry}
use Rattle.machine.specs.State.{State, core_at}
use Rattle.question.specs.Litmus.{Litmus, code_at}
use Rattle.reachable.specs.Entries.{EntryKept}
use Rattle.reachable.specs.Order.{ListsDone}
use Rattle.reachable.specs.Places.{Chained}

-- Sizes, places, entries and memory order; nothing is asked of p, since a processor that is absent has no entry and counter 0.
pub record Invariant (q : Litmus) (s : State) : Type 0 where
  pub processors : length s.cores ≡ length q.code
  pub sixteen : length s.cells ≡ 16
  pub room : (p : ℕ) → length (buffer s p) ≤ 16
  pub chained : (p : ℕ) → Chained s p
  pub within : (p : ℕ) → (core_at s p).counter ≤ length (code_at q p)
  pub entries : (p i : ℕ) → i < length (buffer s p) → EntryKept q s p i (entry s p i)
  pub listed : ListsDone s s.order
  pub few : length s.order ≤ 64
