-- The places that a processor's entries stand at.
use Rattle.std.specs.Prelude.{◌≡◌, ℕ, ◌+◌, ◌<◌, cond, length, nat_lt}
use Rattle.machine.specs.Fires.{buffer, entry}
use Rattle.machine.specs.State.{State, core_at}

-- The place that the entry at position i stands at; behind the youngest entry, the place that is fetched next.
abbrev pub place_at : State → ℕ → ℕ → ℕ
place_at s p i = cond (nat_lt i (length (buffer s p))) (entry s p i).place (core_at s p).counter

-- The entries run from place 0 on, each leads to the next one's place, and the youngest to the place that is fetched next.
pub record Chained (s : State) (p : ℕ) : Type 0 where
  pub starts : place_at s p 0 ≡ 0
  pub follows : (i : ℕ) → i < length (buffer s p) → (entry s p i).next ≡ place_at s p (i + 1)
