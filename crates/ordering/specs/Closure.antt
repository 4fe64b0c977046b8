-- The transitive closure of a relation on positions.
use Rattle.std.specs.Prelude.{ℕ}

-- One step, or a way and one step more.
pub data Closure (R : ℕ → ℕ → Type 0) (i : ℕ) : ℕ → Type 0 where
  one : {j : ℕ} → R i j → Closure R i j
  then : {k j : ℕ} → Closure R i k → R k j → Closure R i j
