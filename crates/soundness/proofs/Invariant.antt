-- The invariant of one buffer: what is kept over the cells known so far was done earlier, and what is known rests on what is done.
use Rattle.std.proofs.Common.{◌≡◌, ℕ, ◌<◌, true}
use Rattle.instructions.specs.Kinds.{stores, access, first_operand, second_operand}
use Rattle.instructions.specs.declared.instruction.Instruction.{Instruction}
use Rattle.ordering.specs.Constraints.{Feeds, SALdLd}
use Rattle.soundness.proofs.Worlds.{Row, known_cells, cell, word}
use Rattle.soundness.proofs.Constrained.{Six}

-- j was done, and before k.
pub record Before (T : ℕ → ℕ) (j k : ℕ) : Type 0 where
  pub done : 0 < T j
  pub first : T j < T k

-- All that does not turn on same-address load-load order.
-- A and D are the cells and the data known, each plus one, T the times, c the next moment.
pub record Inv (n : ℕ) (ins : ℕ → Instruction) (A D T : ℕ → ℕ) (c : ℕ) : Type 0 where
  pub clock : (k : ℕ) → T k < c
  pub order : (j k : ℕ) → k < n → 0 < T k → Six ins (known_cells A) j k → Before T j k
  pub addr : (j k : ℕ) → k < n → 0 < A k → Feeds ins (known_cells A) (first_operand (ins k)) j k → 0 < T j
  pub datum : (j k : ℕ) → k < n → 0 < D k → Feeds ins (known_cells A) (second_operand (ins k)) j k → 0 < T j
  pub located : (k : ℕ) → k < n → 0 < T k → access (ins k) ≡ true → 0 < A k
  pub given : (k : ℕ) → k < n → 0 < T k → stores (ins k) ≡ true → 0 < D k
  pub older : (k : ℕ) → k < n → 0 < T k → stores (ins k) ≡ true → (j : ℕ) → j < k → access (ins j) ≡ true → 0 < A j

-- Same-address load-load order: what SALdLd keeps before a done load was done earlier.
abbrev pub LoadsOrdered : ℕ → (ℕ → Instruction) → (ℕ → ℕ) → (ℕ → ℕ) → Type 0
LoadsOrdered n ins A T = (j k : ℕ) → k < n → 0 < T k → SALdLd ins (known_cells A) j k → Before T j k

-- Both of a row.
abbrev pub Ok : Row → ℕ → Type 0
Ok x c = Inv x.size x.instruction (cell x) (word x) x.time c

abbrev pub Ordered : Row → Type 0
Ordered x = LoadsOrdered x.size x.instruction (cell x) x.time
