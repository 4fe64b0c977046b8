-- What the kinds of instruction exclude of each other, and what follows for operands and next places.
use Rattle.std.proofs.Common.{◌≡◌, ℕ, ◌+◌, Bool, true, false, None, arith}
use Rattle.instructions.specs.Effects.{next_place, guessed_place}
use Rattle.instructions.specs.Kinds.{loads, stores, access, computes, branches, fences, fence_from, first_operand, second_operand}
use Rattle.instructions.specs.declared.instruction.AccessType.{AccessType}
use Rattle.instructions.specs.declared.instruction.Instruction.{Instruction}

-- It neither reads nor writes a cell.
pub record Quiet (i : Instruction) : Type 0 where
  pub no_load : loads i ≡ false
  pub no_store : stores i ≡ false
  pub no_access : access i ≡ false

pub computes_quiet : (i : Instruction) → computes i ≡ true → Quiet i
computes_quiet i h = record { no_load = grind arith; no_store = grind arith; no_access = grind arith }

pub branches_quiet : (i : Instruction) → branches i ≡ true → Quiet i
branches_quiet i h = record { no_load = grind arith; no_store = grind arith; no_access = grind arith }

pub fences_quiet : (i : Instruction) → fences i ≡ true → Quiet i
fences_quiet i h = record { no_load = grind arith; no_store = grind arith; no_access = grind arith }

pub computes_no_branch : (i : Instruction) → computes i ≡ true → branches i ≡ false
computes_no_branch i h = grind arith

pub fences_no_branch : (i : Instruction) → fences i ≡ true → branches i ≡ false
fences_no_branch i h = grind arith

pub accesses_no_branch : (i : Instruction) → access i ≡ true → branches i ≡ false
accesses_no_branch i h = grind arith

pub branches_compute_nothing : (i : Instruction) → branches i ≡ true → computes i ≡ false
branches_compute_nothing i h = grind arith

pub fences_compute_nothing : (i : Instruction) → fences i ≡ true → computes i ≡ false
fences_compute_nothing i h = grind arith

pub accesses_compute_nothing : (i : Instruction) → access i ≡ true → computes i ≡ false
accesses_compute_nothing i h = grind arith

pub computes_no_fence : (t : AccessType) (i : Instruction) → computes i ≡ true → fence_from t i ≡ false
computes_no_fence t i h = grind arith

pub branches_no_fence : (t : AccessType) (i : Instruction) → branches i ≡ true → fence_from t i ≡ false
branches_no_fence t i h = grind arith

pub accesses_no_fence : (t : AccessType) (i : Instruction) → access i ≡ true → fence_from t i ≡ false
accesses_no_fence t i h = grind arith

pub load_accesses : (i : Instruction) → loads i ≡ true → access i ≡ true
load_accesses i h = grind arith

pub store_accesses : (i : Instruction) → stores i ≡ true → access i ≡ true
store_accesses i h = grind arith

pub loads_no_store : (i : Instruction) → loads i ≡ true → stores i ≡ false
loads_no_store i h = grind arith

pub stores_no_load : (i : Instruction) → stores i ≡ true → loads i ≡ false
stores_no_load i h = grind arith

pub branches_one_operand : (i : Instruction) → branches i ≡ true → second_operand i ≡ None
branches_one_operand i h = grind arith

pub loads_one_operand : (i : Instruction) → loads i ≡ true → second_operand i ≡ None
loads_one_operand i h = grind arith

pub fences_no_first : (i : Instruction) → fences i ≡ true → first_operand i ≡ None
fences_no_first i h = grind arith

pub fences_no_second : (i : Instruction) → fences i ≡ true → second_operand i ≡ None
fences_no_second i h = grind arith

-- The true next place of what is no branch.
pub straight_next : (i : Instruction) (place x : ℕ) → branches i ≡ false → next_place i place x ≡ place + 1
straight_next i place x h = grind arith

-- The guessed place of what is no branch.
pub straight_guess : (i : Instruction) (place : ℕ) (taken : Bool) → branches i ≡ false → guessed_place i place taken ≡ place + 1
straight_guess i place taken h = grind arith
