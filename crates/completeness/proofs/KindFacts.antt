-- What the kinds of instruction tell of each other.
use Rattle.std.proofs.Common.{◌≡◌, ℕ, true, ◌⊎◌, arith}
use Rattle.instructions.specs.Kinds.{loads, access, computes, branches, fences, of_type, fence_to, writes}
use Rattle.instructions.specs.declared.instruction.AccessType.{AccessType}
use Rattle.instructions.specs.declared.instruction.Instruction.{Instruction}

-- What writes a register computes it or loads it.
pub writer_kind : (i : Instruction) (r : ℕ) → writes i r ≡ true → (computes i ≡ true) ⊎ (loads i ≡ true)
writer_kind i r h = grind arith

-- What is of a type of access is an access.
pub type_accesses : (t : AccessType) (i : Instruction) → of_type t i ≡ true → access i ≡ true
type_accesses t i h = grind arith

-- A fence that accesses come after is a fence.
pub fence_to_fences : (t : AccessType) (i : Instruction) → fence_to t i ≡ true → fences i ≡ true
fence_to_fences t i h = grind arith

-- What is no access computes, branches or fences.
pub each_kind : (i : Instruction) → (access i ≡ true) ⊎ ((computes i ≡ true) ⊎ ((branches i ≡ true) ⊎ (fences i ≡ true)))
each_kind i = grind arith
