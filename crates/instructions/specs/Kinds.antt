-- What an instruction does, by questions that need not exclude each other.
use Rattle.std.specs.Prelude.{ℕ, Bool, true, false, ◌||◌, None, Option, ◌==◌}
use Rattle.instructions.specs.declared.instruction.AccessType.{AccessType}
use Rattle.instructions.specs.declared.instruction.AccessType.TheVariants as access_type
use Rattle.instructions.specs.declared.instruction.Instruction.{Instruction}
use Rattle.instructions.specs.declared.instruction.Instruction.TheVariants.{Add, Subtract, Load, Store, Branch, Fence}

-- It reads a cell.
abbrev pub loads : Instruction → Bool
loads (Add d s1 s2 k) = false
loads (Subtract d s1 s2 k) = false
loads (Load d s1 k) = true
loads (Store s1 s2 k j) = false
loads (Branch s1 k j) = false
loads (Fence x y) = false

-- It writes a cell.
abbrev pub stores : Instruction → Bool
stores (Add d s1 s2 k) = false
stores (Subtract d s1 s2 k) = false
stores (Load d s1 k) = false
stores (Store s1 s2 k j) = true
stores (Branch s1 k j) = false
stores (Fence x y) = false

-- It reads or writes a cell.
abbrev pub access : Instruction → Bool
access i = loads i || stores i

-- It computes a register from registers.
abbrev pub computes : Instruction → Bool
computes (Add d s1 s2 k) = true
computes (Subtract d s1 s2 k) = true
computes (Load d s1 k) = false
computes (Store s1 s2 k j) = false
computes (Branch s1 k j) = false
computes (Fence x y) = false

-- It chooses the next place.
abbrev pub branches : Instruction → Bool
branches (Add d s1 s2 k) = false
branches (Subtract d s1 s2 k) = false
branches (Load d s1 k) = false
branches (Store s1 s2 k j) = false
branches (Branch s1 k j) = true
branches (Fence x y) = false

-- It is a fence.
abbrev pub fences : Instruction → Bool
fences (Add d s1 s2 k) = false
fences (Subtract d s1 s2 k) = false
fences (Load d s1 k) = false
fences (Store s1 s2 k j) = false
fences (Branch s1 k j) = false
fences (Fence x y) = true

-- It is an access of the type.
abbrev pub of_type : AccessType → Instruction → Bool
of_type access_type.Load i = loads i
of_type access_type.Store i = stores i

-- The two types are the same.
abbrev pub same_type : AccessType → AccessType → Bool
same_type access_type.Load access_type.Load = true
same_type access_type.Load access_type.Store = false
same_type access_type.Store access_type.Load = false
same_type access_type.Store access_type.Store = true

-- It is a FenceXY, and X is the type: earlier accesses of the type come before it.
abbrev pub fence_from : AccessType → Instruction → Bool
fence_from t (Add d s1 s2 k) = false
fence_from t (Subtract d s1 s2 k) = false
fence_from t (Load d s1 k) = false
fence_from t (Store s1 s2 k j) = false
fence_from t (Branch s1 k j) = false
fence_from t (Fence x y) = same_type x t

-- It is a FenceXY, and Y is the type: later accesses of the type come after it.
abbrev pub fence_to : AccessType → Instruction → Bool
fence_to t (Add d s1 s2 k) = false
fence_to t (Subtract d s1 s2 k) = false
fence_to t (Load d s1 k) = false
fence_to t (Store s1 s2 k j) = false
fence_to t (Branch s1 k j) = false
fence_to t (Fence x y) = same_type y t

-- The register that it reads first, for an access the one of its address.
abbrev pub first_operand : Instruction → Option ℕ
first_operand (Add d s1 s2 k) = s1
first_operand (Subtract d s1 s2 k) = s1
first_operand (Load d s1 k) = s1
first_operand (Store s1 s2 k j) = s1
first_operand (Branch s1 k j) = s1
first_operand (Fence x y) = None

-- The register that it reads second, for a store the one of its data.
abbrev pub second_operand : Instruction → Option ℕ
second_operand (Add d s1 s2 k) = s2
second_operand (Subtract d s1 s2 k) = s2
second_operand (Load d s1 k) = None
second_operand (Store s1 s2 k j) = s2
second_operand (Branch s1 k j) = None
second_operand (Fence x y) = None

-- It writes the register.
abbrev pub writes : Instruction → ℕ → Bool
writes (Add d s1 s2 k) r = d == r
writes (Subtract d s1 s2 k) r = d == r
writes (Load d s1 k) r = d == r
writes (Store s1 s2 k j) r = false
writes (Branch s1 k j) r = false
writes (Fence x y) r = false
