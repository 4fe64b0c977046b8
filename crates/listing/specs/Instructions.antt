-- The text of an instruction.
use Rattle.std.specs.Prelude.{ℕ, cond, List, ◌++◌, Some, None, codes, decimal, Option, ◌==◌}
use Rattle.instructions.specs.declared.instruction.AccessType.{AccessType}
use Rattle.instructions.specs.declared.instruction.AccessType.TheVariants as access
use Rattle.instructions.specs.declared.instruction.Instruction.{Instruction}
use Rattle.instructions.specs.declared.instruction.Instruction.TheVariants.{Add, Subtract, Load, Store, Branch, Fence}

-- The name of a register.
abbrev pub register_text : ℕ → List ℕ
register_text r = codes "r" ++ decimal r

-- A register and a number that are added; what is absent or 0 is left out.
abbrev pub sum_text : Option ℕ → ℕ → List ℕ
sum_text None k = decimal k
sum_text (Some r) k = cond (k == 0) (register_text r) (codes "r" ++ (decimal r ++ (codes " + " ++ decimal k)))

-- The letter of an access type.
abbrev pub type_text : AccessType → List ℕ
type_text access.Load = codes "L"
type_text access.Store = codes "S"

-- Two registers and a number that are added.
abbrev pub add_text : Option ℕ → Option ℕ → ℕ → List ℕ
add_text s1 None k = sum_text s1 k
add_text None (Some r) k = sum_text (Some r) k
add_text (Some r) (Some s) k = codes "r" ++ (decimal r ++ (codes " + " ++ sum_text (Some s) k))

-- A register from which another is subtracted, and a number that is added.
abbrev pub subtract_text : Option ℕ → Option ℕ → ℕ → List ℕ
subtract_text s1 None k = sum_text s1 k
subtract_text None (Some r) k = codes "0 - " ++ sum_text (Some r) k
subtract_text (Some r) (Some s) k = codes "r" ++ (decimal r ++ (codes " - " ++ sum_text (Some s) k))

-- An instruction in assembler style.
abbrev pub instruction_text : Instruction → List ℕ
instruction_text (Add d s1 s2 k) = codes "add r" ++ (decimal d ++ (codes " = " ++ add_text s1 s2 k))
instruction_text (Subtract d s1 s2 k) = codes "subtract r" ++ (decimal d ++ (codes " = " ++ subtract_text s1 s2 k))
instruction_text (Load d s1 k) = codes "load r" ++ (decimal d ++ (codes " = [" ++ (sum_text s1 k ++ codes "]")))
instruction_text (Store s1 s2 k j) = codes "store [" ++ (sum_text s1 k ++ (codes "] = " ++ sum_text s2 j))
instruction_text (Branch s1 k j) = codes "branch to " ++ (decimal j ++ (codes " if " ++ (sum_text s1 0 ++ (codes " = " ++ decimal k))))
instruction_text (Fence before after) = codes "fence " ++ (type_text before ++ type_text after)
