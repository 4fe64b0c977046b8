-- What every instruction of a checked question keeps.
use Rattle.std.specs.Prelude.{ℕ, Bool, true, ◌&&◌, List, [], ◌∷◌, length, Some, None, Option, nat_le, nat_lt}
use Rattle.instructions.specs.declared.instruction.Instruction.{Instruction}
use Rattle.instructions.specs.declared.instruction.Instruction.TheVariants.{Add, Subtract, Load, Store, Branch, Fence}

-- A register is 0 to 7.
abbrev pub register_sound : ℕ → Bool
register_sound r = nat_lt r 8

-- An operand is a register or none.
abbrev pub operand_sound : Option ℕ → Bool
operand_sound None = true
operand_sound (Some r) = register_sound r

-- An instruction of a processor with n places: its registers exist, and a branch leads to a place or to the end.
abbrev pub instruction_sound : ℕ → Instruction → Bool
instruction_sound n (Add d s1 s2 k) = register_sound d && (operand_sound s1 && operand_sound s2)
instruction_sound n (Subtract d s1 s2 k) = register_sound d && (operand_sound s1 && operand_sound s2)
instruction_sound n (Load d s1 k) = register_sound d && operand_sound s1
instruction_sound n (Store s1 s2 k j) = operand_sound s1 && operand_sound s2
instruction_sound n (Branch s1 k j) = operand_sound s1 && nat_le j n
instruction_sound n (Fence before after) = true

-- Each of these instructions is sound at a processor with n places.
abbrev pub all_sound : ℕ → List Instruction → Bool
all_sound n [] = true
all_sound n (i ∷ is) = instruction_sound n i && all_sound n is

-- A processor's code is sound.
unfoldable pub code_sound : List Instruction → Bool
code_sound is = all_sound (length is) is
