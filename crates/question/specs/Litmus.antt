-- What a question means: a litmus test.
use Rattle.std.specs.Prelude.{ℕ, List, [], None, slice_index_or}
use Rattle.instructions.specs.declared.instruction.Instruction.{Instruction}
use Rattle.instructions.specs.declared.instruction.Instruction.TheVariants.{Add}

-- The values that the sixteen cells start with, and each processor's instructions.
pub record Litmus : Type 0 where
  pub start : List ℕ
  pub code : List (List Instruction)

-- The instructions of processor p; none where there is no such processor.
abbrev pub code_at : Litmus → ℕ → List Instruction
code_at l p = slice_index_or l.code p []

-- The instruction at a place of the code; past the end one that nobody looks at.
abbrev pub instruction_at : List Instruction → ℕ → Instruction
instruction_at code place = slice_index_or code place (Add 0 None None 0)
