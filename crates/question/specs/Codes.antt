-- A processor's instructions from the contents of its field.
use Rattle.std.specs.Prelude.{ℕ, zero, suc, ◌/◌, ◌%◌, Bool, ◌&&◌, List, [], ◌∷◌, length, take, drop, Ok, Result, ◌==◌, nat_le}
use Rattle.fields.specs.declared.refusal.Refusal.{Refusal}
use Rattle.fields.specs.Rows.{then}
use Rattle.instructions.specs.declared.instruction.Instruction.{Instruction}
use Rattle.question.specs.Instructions.{instruction_of}

-- The next m instructions of a processor with n places.
unfoldable pub code_from : ℕ → ℕ → List ℕ → Result (List Instruction) Refusal
code_from n zero b = Ok []
code_from n (suc m) b = then (instruction_of n (take 8 b)) (λ i. then (code_from n m (drop 8 b)) (λ is. Ok (i ∷ is)))

-- The instructions of a processor field's contents.
abbrev pub code_of : List ℕ → Result (List Instruction) Refusal
code_of b = code_from (length b / 8) (length b / 8) b

-- Whole instructions of eight bytes, at most sixteen.
abbrev pub code_fits : ℕ → Bool
code_fits n = nat_le n 128 && n % 8 == 0
