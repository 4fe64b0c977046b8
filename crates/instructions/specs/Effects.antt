-- What an instruction computes from the values of its operands.
use Rattle.std.specs.Prelude.{ℕ, None, ◌+◌, ◌-◌, ◌%◌, Bool, cond, ◌==◌}
use Rattle.instructions.specs.declared.instruction.Instruction.{Instruction}
use Rattle.instructions.specs.declared.instruction.Instruction.TheVariants.{Add, Subtract, Load, Store, Branch, Fence}

-- An addition of nothing: what stands where no instruction does.
abbrev pub nothing : Instruction
nothing = Add 0 None None 0

-- The result of an addition or a subtraction, modulo 65,536.
abbrev pub arithmetic_result : Instruction → ℕ → ℕ → ℕ
arithmetic_result (Add d s1 s2 k) x y = (x + y + k) % 65536
arithmetic_result (Subtract d s1 s2 k) x y = (x + (65536 - y) + k) % 65536
arithmetic_result (Load d s1 k) x y = 0
arithmetic_result (Store s1 s2 k j) x y = 0
arithmetic_result (Branch s1 k j) x y = 0
arithmetic_result (Fence a b) x y = 0

-- The address of an access, before it is reduced modulo 16.
abbrev pub address_sum : Instruction → ℕ → ℕ
address_sum (Add d s1 s2 k) x = 0
address_sum (Subtract d s1 s2 k) x = 0
address_sum (Load d s1 k) x = (x + k) % 65536
address_sum (Store s1 s2 k j) x = (x + k) % 65536
address_sum (Branch s1 k j) x = 0
address_sum (Fence a b) x = 0

-- The cell that an address sum means.
abbrev pub cell_number : ℕ → ℕ
cell_number sum = sum % 16

-- The data of a store.
abbrev pub data_sum : Instruction → ℕ → ℕ
data_sum (Add d s1 s2 k) x = 0
data_sum (Subtract d s1 s2 k) x = 0
data_sum (Load d s1 k) x = 0
data_sum (Store s1 s2 k j) x = (x + j) % 65536
data_sum (Branch s1 k j) x = 0
data_sum (Fence a b) x = 0

-- The place after the one where the instruction stands; a branch goes to j if its operand is k.
abbrev pub next_place : Instruction → ℕ → ℕ → ℕ
next_place (Add d s1 s2 k) place x = place + 1
next_place (Subtract d s1 s2 k) place x = place + 1
next_place (Load d s1 k) place x = place + 1
next_place (Store s1 s2 k j) place x = place + 1
next_place (Branch s1 k j) place x = cond (x == k) j (place + 1)
next_place (Fence a b) place x = place + 1

-- The place that a guess leads to: a branch taken goes to j.
abbrev pub guessed_place : Instruction → ℕ → Bool → ℕ
guessed_place (Add d s1 s2 k) place taken = place + 1
guessed_place (Subtract d s1 s2 k) place taken = place + 1
guessed_place (Load d s1 k) place taken = place + 1
guessed_place (Store s1 s2 k j) place taken = place + 1
guessed_place (Branch s1 k j) place taken = cond taken j (place + 1)
guessed_place (Fence a b) place taken = place + 1
