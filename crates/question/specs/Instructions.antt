-- An instruction from its eight bytes, and its eight bytes from it.
use Rattle.std.specs.Prelude.{ℕ, ◌%◌, Bool, true, false, cond, ◌&&◌, ◌||◌, List, ◌∷◌, ◌++◌, Some, None, Ok, Err, Option, Result, ◌==◌, nat_le, nat_lt, slice_index}
use Rattle.fields.specs.declared.refusal.Refusal.{Refusal}
use Rattle.fields.specs.declared.refusal.Refusal.TheVariants.{KindOrRegisterNotAllowed, NumberNotAllowed}
use Rattle.fields.specs.Fields.{word, word_bytes}
use Rattle.instructions.specs.declared.instruction.AccessType.{AccessType}
use Rattle.instructions.specs.declared.instruction.AccessType.TheVariants as access
use Rattle.instructions.specs.declared.instruction.Instruction.{Instruction}
use Rattle.instructions.specs.declared.instruction.Instruction.TheVariants.{Add, Subtract, Load, Store, Branch, Fence}
use Rattle.question.specs.declared.table.Row.{Row}
use Rattle.question.specs.Table.{row_of}

-- The six fields of an instruction.
pub record Raw : Type 0 where
  pub kind : ℕ
  pub d : ℕ
  pub s1 : ℕ
  pub s2 : ℕ
  pub k : ℕ
  pub j : ℕ

-- Eight bytes as kind, d, s1, s2, k and j.
abbrev pub raw_of : List ℕ → Raw
raw_of b = record {
  kind = slice_index b 0;
  d = slice_index b 1;
  s1 = slice_index b 2;
  s2 = slice_index b 3;
  k = word (slice_index b 4) (slice_index b 5);
  j = word (slice_index b 6) (slice_index b 7);
}

-- The six kinds.
abbrev pub kind_fits : ℕ → Bool
kind_fits kind = nat_lt 0 kind && nat_lt kind 7

-- A register byte: 0 to 7 where it is used, or FF where it may be absent; FF where it is not used.
abbrev pub register_fits : Bool → Bool → ℕ → Bool
register_fits used optional byte = cond used (nat_lt byte 8 || (optional && byte == 255)) (byte == 255)

-- The three register bytes; only d must be a register where it is used.
abbrev pub registers_fit : Row → Raw → Bool
registers_fit r i = register_fits r.d false i.d && (register_fits r.s1 true i.s1 && register_fits r.s2 true i.s2)

-- An unused number is 0; a branch leads to one of n places or to the end, and a fence is one of four.
abbrev pub numbers_fit : ℕ → Row → Raw → Bool
numbers_fit n r i =
    (r.k || i.k == 0) && ((r.j || i.j == 0) && (cond (i.kind == 5) (nat_le i.j n) true && cond (i.kind == 6) (nat_lt i.k 4) true))

-- An operand from its byte: FF is none.
abbrev pub operand : ℕ → Option ℕ
operand byte = cond (byte == 255) None (Some byte)

-- The type of access that a fence number puts first: 0 and 1 load, 2 and 3 store.
abbrev pub fence_before : ℕ → AccessType
fence_before k = cond (nat_lt k 2) access.Load access.Store

-- The type of access that a fence number puts second: 0 and 2 load, 1 and 3 store.
abbrev pub fence_after : ℕ → AccessType
fence_after k = cond (k % 2 == 0) access.Load access.Store

-- The instruction of six fields that fit.
abbrev pub instruction_from : Raw → Instruction
instruction_from r =
    cond (r.kind == 1) (Add r.d (operand r.s1) (operand r.s2) r.k)
    (cond (r.kind == 2) (Subtract r.d (operand r.s1) (operand r.s2) r.k)
    (cond (r.kind == 3) (Load r.d (operand r.s1) r.k)
    (cond (r.kind == 4) (Store (operand r.s1) (operand r.s2) r.k r.j)
    (cond (r.kind == 5) (Branch (operand r.s1) r.k r.j)
    (Fence (fence_before r.k) (fence_after r.k))))))

-- The instruction of a processor with n places that six fields state: kind and registers are tested before numbers.
abbrev pub checked : ℕ → Raw → Result Instruction Refusal
checked n r =
    cond (kind_fits r.kind)
    (cond (registers_fit (row_of r.kind) r)
    (cond (numbers_fit n (row_of r.kind) r) (Ok (instruction_from r)) (Err NumberNotAllowed))
    (Err KindOrRegisterNotAllowed))
    (Err KindOrRegisterNotAllowed)

-- The instruction that eight bytes state.
unfoldable pub instruction_of : ℕ → List ℕ → Result Instruction Refusal
instruction_of n b = checked n (raw_of b)

-- The byte of an operand.
abbrev pub operand_byte : Option ℕ → ℕ
operand_byte None = 255
operand_byte (Some r) = r

-- The number of a fence.
abbrev pub fence_number : AccessType → AccessType → ℕ
fence_number access.Load access.Load = 0
fence_number access.Load access.Store = 1
fence_number access.Store access.Load = 2
fence_number access.Store access.Store = 3

-- Eight bytes from kind, d, s1, s2, k and j.
abbrev eight : ℕ → ℕ → ℕ → ℕ → ℕ → ℕ → List ℕ
eight kind d s1 s2 k j = kind ∷ d ∷ s1 ∷ s2 ∷ (word_bytes k ++ word_bytes j)

-- The bytes of an instruction: an unused register byte is FF, an unused number 0.
abbrev pub instruction_bytes : Instruction → List ℕ
instruction_bytes (Add d s1 s2 k) = eight 1 d (operand_byte s1) (operand_byte s2) k 0
instruction_bytes (Subtract d s1 s2 k) = eight 2 d (operand_byte s1) (operand_byte s2) k 0
instruction_bytes (Load d s1 k) = eight 3 d (operand_byte s1) 255 k 0
instruction_bytes (Store s1 s2 k j) = eight 4 255 (operand_byte s1) (operand_byte s2) k j
instruction_bytes (Branch s1 k j) = eight 5 255 (operand_byte s1) 255 k j
instruction_bytes (Fence before after) = eight 6 255 255 255 (fence_number before after) 0
