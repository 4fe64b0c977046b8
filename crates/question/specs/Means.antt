-- What a well-formed question is, which litmus test it means, and which fault is found first.
use Rattle.std.specs.Prelude.{◌≡◌, ℕ, suc, ◌*◌, ◌<◌, ◌≤◌, Bool, true, false, ◌⊎◌, ◌↔◌, List, [], ◌∷◌, ◌++◌, length, take, drop, is_ok, Ok, Err, slice_index, slice_index_or, slice_set}
use Rattle.std.specs.List.{flat_map, AllByRecursion}
use Rattle.fields.specs.declared.refusal.Refusal.{Refusal}
use Rattle.fields.specs.declared.refusal.Refusal.TheVariants.{CellAddressNotAllowed, KindOrRegisterNotAllowed, NumberNotAllowed}
use Rattle.fields.specs.Fields.{word, word_bytes, field_bytes}
use Rattle.instructions.specs.declared.instruction.Instruction.{Instruction}
use Rattle.question.specs.Litmus.{Litmus}
use Rattle.question.specs.Sound.{code_sound}
use Rattle.question.specs.Table.{row_of}
use Rattle.question.specs.Instructions.{instruction_of, instruction_bytes}
use Rattle.question.specs.Cells.{zeros, cells_from}
use Rattle.question.specs.Codes.{code_of}
use Rattle.question.specs.Read.{cell_tag, processor_tag, question_of}

-- A record of a cell field: a cell starts with a value.
pub record Start : Type 0 where
  pub address : ℕ
  pub value : ℕ

-- The three bytes of a record.
abbrev pub start_bytes : Start → List ℕ
start_bytes r = r.address ∷ word_bytes r.value

-- The addresses are at least `least`, at most 15, and each is above those before it.
abbrev pub Rising : ℕ → List Start → Type 0
Rising least [] = Unit {0}
Rising least (r ∷ rs) = (least ≤ r.address) × (r.address < 16) × Rising (suc r.address) rs

-- The cells after each record's value was put at its address.
abbrev pub started : List ℕ → List Start → List ℕ
started cells [] = cells
started cells (r ∷ rs) = started (slice_set cells r.address r.value) rs

-- A processor has at most sixteen instructions, and they are sound.
abbrev pub CodeAllowed : List Instruction → Type 0
CodeAllowed is = (length is ≤ 16) × (code_sound is ≡ true)

-- There are one to four processors, each with allowed instructions.
abbrev pub ProcessorsAllowed : List (List Instruction) → Type 0
ProcessorsAllowed code = (1 ≤ length code) × (length code ≤ 4) × AllByRecursion CodeAllowed code

-- The field of a processor.
abbrev pub processor_bytes : List Instruction → List ℕ
processor_bytes is = field_bytes processor_tag (flat_map instruction_bytes is)

-- These bytes are a well-formed question and mean this litmus test.
pub data Means : List ℕ → Litmus → Type 0 where
  without_cells : (code : List (List Instruction)) → ProcessorsAllowed code →
      Means (flat_map processor_bytes code) (record { start = zeros; code = code })
  with_cells : (rs : List Start) (code : List (List Instruction)) → Rising 0 rs → ProcessorsAllowed code →
      Means (field_bytes cell_tag (flat_map start_bytes rs) ++ flat_map processor_bytes code) (record { start = started zeros rs; code = code })

-- Accepted are exactly the well-formed strings of bytes, as what they mean.
abbrev pub QuestionsAreReadAsTheyMean : Type 0
QuestionsAreReadAsTheyMean = (b : List ℕ) → AllByRecursion (λ x. x < 256) b → (l : Litmus) → (question_of b ≡ Ok l) ↔ Means b l

-- The contents of a cell field are refused exactly if the addresses do not rise below sixteen.
abbrev pub CellContentsRefusedForAnAddress : Type 0
CellContentsRefusedForAnAddress =
    (rs : List Start) (e : Refusal) →
    (cells_from 0 zeros (flat_map start_bytes rs) ≡ Err e) ↔ ((e ≡ CellAddressNotAllowed) × (Rising 0 rs → ⊥))

-- The contents of a processor field of n instructions are refused for the first instruction that is, as that one is.
abbrev pub CodeRefusedForItsFirstFault : Type 0
CodeRefusedForItsFirstFault =
    (n : ℕ) (b : List ℕ) (e : Refusal) → length b ≡ 8 * n →
    (code_of b ≡ Err e) ↔
    ((p : ℕ) × (p < n) × ((q : ℕ) → q < p → is_ok (instruction_of n (take 8 (drop (8 * q) b))) ≡ true) × (instruction_of n (take 8 (drop (8 * p) b)) ≡ Err e))

-- A target byte: a register where it is used, FF where it is not.
abbrev pub TargetAllowed : Bool → ℕ → Type 0
TargetAllowed used byte = (used ≡ true → byte < 8) × (used ≡ false → byte ≡ 255)

-- An operand byte: a register or FF where it is used, FF where it is not.
abbrev pub OperandAllowed : Bool → ℕ → Type 0
OperandAllowed used byte = (used ≡ true → (byte < 8) ⊎ (byte ≡ 255)) × (used ≡ false → byte ≡ 255)

-- Of an instruction's eight bytes: the kind is one of six, and its register bytes are as its row of the table has them.
pub record RegistersAllowed (b : List ℕ) : Type 0 where
  pub kind : (1 ≤ slice_index b 0) × (slice_index b 0 ≤ 6)
  pub d : TargetAllowed (row_of (slice_index b 0)).d (slice_index b 1)
  pub s1 : OperandAllowed (row_of (slice_index b 0)).s1 (slice_index b 2)
  pub s2 : OperandAllowed (row_of (slice_index b 0)).s2 (slice_index b 3)

-- Of an instruction's eight bytes: an unused number is 0, a branch of n instructions leads to one of them or to the end, a fence is one of four.
pub record NumbersAllowed (n : ℕ) (b : List ℕ) : Type 0 where
  pub k_unused : (row_of (slice_index b 0)).k ≡ false → word (slice_index b 4) (slice_index b 5) ≡ 0
  pub j_unused : (row_of (slice_index b 0)).j ≡ false → word (slice_index b 6) (slice_index b 7) ≡ 0
  pub branch : slice_index_or b 0 0 ≡ 5 → word (slice_index b 6) (slice_index b 7) ≤ n
  pub fence : slice_index_or b 0 0 ≡ 6 → word (slice_index b 4) (slice_index b 5) < 4

-- An instruction is refused for its kind or a register exactly if those are not allowed, and for a number exactly if only those are not.
abbrev pub InstructionRefusedForItsFirstFault : Type 0
InstructionRefusedForItsFirstFault =
    (n : ℕ) (b : List ℕ) →
    ((instruction_of n b ≡ Err KindOrRegisterNotAllowed) ↔ (RegistersAllowed b → ⊥))
    × ((instruction_of n b ≡ Err NumberNotAllowed) ↔ (RegistersAllowed b × (NumbersAllowed n b → ⊥)))
