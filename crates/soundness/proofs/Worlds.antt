-- Buffers as functions of the position, with the times at which entries were done: what the invariant of a run speaks of.
use Rattle.std.proofs.Common.{ℕ, zero, suc, ◌%◌, List, [], Some, None, Option}
use Rattle.instructions.specs.Kinds.{writes}
use Rattle.instructions.specs.declared.instruction.Instruction.{Instruction}
use Rattle.memory.specs.declared.cell.Mark.{Mark}
use Rattle.memory.specs.declared.cell.Mark.TheVariants.{Start}
use Rattle.search.specs.Search.{nearest}
use Rattle.witness.specs.declared.record.Access.{Access}

-- One processor's buffer. Positions from size on mean nothing, but the place at size is the counter.
-- The time of an entry is 0 while it is not done, else the moment at which it was done.
pub record Row : Type 0 where
  pub size : ℕ
  pub instruction : ℕ → Instruction
  pub place : ℕ → ℕ
  pub address : ℕ → Option ℕ
  pub datum : ℕ → Option ℕ
  pub time : ℕ → ℕ
  pub value : ℕ → ℕ
  pub mark : ℕ → Mark

-- The memory by the number of the cell.
pub record Memory : Type 0 where
  pub value : ℕ → ℕ
  pub mark : ℕ → Mark

-- All processors, the memory, the memory order, and the next moment.
pub record World : Type 0 where
  pub rows : ℕ → Row
  pub memory : Memory
  pub order : List Access
  pub clock : ℕ

-- 0 where a number is wanting, else the number plus one.
unfoldable pub coded : Option ℕ → ℕ
coded None = 0
coded (Some d) = suc d

-- 0 where an address is wanting, else the cell that it means plus one.
unfoldable pub celled : Option ℕ → ℕ
celled None = 0
celled (Some a) = suc (a % 16)

-- The cell that such a number stands for.
unfoldable pub known : ℕ → Option ℕ
known zero = None
known (suc b) = Some b

-- The cells of a row of such numbers.
abbrev pub known_cells : (ℕ → ℕ) → ℕ → Option ℕ
known_cells A k = known (A k)

-- The cell of the entry at k plus one, if its address is known.
abbrev pub cell : Row → ℕ → ℕ
cell x k = celled (x.address k)

-- The data of the entry at k plus one, if they are known.
abbrev pub word : Row → ℕ → ℕ
word x k = coded (x.datum k)

-- The value of what a search for a writer found; 0 where there is none.
abbrev pub value_at : (ℕ → ℕ) → Option ℕ → ℕ
value_at V None = 0
value_at V (Some j) = V j

-- The value of an operand of the entry at k: the value of its nearest earlier writer; an absent operand is 0.
unfoldable pub operand : (ℕ → Instruction) → (ℕ → ℕ) → Option ℕ → ℕ → ℕ
operand ins V None k = 0
operand ins V (Some r) k = value_at V (nearest (λ j. writes (ins j) r) k)

-- An empty buffer at place 0.
abbrev pub empty_row : (ℕ → Instruction) → Row
empty_row ins = record {
  size = 0;
  instruction = ins;
  place = λ k. 0;
  address = λ k. None;
  datum = λ k. None;
  time = λ k. 0;
  value = λ k. 0;
  mark = λ k. Start;
}

-- Where a run starts: empty buffers, and the cells that the question starts with.
abbrev pub begin : (ℕ → ℕ → Instruction) → (ℕ → ℕ) → World
begin ins init = record {
  rows = λ p. empty_row (ins p);
  memory = record { value = init; mark = λ b. Start };
  order = [];
  clock = 1;
}
