-- The state of a run.
use Rattle.std.specs.Prelude.{ℕ, List, [], map, slice_index_or}
use Rattle.memory.specs.declared.cell.Cell.{Cell}
use Rattle.memory.specs.declared.cell.Mark.TheVariants.{Start}
use Rattle.question.specs.Litmus.{Litmus}
use Rattle.rules.specs.declared.entry.Entry.{Entry}
use Rattle.witness.specs.declared.record.Access.{Access}

-- A processor: the place that it fetches from next, and its buffer, oldest entry first.
pub record Core : Type 0 where
  pub counter : ℕ
  pub entries : List Entry

-- The processors, the accesses in the order in which they were done, and the sixteen cells of the memory.
pub record State : Type 0 where
  pub cores : List Core
  pub order : List Access
  pub cells : List Cell

-- A processor at place 0 with an empty buffer.
abbrev pub empty_core : Core
empty_core = record { counter = 0; entries = [] }

-- The processor with this number.
abbrev pub core_at : State → ℕ → Core
core_at s p = slice_index_or s.cores p empty_core

-- A cell that a question starts with.
abbrev pub start_cell : ℕ → Cell
start_cell v = record { value = v; mark = Start }

-- The state in which a run of the question starts, whatever its memory held.
abbrev pub started : Litmus → State
started q = record { cores = map (λ _. empty_core) q.code; order = []; cells = map start_cell q.start }
