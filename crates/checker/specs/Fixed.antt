-- What a witness fixes: each register and each cell.
use Rattle.std.specs.Prelude.{ℕ, Bool, ◌&&◌, length, Some, None, Option, ◌==◌, nat_lt, slice_index, slice_index_or}
use Rattle.instructions.specs.Kinds.{stores}
use Rattle.memory.specs.declared.cell.Cell.{Cell}
use Rattle.memory.specs.declared.cell.Mark.TheVariants as mark
use Rattle.question.specs.Litmus.{Litmus}
use Rattle.search.specs.Search.{nearest}
use Rattle.witness.specs.Execution.{Execution}
use Rattle.witness.specs.declared.record.Access.{Access}
use Rattle.events.specs.Events.{operand}
use Rattle.events.specs.Sources.{path_at, events}
use Rattle.checker.specs.Terms.{access_at, event, instruction, cell}

module _ (q : Litmus) (w : Execution) where
  -- Register r of processor p: the result of the last writer on its path, or 0.
  abbrev pub fixed_register : ℕ → ℕ → ℕ
  fixed_register p r = operand (events q w p) (length (path_at w p)) (Some r)

  -- The access is a store of the paths to cell a.
  abbrev pub stores_to : ℕ → Access → Bool
  stores_to a x =
      nat_lt x.position (length (path_at w x.processor))
      && (stores (instruction q w x.processor x.position) && cell q w x.processor x.position == a)

  -- The number in the order of the last store to cell a.
  abbrev pub last_store : ℕ → Option ℕ
  last_store a = nearest (λ k. stores_to a (slice_index_or w.order k (access_at 0 0))) (length w.order)

  -- What a store leaves in its cell.
  abbrev pub left_by : Access → Cell
  left_by x = record { value = (event q w x.processor x.position).datum; mark = mark.Store x.processor x.position }

  -- The cell after the store with this number in the order; without one the start stands.
  abbrev pub cell_from : ℕ → Option ℕ → Cell
  cell_from a None = record { value = slice_index q.start a; mark = mark.Start }
  cell_from a (Some k) = left_by (slice_index_or w.order k (access_at 0 0))

  -- Cell a: value and mark of the last store to it in the order; without one the start stands.
  abbrev pub fixed_cell : ℕ → Cell
  fixed_cell a = cell_from a (last_store a)
