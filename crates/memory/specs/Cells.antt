-- Sixteen cells: what a read answers and what a write leaves.
use Rattle.std.specs.Prelude.{ℕ, ◌%◌, List, slice_index_or, slice_set}
use Rattle.memory.specs.declared.cell.Cell.{Cell}
use Rattle.memory.specs.declared.cell.Mark.TheVariants.{Start}

-- A cell that holds 0 from the start.
abbrev pub zero_cell : Cell
zero_cell = record { value = 0; mark = Start }

-- The cell at an address, reduced modulo 16.
abbrev pub cell_at : List Cell → ℕ → Cell
cell_at cells address = slice_index_or cells (address % 16) zero_cell

-- The cells after one of them was written.
abbrev pub written : List Cell → ℕ → Cell → List Cell
written cells address cell = slice_set cells (address % 16) cell
