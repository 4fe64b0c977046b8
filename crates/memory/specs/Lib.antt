pub mod Cells
pub mod CellList
pub mod SixteenCells
pub mod Rows
