-- Where a value came from.
use Rattle.std.specs.Prelude.{ℕ, List, ◌++◌, Some, None, codes, decimal, Option}
use Rattle.memory.specs.declared.cell.Mark.{Mark}
use Rattle.memory.specs.declared.cell.Mark.TheVariants.{Start, Store}
use Rattle.witness.specs.declared.record.Access.{Access}

-- The store of a mark; none for the start.
abbrev pub marked_store : Mark → Option Access
marked_store Start = None
marked_store (Store p i) = Some (record { processor = p; position = i })

-- The text of a store that a value came from, or of the start.
abbrev pub origin_text : Option Access → List ℕ
origin_text None = codes "from the start"
origin_text (Some a) = codes "from processor " ++ (decimal a.processor ++ (codes " position " ++ decimal a.position))
