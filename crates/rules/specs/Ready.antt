-- A register as an entry sees it.
use Rattle.std.specs.Prelude.{ℕ, Bool, cond, List, Some, None, Option}
use Rattle.instructions.specs.Kinds.{writes}
use Rattle.search.specs.Search.{nearest, passes}
use Rattle.rules.specs.declared.entry.Entry.{Entry}
use Rattle.rules.specs.Entries.{at}

-- The entry writes the register.
abbrev pub writes_register : ℕ → Entry → Bool
writes_register r e = writes e.instruction r

-- The nearest writer of the register that is older than position i.
abbrev pub writer : List Entry → ℕ → ℕ → Option ℕ
writer es r i = nearest (passes (writes_register r) es) i

-- The result of a writer once it is done; 0 where there is none.
abbrev pub written_by : List Entry → Option ℕ → Option ℕ
written_by es None = Some 0
written_by es (Some j) = cond (at es j).done (Some (at es j).value) None

-- The value of an operand of the entry at i, if it is ready; an absent operand is 0.
abbrev pub ready : List Entry → ℕ → Option ℕ → Option ℕ
ready es i None = Some 0
ready es i (Some r) = written_by es (writer es r i)
