-- What the types of the code stand for.
use Rattle.std.specs.Prelude.{ℕ, Bool, false, not, ◌&&◌, ◌||◌, ⊤, List, Ok, Err, Result, ◌==◌, nat_lt, slice_index_or}
use Rattle.instructions.specs.Kinds.{access}
use Rattle.question.specs.Litmus.{Litmus}
use Rattle.question.specs.Views.{litmus_of}
use Rattle.witness.specs.Execution.{Execution}
use Rattle.witness.specs.Views.{execution_of}
use Rattle.checker.specs.Fixed.{stores_to}
use Rattle.checker.specs.Terms.{instruction, cell}
use Rattle.checker.specs.Tests.{ordered, rank}
use Rattle.checker.specs.declared.evaluated.Evaluated.{Evaluated}
use Rattle.checker.specs.declared.axiom.Axiom.{Axiom}
use Rattle.checker.specs.declared.axiom.Axiom.TheVariants.{Path, Order, Source, InstOrder, LoadValue}

-- The number of an axiom.
abbrev pub axiom_number : Axiom → ℕ
axiom_number Path = 1
axiom_number Order = 2
axiom_number Source = 3
axiom_number InstOrder = 4
axiom_number LoadValue = 5

-- The number of a verdict: 0 where the witness is accepted.
abbrev pub verdict_number : Result ⊤ Axiom → ℕ
verdict_number (Ok _) = 0
verdict_number (Err a) = axiom_number a

-- The question of an evaluated witness, and the witness.
abbrev pub asked : Evaluated → Litmus
asked e = litmus_of e.question.now

abbrev pub stated : Evaluated → Execution
stated e = execution_of e.witness.now

-- If the accesses at i and j of processor p are kept in their order by a row of what is reached from i, then they stand so in the order.
abbrev pub kept_by_row : Litmus → Execution → List Bool → ℕ → ℕ → ℕ → Bool
kept_by_row q w row p i j =
    not (access (instruction q w p i) && (access (instruction q w p j) && slice_index_or row j false)) || nat_lt (rank q w p i) (rank q w p j)

-- The access at number k of the order is a store to the cell of position i of processor p, before number n in the order or in its own path.
abbrev pub candidate_before : Litmus → Execution → ℕ → ℕ → ℕ → ℕ → Bool
candidate_before q w n p i k =
    stores_to q w (cell q w p i) (ordered q w k) && (nat_lt k n || ((ordered q w k).processor == p && nat_lt (ordered q w k).position i))
