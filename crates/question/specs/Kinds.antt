-- The kinds of instructions by their numbers.
use Rattle.std.specs.Prelude.{ℕ, cond, Some, None, Option, ◌==◌}
use Rattle.question.specs.declared.table.Kind.{Kind}
use Rattle.question.specs.declared.table.Kind.TheVariants as kind

-- The kind with this number.
abbrev pub kind_of : ℕ → Option Kind
kind_of n =
    cond (n == 1) (Some kind.Add)
    (cond (n == 2) (Some kind.Subtract)
    (cond (n == 3) (Some kind.Load)
    (cond (n == 4) (Some kind.Store)
    (cond (n == 5) (Some kind.Branch)
    (cond (n == 6) (Some kind.Fence) None)))))

-- The number of a kind.
abbrev pub kind_number : Kind → ℕ
kind_number kind.Add = 1
kind_number kind.Subtract = 2
kind_number kind.Load = 3
kind_number kind.Store = 4
kind_number kind.Branch = 5
kind_number kind.Fence = 6
