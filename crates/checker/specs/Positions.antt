-- Tests of the positions of a witness's paths.
use Rattle.std.specs.Prelude.{◌≡◌, ℕ, Bool, length}
use Rattle.witness.specs.Execution.{Execution}
use Rattle.events.specs.Sources.{path_at}
use Rattle.checker.specs.Tests.{all_below}
use Rattle.checker.specs.declared.position.Position.{Position}

-- What a closure answers of a position is what t says of it.
abbrev pub Computes : {F : Type 0} → (F → Position → Bool → Type 0) → F → (ℕ → ℕ → Bool) → Type 0
Computes post test t = (at : Position) (b : Bool) → post test at b → b ≡ t at.processor at.position

-- Every position of every path passes.
abbrev pub every_position : Execution → (ℕ → ℕ → Bool) → Bool
every_position w t = all_below (λ p. all_below (t p) (length (path_at w p))) (length w.paths)
