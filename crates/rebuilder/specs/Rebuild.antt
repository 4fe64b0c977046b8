-- An area of 1,024 bytes is enough.
use Rattle.std.specs.Prelude.{◌≡◌, ℕ, ◌≤◌, List, ◌++◌, length, drop, Ok}
use Rattle.question.specs.Litmus.{Litmus}
use Rattle.witness.specs.Execution.{Execution, Within}
use Rattle.ordering.specs.Rules.{gam}
use Rattle.checker.specs.Axioms.{Axioms}
use Rattle.reachable.specs.Checked.{Checked}
use Rattle.completeness.specs.Rebuild.{rebuild_answer, rebuild_area}
use Rattle.completeness.specs.StepsFor.{steps_for, bytes_of_steps}

-- Of every checked question and every witness within the bounds of which the axioms of GAM hold: an area of 1024 bytes is enough, and gets the bytes of the steps in front of what was there.
abbrev pub AreasOf1024BytesAreEnough : Type 0
AreasOf1024BytesAreEnough =
    (q : Litmus) → Checked q → (w : Execution) → Within w → Axioms gam q w → (area : List ℕ) → 1024 ≤ length area →
    (rebuild_answer q w area ≡ Ok (length (bytes_of_steps (steps_for q w))))
    × (rebuild_area q w area ≡ bytes_of_steps (steps_for q w) ++ drop (length (bytes_of_steps (steps_for q w))) area)
