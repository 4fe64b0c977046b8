-- What a well-formed witness is and which execution it means; each execution within the bounds has one encoding.
use Rattle.std.specs.Prelude.{◌≡◌, ℕ, ◌<◌, ◌≤◌, ◌↔◌, List, length, Ok}
use Rattle.std.specs.List.{AllByRecursion}
use Rattle.witness.specs.Bytes.{bytes_of}
use Rattle.witness.specs.Execution.{Execution, Within}
use Rattle.witness.specs.Read.{witness_of}

-- Accepted are exactly the encodings of executions within the bounds, as those.
abbrev pub WitnessesAreReadAsTheyMean : Type 0
WitnessesAreReadAsTheyMean =
    (b : List ℕ) → AllByRecursion (λ x. x < 256) b → (w : Execution) → (witness_of b ≡ Ok w) ↔ (Within w × (b ≡ bytes_of w))

-- Writing a witness and reading it back gives the same witness.
abbrev pub WrittenWitnessesAreReadBack : Type 0
WrittenWitnessesAreReadBack = (w : Execution) → Within w → witness_of (bytes_of w) ≡ Ok w

-- A witness has at most 466 bytes.
abbrev pub WitnessesHaveAtMost466Bytes : Type 0
WitnessesHaveAtMost466Bytes = (w : Execution) → Within w → length (bytes_of w) ≤ 466
