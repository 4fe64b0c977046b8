-- What is said of the lines of a file of cases.
use Rattle.std.specs.Prelude.{◌≡◌, ℕ, true, ◌⊎◌, List, [], ◌∷◌, ◌++◌, Some, string_bytes, codes, ◌≢◌, slice_index}
use Rattle.cuckooshelf.specs.declared.commands.vectors.Outcome.{Outcome}
use Rattle.cuckooshelf.specs.declared.commands.vectors.Outcome.TheVariants.{NoCase, Skipped, Agrees, Differs, Malformed}
use Rattle.cuckooshelf.specs.Answers.{RightAnswer, is_awaited}

-- The line is a case: the name of its form, operands, and the answer that is expected.
pub record Case (line form operands expected : List ℕ) : Type 0 where
  pub whole : line ≡ form ++ (32 ∷ (operands ++ (codes " => " ++ expected)))

-- An outcome that is right for the line: what agrees has a right answer to its case, what differs has another than the expected one, and that is right.
abbrev pub Judged : List ℕ → Outcome → Type 0
Judged line NoCase = (line ≡ []) ⊎ (slice_index line 0 ≡ 35)
Judged line Skipped = (form : List ℕ) × (rest : List ℕ) × (line ≡ form ++ (32 ∷ rest)) × (is_awaited form ≡ true)
Judged line Agrees =
    (form : List ℕ) × (operands : List ℕ) × (expected : List ℕ) × Case line form operands expected × RightAnswer form operands (Some expected)
Judged line (Differs expected answer) =
    (form : List ℕ) × (operands : List ℕ) × Case line form operands expected.now × RightAnswer form operands (Some (string_bytes answer))
    × (string_bytes answer ≢ expected.now)
Judged line Malformed = Unit {0}
