-- The answers to cases, in words.
use Rattle.std.specs.Prelude.{◌≡◌, ℕ, Bool, false, cond, ◌||◌, List, ◌++◌, None, Ok, Err, codes, decimal, Option, Result}
use Rattle.std.specs.Option.{option_map}
use Rattle.std.specs.Str.{bytes_eq}
use Rattle.fields.specs.declared.refusal.Refusal.{Refusal}
use Rattle.fields.specs.Refusals.{refusal_number}
use Rattle.hexadecimal.specs.Hex.{hex_bytes}
use Rattle.question.specs.Read.{question_of}

-- Refused, with the number of the refusal.
abbrev pub refused_answer : Refusal → List ℕ
refused_answer e = codes "refused " ++ decimal (refusal_number e)

-- Read, or refused with its number.
abbrev pub read_answer : {V : Type 0} → Result V Refusal → List ℕ
read_answer (Ok v) = codes "ok"
read_answer (Err e) = refused_answer e

-- The answer to `question Q`; none where Q is not in hexadecimal.
abbrev pub question_answer : List ℕ → Option (List ℕ)
question_answer text = option_map (λ b. read_answer (question_of b)) (hex_bytes text)

-- The answer to a case that is not `run`, by the name of its form; none for other names.
abbrev pub case_answer : List ℕ → List ℕ → Option (List ℕ)
case_answer form operands = cond (bytes_eq form (codes "question")) (question_answer operands) None

-- An answer that is right for a case; of the answers to `run`, nothing is stated.
abbrev pub RightAnswer : List ℕ → List ℕ → Option (List ℕ) → Type 0
RightAnswer form operands answer = bytes_eq form (codes "run") ≡ false → answer ≡ case_answer form operands

-- The names of the forms to which there is no answer yet.
abbrev pub is_awaited : List ℕ → Bool
is_awaited form = bytes_eq form (codes "check") || bytes_eq form (codes "rebuild")
