-- A question from its bytes.
use Rattle.std.specs.Prelude.{ℕ, Bool, true, false, cond, ◌&&◌, ◌||◌, List, [], ◌∷◌, ◌++◌, length, Ok, Err, Result, ◌==◌, nat_lt}
use Rattle.fields.specs.declared.refusal.Refusal.{Refusal}
use Rattle.fields.specs.declared.refusal.Refusal.TheVariants.{TagNotAllowed}
use Rattle.fields.specs.Fields.{Cut}
use Rattle.fields.specs.Rows.{Format, then, read_row}
use Rattle.instructions.specs.declared.instruction.Instruction.{Instruction}
use Rattle.question.specs.Litmus.{Litmus}
use Rattle.question.specs.Cells.{zeros, cells_from, cells_fit}
use Rattle.question.specs.Codes.{code_of, code_fits}

-- What is known of the fields so far: whether there were none, the start values, the processors' instructions.
pub record Draft : Type 0 where
  pub empty : Bool
  pub start : List ℕ
  pub code : List (List Instruction)

-- Before the first field.
abbrev pub no_fields : Draft
no_fields = record { empty = true; start = zeros; code = [] }

-- The tag of a cell field, 49 in hexadecimal.
abbrev pub cell_tag : ℕ
cell_tag = 73

-- The tag of a processor field, 50 in hexadecimal.
abbrev pub processor_tag : ℕ
processor_tag = 80

-- A question has no other fields.
abbrev pub known : Cut → Result Cut Refusal
known c = cond (c.tag == cell_tag || c.tag == processor_tag) (Ok c) (Err TagNotAllowed)

-- A cell field comes first, and at most four processor fields come.
abbrev pub question_allowed : Draft → ℕ → Bool
question_allowed s tag = cond (tag == cell_tag) s.empty (tag == processor_tag && nat_lt (length s.code) 4)

-- The length that a field's contents may have.
abbrev pub question_fits : ℕ → ℕ → Bool
question_fits tag n = cond (tag == cell_tag) (cells_fit n) (code_fits n)

-- What is known after a field.
abbrev pub question_taken : Draft → ℕ → List ℕ → Result Draft Refusal
question_taken s tag b =
    cond (tag == cell_tag)
    (then (cells_from 0 zeros b) (λ start. Ok (record { empty = false; start = start; code = s.code })))
    (then (code_of b) (λ is. Ok (record { empty = false; start = s.start; code = s.code ++ is ∷ [] })))

-- The question that the fields state; without a processor field one is missing.
abbrev pub question_whole : Draft → Result Litmus Refusal
question_whole s = cond (nat_lt 0 (length s.code)) (Ok (record { start = s.start; code = s.code })) (Err TagNotAllowed)

-- The format of a question: an optional cell field, then one to four processor fields.
abbrev pub question_format : Format Draft Litmus
question_format = record { allowed = question_allowed; fits = question_fits; taken = question_taken; whole = question_whole }

-- The question that these bytes are, or the refusal.
abbrev pub question_of : List ℕ → Result Litmus Refusal
question_of b = read_row question_format no_fields b
