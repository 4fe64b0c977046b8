-- A processor field in a draft.
use Rattle.std.proofs.Common.{◌≡◌, ℕ, ◌<◌, Bool, true, false, cond, List, [], ◌∷◌, ◌++◌, length, Ok, Err, Result, refl}
use Rattle.std.proofs.lemmas.Bool.{lt-ltb}
use Rattle.fields.specs.declared.refusal.Refusal.{Refusal}
use Rattle.fields.specs.declared.refusal.Refusal.TheVariants.{LengthNotAllowed}
use Rattle.fields.specs.Rows.{then, tested}
use Rattle.instructions.specs.declared.instruction.Instruction.{Instruction}
use Rattle.question.specs.Codes.{code_of, code_fits}
use Rattle.question.specs.Read.{Draft, question_format}
use Rattle.question.specs.Views.{processor_cut}

-- The draft with one processor more.
abbrev pub with_code : Draft → List Instruction → Draft
with_code s is = record { empty = false; start = s.start; code = s.code ++ is ∷ [] }

-- A test in front of an answer that goes on.
then_tested : {A B : Type 0} (t : Bool) (r : Result A Refusal) (next : A → Result B Refusal) (e : Refusal) →
    cond t (then r next) (Err e) ≡ then (cond t r (Err e)) next
then_tested true r next e = refl
then_tested false r next e = refl

pub processor_tested : (s : Draft) (b : List ℕ) → length s.code < 4 →
    tested question_format s (processor_cut b) ≡ then (cond (code_fits (length b)) (code_of b) (Err LengthNotAllowed)) (λ is. Ok (with_code s is))
processor_tested s b l =
    rw (lt-ltb (length s.code) 4 l) (then_tested (code_fits (length b)) (code_of b) (λ is. Ok (with_code s is)) LengthNotAllowed)
