-- The litmus test of a question is checked, by the question's ghost fields.
use Rattle.std.proofs.Common.{◌≡◌, ℕ, zero, suc, ◌≤◌, true, List, [], ◌∷◌, map, length, get_or, refl, arith}
use Rattle.std.proofs.lemmas.List.{length-map}
use Rattle.bounded.specs.Items.{items}
use Rattle.bounded.proofs.Fits.{items_fit}
use Rattle.instructions.specs.declared.instruction.Instruction.{Instruction}
use Rattle.question.specs.Sound.{code_sound}
use Rattle.question.specs.Views.{instructions_of}
use Rattle.question.specs.declared.code.Code.{Code}
use Rattle.reachable.specs.Laws.{QuestionsAreChecked}

-- No code is sound.
nothing_sound : code_sound [] ≡ true
unfolding code_sound
nothing_sound = refl

-- What every code keeps, and no code, each code of a list keeps.
each_code : (P : List Instruction → Type 0) → P [] → ((c : Code) → P (instructions_of c)) → (cs : List Code) (p : ℕ) → P (get_or (map instructions_of cs) p [])
each_code P none some [] p = none
each_code P none some (c ∷ cs) zero = some c
each_code P none some (c ∷ cs) (suc p) = each_code P none some cs p

-- Every question is checked.
pub questions_are_checked : QuestionsAreChecked
questions_are_checked q = record {
  sixteen = q.sixteen;
  some = omega (arith, q.some, length-map (items q.processors) instructions_of);
  few = omega (arith, items_fit q.processors, length-map (items q.processors) instructions_of);
  short = each_code (λ is. length is ≤ 16) (omega arith) (λ c. items_fit c.instructions) (items q.processors);
  sound = each_code (λ is. code_sound is ≡ true) nothing_sound (λ c. c.sound) (items q.processors);
}
