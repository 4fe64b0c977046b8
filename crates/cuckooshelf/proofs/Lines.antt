-- The parts of a line are those of a case.
use Rattle.std.proofs.Common.{◌≡◌, ℕ, Bool, true, false, List, [], ◌∷◌, ◌++◌, length, Some, codes, Decides, Option, sym, refl, ap, ◌∙◌, subst, arith}
use Rattle.std.proofs.lemmas.Slice.Eq.{bytes_eq-Decides}
use Rattle.std.specs.Option.{option_map}
use Rattle.std.specs.Str.{bytes_eq}
use Rattle.cuckooshelf.specs.Lines.{Case}

-- A line without bytes is empty.
pub none_is_empty : (line : List ℕ) → length line ≡ 0 → line ≡ []
none_is_empty [] h = refl
none_is_empty (b ∷ line) h = absurd (omega arith)

-- A word, a blank, operands, an arrow and an answer are a case.
pub case_from_parts : {line form rest operands expected : List ℕ} → line ≡ form ++ (32 ∷ rest) → rest ≡ operands ++ (codes " => " ++ expected) →
    Case line form operands expected
case_from_parts {form = form} p q = record { whole = p ∙ ap (λ (r : List ℕ). form ++ (32 ∷ r)) q }

-- What is right of an answer is right of the text that was found.
pub found_answer : {S : Type 0} (text : S → List ℕ) (o : Option S) (x : S) (Right : Option (List ℕ) → Type 0) → Right (option_map text o) → o ≡ Some x → Right (Some (text x))
found_answer text o x Right p q = subst Right (ap (option_map text) q) p

-- A comparison of texts is true exactly where they are equal.
compared : (text expected : List ℕ) (b : Bool) → b ≡ bytes_eq text expected → Decides b (text ≡ expected)
compared text expected b e = subst (λ v. Decides v (text ≡ expected)) (sym e) (bytes_eq-Decides text expected)

-- A comparison that came out true: the answer is the expected one.
pub answer_agrees : (Right : Option (List ℕ) → Type 0) (answer text expected : List ℕ) (b : Bool) → Right (Some answer) → text ≡ answer →
    b ≡ bytes_eq text expected → b ≡ true → Right (Some expected)
answer_agrees Right answer text expected b p q e t = subst Right (ap Some (sym q ∙ (compared text expected b e).0 t)) p

-- A comparison that came out false: the answer is another.
pub answer_differs : (answer text expected : List ℕ) (b : Bool) → text ≡ answer → b ≡ bytes_eq text expected → b ≡ false → answer ≡ expected → ⊥
answer_differs answer text expected b q w f e = absurd (let t : b ≡ true = (compared text expected b w).1 (q ∙ e) in let z : ◌≡◌ {A = ℕ} 0 1 = cc in omega arith)
