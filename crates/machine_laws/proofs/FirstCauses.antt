-- A first cause: there is one at most, and what becomes of a step is judged by it.
use Rattle.std.proofs.Common.{◌≡◌, ℕ, ◌<◌, List, [], ◌∷◌, get_or, sym, refl, ap, ◌∙◌, inl, inr}
use Rattle.std.proofs.lemmas.Bool.{cases_order}
use Rattle.fields.specs.Refusals.{refusal_number}
use Rattle.fields.specs.declared.refusal.Refusal.{Refusal}
use Rattle.fields.specs.declared.refusal.Refusal.TheVariants.{FieldPastInput, TagNotAllowed, LengthNotAllowed, CellAddressNotAllowed, KindOrRegisterNotAllowed, NumberNotAllowed, RuleOrProcessorAbsent, FetchAtEnd, BufferFull, PositionOrGuessNotAllowed, KindDoesNotSuitRule, StepAlreadyMade, OperandWanting, HeldBack, RunUnfinished, AreaTooShort, WitnessNotAccepted, Absent}
use Rattle.question.specs.Litmus.{Litmus}
use Rattle.machine.specs.declared.step.Step.{Step}
use Rattle.machine.specs.State.{State}
use Rattle.machine.specs.Steps.{Outcome, refused, went}
use Rattle.machine_laws.specs.Causes.{Cause}

-- The refusals by their numbers, from 1 on; none has number 0.
abbrev refusals : List Refusal
refusals =
    Absent ∷ FieldPastInput ∷ TagNotAllowed ∷ LengthNotAllowed ∷ CellAddressNotAllowed ∷ KindOrRegisterNotAllowed ∷ NumberNotAllowed
    ∷ RuleOrProcessorAbsent ∷ FetchAtEnd ∷ BufferFull ∷ PositionOrGuessNotAllowed ∷ KindDoesNotSuitRule ∷ StepAlreadyMade ∷ OperandWanting
    ∷ HeldBack ∷ RunUnfinished ∷ AreaTooShort ∷ WitnessNotAccepted ∷ Absent ∷ []

-- The refusal with a number.
abbrev numbered : ℕ → Refusal
numbered n = get_or refusals n Absent

-- A refusal is the one with its number.
number_names : (e : Refusal) → numbered (refusal_number e) ≡ e
number_names FieldPastInput = refl
number_names TagNotAllowed = refl
number_names LengthNotAllowed = refl
number_names CellAddressNotAllowed = refl
number_names KindOrRegisterNotAllowed = refl
number_names NumberNotAllowed = refl
number_names RuleOrProcessorAbsent = refl
number_names FetchAtEnd = refl
number_names BufferFull = refl
number_names PositionOrGuessNotAllowed = refl
number_names KindDoesNotSuitRule = refl
number_names StepAlreadyMade = refl
number_names OperandWanting = refl
number_names HeldBack = refl
number_names RunUnfinished = refl
number_names AreaTooShort = refl
number_names WitnessNotAccepted = refl
number_names Absent = refl

module _ (q : Litmus) (s : State) (st : Step) where
  -- The refusal is for the first cause that holds.
  abbrev pub First : Refusal → Type 0
  First e = Cause q s st (refusal_number e) × ((k : ℕ) → k < refusal_number e → Cause q s st k → ⊥)

  -- A refused step has its first cause, a step that goes has none.
  abbrev pub Judged : Outcome → Type 0
  Judged (refused e) = First e
  Judged (went n t) = (k : ℕ) → Cause q s st k → ⊥

  -- Two first causes have one number.
  one_number : (e f : Refusal) → First e → First f → refusal_number e ≡ refusal_number f
  one_number e f (a, x) (b, y) = elim (cases_order (refusal_number e) (refusal_number f)) [
    | inl z ↦ z
    | inr (inl l) ↦ absurd (y (refusal_number e) l a)
    | inr (inr l) ↦ absurd (x (refusal_number f) l b)
  ]

  -- Two first causes are one refusal.
  one_first : (e f : Refusal) → First e → First f → e ≡ f
  one_first e f x y = sym (number_names e) ∙ ap numbered (one_number e f x y) ∙ number_names f

  -- What is judged is refused where there is a first cause.
  pub judged_refused : (o : Outcome) → Judged o → (e : Refusal) → First e → o ≡ refused e
  judged_refused (refused f) j e x = ap refused (one_first f e j x)
  judged_refused (went n t) j e x = absurd (j (refusal_number e) x.0)
