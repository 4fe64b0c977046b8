-- The text of a refusal.
use Rattle.std.specs.Prelude.{ℕ, List, ◌++◌, codes, decimal}
use Rattle.fields.specs.declared.refusal.Refusal.{Refusal}
use Rattle.fields.specs.declared.refusal.Refusal.TheVariants.{FieldPastInput, TagNotAllowed, LengthNotAllowed, CellAddressNotAllowed, KindOrRegisterNotAllowed, NumberNotAllowed, RuleOrProcessorAbsent, FetchAtEnd, BufferFull, PositionOrGuessNotAllowed, KindDoesNotSuitRule, StepAlreadyMade, OperandWanting, HeldBack, RunUnfinished, AreaTooShort, WitnessNotAccepted, Absent}
use Rattle.fields.specs.Refusals.{refusal_number}

-- What a refusal is for.
abbrev pub cause_text : Refusal → List ℕ
cause_text FieldPastInput = codes "a field runs past the input"
cause_text TagNotAllowed = codes "a field's tag is unknown, repeated, misplaced or missing"
cause_text LengthNotAllowed = codes "a field's length is not allowed"
cause_text CellAddressNotAllowed = codes "a cell address is not allowed"
cause_text KindOrRegisterNotAllowed = codes "a kind or register byte is not allowed"
cause_text NumberNotAllowed = codes "a number k or j is not allowed"
cause_text RuleOrProcessorAbsent = codes "the rule is not 1 to 8, or the processor is absent"
cause_text FetchAtEnd = codes "a fetch at the end of the code"
cause_text BufferFull = codes "a fetch with sixteen entries"
cause_text PositionOrGuessNotAllowed = codes "the position or the guess is not allowed"
cause_text KindDoesNotSuitRule = codes "the entry's kind does not suit the rule"
cause_text StepAlreadyMade = codes "the step was already made"
cause_text OperandWanting = codes "the entry's own register, address or data is wanting"
cause_text HeldBack = codes "an older entry holds it back"
cause_text RunUnfinished = codes "the run was closed unfinished"
cause_text AreaTooShort = codes "the output area is too short"
cause_text WitnessNotAccepted = codes "the witness is not accepted"
cause_text Absent = codes "the processor, register or cell is absent"

-- The number and what it is for.
abbrev pub refusal_text : Refusal → List ℕ
refusal_text r = codes "refused " ++ (decimal (refusal_number r) ++ (codes ": " ++ cause_text r))
