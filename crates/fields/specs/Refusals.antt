-- The refusals and their numbers.
use Rattle.std.specs.Prelude.{ℕ}
use Rattle.fields.specs.declared.refusal.Refusal.{Refusal}
use Rattle.fields.specs.declared.refusal.Refusal.TheVariants.{FieldPastInput, TagNotAllowed, LengthNotAllowed, CellAddressNotAllowed, KindOrRegisterNotAllowed, NumberNotAllowed, RuleOrProcessorAbsent, FetchAtEnd, BufferFull, PositionOrGuessNotAllowed, KindDoesNotSuitRule, StepAlreadyMade, OperandWanting, HeldBack, RunUnfinished, AreaTooShort, WitnessNotAccepted, Absent}

-- The number that stands for a refusal.
abbrev pub refusal_number : Refusal → ℕ
refusal_number FieldPastInput = 1
refusal_number TagNotAllowed = 2
refusal_number LengthNotAllowed = 3
refusal_number CellAddressNotAllowed = 4
refusal_number KindOrRegisterNotAllowed = 5
refusal_number NumberNotAllowed = 6
refusal_number RuleOrProcessorAbsent = 7
refusal_number FetchAtEnd = 8
refusal_number BufferFull = 9
refusal_number PositionOrGuessNotAllowed = 10
refusal_number KindDoesNotSuitRule = 11
refusal_number StepAlreadyMade = 12
refusal_number OperandWanting = 13
refusal_number HeldBack = 14
refusal_number RunUnfinished = 15
refusal_number AreaTooShort = 16
refusal_number WitnessNotAccepted = 17
refusal_number Absent = 18
