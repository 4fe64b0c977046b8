-- What is refused of the bytes that are read.
use Rattle.fields.specs.declared.refusal.Refusal.{Refusal}
use Rattle.cuckooshelf.specs.declared.reading.Refused.{Refused}
use Rattle.cuckooshelf.specs.declared.reading.Refused.TheVariants.{Question, Witness, Run}

-- Why it is refused.
abbrev pub refusal_in : Refused → Refusal
refusal_in (Question e) = e
refusal_in (Witness e) = e
refusal_in (Run e) = e
