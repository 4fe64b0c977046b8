-- What a reader's answer means; of a reader that fills a place of the caller: its answer, and what the place means afterwards.
use Rattle.std.specs.Prelude.{Ok, Err, Result}
use Rattle.fields.specs.declared.refusal.Refusal.{Refusal}

-- The answer with what its value means, or the refusal.
abbrev pub read_as : {W V : Type 0} → (W → V) → Result W Refusal → Result V Refusal
read_as meaning (Ok w) = Ok (meaning w)
read_as meaning (Err e) = Err e

-- The answer: nothing, or the refusal.
abbrev pub answered : {V : Type 0} → Result V Refusal → Result (Unit {0}) Refusal
answered (Ok v) = Ok tt
answered (Err e) = Err e

-- What the place means afterwards: what was read, or what it meant before.
abbrev pub filled : {V : Type 0} → V → Result V Refusal → V
filled old (Ok v) = v
filled old (Err e) = old
