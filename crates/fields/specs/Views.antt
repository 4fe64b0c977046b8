-- What the answer of the field reader says of the bytes.
use Rattle.std.specs.Prelude.{Ok, Err, Result}
use Rattle.fields.specs.declared.refusal.Refusal.{Refusal}
use Rattle.fields.specs.declared.field.Split.{Split}
use Rattle.fields.specs.Fields.{Cut}

-- A field that was cut off, with the bytes that its slices point to.
abbrev pub cut : Split → Cut
cut s = record { tag = s.tag; contents = s.contents.now; rest = s.rest.now }

-- The answer with the bytes that its slices point to.
abbrev pub field_split : Result Split Refusal → Result Cut Refusal
field_split (Ok s) = Ok (cut s)
field_split (Err e) = Err e
