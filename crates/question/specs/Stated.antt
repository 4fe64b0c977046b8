-- The six fields that the code has read, with the number of their kind.
use Rattle.question.specs.declared.decode.Raw.{Raw as Held}
use Rattle.question.specs.Instructions.{Raw}
use Rattle.question.specs.Kinds.{kind_number}

-- The fields as bytes state them.
abbrev pub stated : Held → Raw
stated r = record { kind = kind_number r.kind; d = r.d; s1 = r.s1; s2 = r.s2; k = r.k; j = r.j }
