-- The text of an access.
use Rattle.std.specs.Prelude.{ℕ, List, ◌++◌, codes, decimal}
use Rattle.witness.specs.declared.record.Access.{Access}

-- The processor and the position.
abbrev pub access_text : Access → List ℕ
access_text a = decimal a.processor ++ (codes ":" ++ decimal a.position)
