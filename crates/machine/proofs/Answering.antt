-- What a finished run answers of its registers.
use Rattle.std.proofs.Common.{◌≡◌, ℕ, ◌<◌, ◌≤◌, true, ◌⊎◌, [], length, get_or, Ok, Err, inl, inr}
use Rattle.std.proofs.lemmas.Bool.{lt-ltb, le-ltb}
use Rattle.fields.specs.declared.refusal.Refusal.TheVariants.{Absent}
use Rattle.machine.specs.Results.{Closed, register_answer}

-- A register that there is.
pub register_given : (x : Closed) (p r : ℕ) → x.finished ≡ true → p < length x.registers → r < 8 →
    Ok (get_or (get_or x.registers p []) r 0) ≡ register_answer x p r
register_given x p r f l m = rw (f, lt-ltb p (length x.registers) l, lt-ltb r 8 m)

-- A processor or a register that there is not.
pub register_absent : (x : Closed) (p r : ℕ) → x.finished ≡ true → (length x.registers ≤ p) ⊎ ((p < length x.registers) × (8 ≤ r)) →
    Err Absent ≡ register_answer x p r
register_absent x p r f (inl l) = rw (f, le-ltb p (length x.registers) l)
register_absent x p r f (inr (l, m)) = rw (f, lt-ltb p (length x.registers) l, le-ltb r 8 m)
