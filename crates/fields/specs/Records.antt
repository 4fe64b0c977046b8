-- The records in a field's contents.
use Rattle.std.specs.Prelude.{ℕ, ◌*◌, ◌/◌, ◌%◌, cond, ◌&&◌, List, length, Ok, Err, Result, ◌==◌, nat_le}
use Rattle.std.specs.Simd.{first_chunks}
use Rattle.fields.specs.declared.refusal.Refusal.{Refusal}
use Rattle.fields.specs.declared.refusal.Refusal.TheVariants.{LengthNotAllowed}

-- Whole records of n bytes, at most so many.
abbrev pub split_records : ℕ → ℕ → List ℕ → Result (List (List ℕ)) Refusal
split_records n most b =
    cond (nat_le (length b) (n * most) && length b % n == 0) (Ok (first_chunks n (length b / n) b)) (Err LengthNotAllowed)
