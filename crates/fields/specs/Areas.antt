-- A call that writes bytes to the front of the caller's area.
use Rattle.std.specs.Prelude.{ℕ, cond, List, ◌++◌, length, drop, Ok, Err, Result, nat_lt}
use Rattle.fields.specs.declared.refusal.Refusal.{Refusal}
use Rattle.fields.specs.declared.refusal.Refusal.TheVariants.{AreaTooShort}

-- The answer: how many bytes were written, or a refusal where the area has fewer.
abbrev pub area_answer : List ℕ → List ℕ → Result ℕ Refusal
area_answer bytes area = cond (nat_lt (length area) (length bytes)) (Err AreaTooShort) (Ok (length bytes))

-- The area afterwards: the bytes, and behind them what was there; unchanged where it is too short.
abbrev pub area_after : List ℕ → List ℕ → List ℕ
area_after bytes area = cond (nat_lt (length area) (length bytes)) area (bytes ++ drop (length bytes) area)
