-- A field as bytes, and the field at the front of some bytes.
use Rattle.std.specs.Prelude.{ℕ, ◌+◌, ◌*◌, ◌/◌, ◌%◌, cond, List, [], ◌∷◌, ◌++◌, length, take, drop, Ok, Err, Result, nat_lt}
use Rattle.fields.specs.declared.refusal.Refusal.{Refusal}
use Rattle.fields.specs.declared.refusal.Refusal.TheVariants.{FieldPastInput}

-- Two bytes as a number, high byte first.
abbrev pub word : ℕ → ℕ → ℕ
word high low = high * 256 + low

-- A number as two bytes, high byte first.
abbrev pub word_bytes : ℕ → List ℕ
word_bytes n = n / 256 ∷ n % 256 ∷ []

-- A field as bytes: its tag, the length of its contents in two bytes, its contents.
abbrev pub field_bytes : ℕ → List ℕ → List ℕ
field_bytes tag contents = tag ∷ (word_bytes (length contents) ++ contents)

-- A field cut off the front of some bytes, with the bytes behind it.
pub record Cut : Type 0 where
  pub tag : ℕ
  pub contents : List ℕ
  pub rest : List ℕ

-- The field at the front of the bytes; refused where it, or its header, runs past them.
abbrev pub split_field : List ℕ → Result Cut Refusal
split_field [] = Err FieldPastInput
split_field (tag ∷ []) = Err FieldPastInput
split_field (tag ∷ high ∷ []) = Err FieldPastInput
split_field (tag ∷ high ∷ low ∷ bytes) =
    cond (nat_lt (length bytes) (word high low)) (Err FieldPastInput)
    (Ok (record { tag = tag; contents = take (word high low) bytes; rest = drop (word high low) bytes }))
