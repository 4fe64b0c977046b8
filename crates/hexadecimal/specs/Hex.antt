-- Bytes in hexadecimal: two digits a byte, upper or lower case.
use Rattle.std.specs.Prelude.{ℕ, ◌+◌, ◌-◌, ◌*◌, Bool, cond, ◌&&◌, List, [], ◌∷◌, length, Some, None, Option, ◌==◌, nat_le, slice_index}
use Rattle.std.specs.Option.{option_map}

-- The byte lies between the two.
abbrev pub between : ℕ → ℕ → ℕ → Bool
between low high b = nat_le low b && nat_le b high

-- The value of a digit: 0 to 9, A to F, a to f.
abbrev pub digit_value : ℕ → Option ℕ
digit_value b =
    cond (between 48 57 b) (Some (b - 48))
    (cond (between 65 70 b) (Some (b - 65 + 10))
    (cond (between 97 102 b) (Some (b - 97 + 10)) None))

-- A byte from the values of its two digits.
abbrev pub both : Option ℕ → Option ℕ → Option ℕ
both None l = None
both (Some h) None = None
both (Some h) (Some l) = Some (h * 16 + l)

-- The byte that two digits state.
abbrev pub pair_value : ℕ → ℕ → Option ℕ
pair_value high low = both (digit_value high) (digit_value low)

-- A byte in front of other bytes, where both are there.
abbrev pub in_front : Option ℕ → Option (List ℕ) → Option (List ℕ)
in_front None bytes = None
in_front (Some b) bytes = option_map (λ bs. b ∷ bs) bytes

-- The bytes that pairs of digits state; none where a digit is wrong or one is left over.
unfoldable pub pairs_bytes : List ℕ → Option (List ℕ)
pairs_bytes [] = Some []
pairs_bytes (high ∷ []) = None
pairs_bytes (high ∷ low ∷ text) = in_front (pair_value high low) (pairs_bytes text)

-- The text is a lone dash.
abbrev pub is_dash : List ℕ → Bool
is_dash text = length text == 1 && slice_index text 0 == 45

-- The bytes that a text states: a lone dash states no bytes.
abbrev pub hex_bytes : List ℕ → Option (List ℕ)
hex_bytes text = cond (is_dash text) (Some []) (pairs_bytes text)
