-- The library's reading of two digits is the one stated here.
use Rattle.std.proofs.Common.{◌≡◌, ℕ, ◌+◌, ◌*◌, List, [], ◌∷◌, Some, None, Option, Ok, refl, arith, slice_index_or}
use Rattle.std.specs.Option.{option_map}
use Rattle.std.specs.Result.{result_ok}
use Rattle.std.proofs.lemmas.Bool.Decides.{nat_tests}
use Rattle.hex.specs.Hex.{hex_digit_value, digit_or_error, decode_pairs, decode_sized}
use Rattle.hex.specs.Hex as hex
use Rattle.hex.proofs.HexLemmas.{decode_of-even, decode_sized-twice}
use Rattle.hexadecimal.specs.Hex.{digit_value, both, pair_value}

-- A digit has the same value.
digit_same : (c : ℕ) → hex_digit_value c ≡ digit_value c
digit_same c = grind (arith, nat_tests)

-- The byte of what the library answers for two digits, if there is one.
abbrev pub byte_of : Option (List ℕ) → Option ℕ
byte_of o = option_map (λ bytes. slice_index_or bytes 0 0) o

-- By the values of the two.
pair_same : (a b : ℕ) (h l : Option ℕ) →
    byte_of (result_ok (hex.◌>>=◌ (hex.◌>>=◌ (digit_or_error a 0 h) (λ x. hex.◌>>=◌ (digit_or_error b 1 l) (λ y. Ok (x * 16 + y)))) (λ byte. hex.◌>>=◌ (Ok []) (λ bytes. Ok (byte ∷ bytes))))) ≡ both h l
pair_same a b None l = refl
pair_same a b (Some h) None = refl
pair_same a b (Some h) (Some l) = refl

-- Two digits, into room for one byte.
pub two_digits : (a b : ℕ) → byte_of (result_ok (decode_sized (a ∷ b ∷ []) 1)) ≡ pair_value a b
unfolding decode_pairs
two_digits a b =
    rw (decode_sized-twice (a ∷ b ∷ []) 1 refl, decode_of-even (a ∷ b ∷ []) refl, ← digit_same a, ← digit_same b) (pair_same a b (hex_digit_value a) (hex_digit_value b))
