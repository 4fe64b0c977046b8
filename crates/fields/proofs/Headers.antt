-- A field that ends within the bytes is cut off as its header says.
use Rattle.std.proofs.Common.{◌≡◌, ℕ, ◌≤◌, List, [], ◌∷◌, length, get_or, take, drop, Ok, arith}
use Rattle.std.proofs.lemmas.Bool.{le-ltb}
use Rattle.fields.specs.Fields.{word, split_field}

-- The size that the header of some bytes states.
abbrev pub stated : List ℕ → ℕ
stated b = word (get_or b 1 0) (get_or b 2 0)

pub split_whole : (b : List ℕ) → 3 ≤ length b → stated b ≤ length (drop 3 b) →
    split_field b ≡ Ok (record { tag = get_or b 0 0; contents = take (stated b) (drop 3 b); rest = drop (stated b) (drop 3 b) })
split_whole [] h l = absurd (omega arith)
split_whole (tag ∷ []) h l = absurd (omega arith)
split_whole (tag ∷ high ∷ []) h l = absurd (omega arith)
split_whole (tag ∷ high ∷ low ∷ b) h l = rw (le-ltb (length b) (word high low) l)
