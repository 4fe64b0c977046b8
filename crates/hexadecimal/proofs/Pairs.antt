-- The bytes of pairs of digits are found pair by pair, front to back.
use Rattle.std.proofs.Common.{◌≡◌, ℕ, ◌-◌, ◌≤◌, List, [], ◌∷◌, ◌++◌, length, get_or, take, drop, Some, None, Option, sym, refl, ap, ◌∙◌, append_assoc, append-nil, arith}
use Rattle.std.proofs.lemmas.List.{take_all, length-drop}
use Rattle.std.specs.Option.{option_map}
use Rattle.hexadecimal.specs.Hex.{pair_value, in_front, pairs_bytes}

-- These bytes in front of others, where there are others.
abbrev pub before : List ℕ → Option (List ℕ) → Option (List ℕ)
before bs o = option_map (λ l. bs ++ l) o

-- A text of two digits or more states the byte of the first two in front of the others.
pub pairs_of_two : (s : List ℕ) → 2 ≤ length s → pairs_bytes s ≡ in_front (pair_value (get_or s 0 0) (get_or s 1 0)) (pairs_bytes (drop 2 s))
unfolding pairs_bytes
pairs_of_two [] h = absurd (omega arith)
pairs_of_two (a ∷ []) h = absurd (omega arith)
pairs_of_two (a ∷ b ∷ s) h = refl

-- A byte behind those in front joins them.
before_push : (bs : List ℕ) (b : ℕ) (o : Option (List ℕ)) → before (bs ++ b ∷ []) o ≡ before bs (in_front (Some b) o)
before_push bs b None = refl
before_push bs b (Some l) = ap (λ (x : List ℕ). Some x) (append_assoc bs (b ∷ []) l)

module _ (bs s : List ℕ) (t : Option (List ℕ)) (e : before bs (pairs_bytes s) ≡ t) where
  -- What the text states, by its first two digits.
  by_two : 2 ≤ length s → before bs (in_front (pair_value (get_or s 0 0) (get_or s 1 0)) (pairs_bytes (drop 2 s))) ≡ t
  by_two h = rw (← pairs_of_two s h) e

  -- Two digits that state a byte: it joins those in front, and the text goes on behind the two.
  pub pair_joins : (b : ℕ) (joined : List ℕ) → 2 ≤ length s → pair_value (get_or s 0 0) (get_or s 1 0) ≡ Some b → joined ≡ bs ++ b ∷ [] →
      before joined (pairs_bytes (take (length s - 2) (drop 2 s))) ≡ t
  pair_joins b joined h p q =
      rw (q, take_all (length s - 2) (drop 2 s) (omega (arith, length-drop 2 s)))
      (before_push bs b (pairs_bytes (drop 2 s)) ∙ (rw p at (by_two h)))

  -- Two bytes that are not digits: the text states nothing.
  pub pair_fails : 2 ≤ length s → pair_value (get_or s 0 0) (get_or s 1 0) ≡ None → None ≡ t
  pair_fails h p = rw p at (by_two h)

-- At the end the bytes in front are all.
pub pairs_end : (bs s : List ℕ) (t : Option (List ℕ)) → before bs (pairs_bytes s) ≡ t → length s ≡ 0 → Some bs ≡ t
unfolding pairs_bytes
pairs_end bs [] t e h = ap (λ (x : List ℕ). Some x) (sym (append-nil bs)) ∙ e
pairs_end bs (a ∷ s) t e h = absurd (omega arith)

-- A digit is left over: the text states nothing.
pub pairs_odd : (bs s : List ℕ) (t : Option (List ℕ)) → before bs (pairs_bytes s) ≡ t → length s ≡ 1 → None ≡ t
unfolding pairs_bytes
pairs_odd bs [] t e h = absurd (omega arith)
pairs_odd bs (a ∷ []) t e h = e
pairs_odd bs (a ∷ b ∷ s) t e h = absurd (omega arith)
