-- What is left of lists that are joined by number.
use Rattle.std.proofs.Common.{◌≡◌, ℕ, ◌+◌, ◌<◌, ◌≤◌, List, [], ◌++◌, drop, ap, ◌∙◌, arith}
use Rattle.std.specs.List.{range_with_len, flat_map}
use Rattle.std.proofs.lemmas.List.FromFn.{length-range_with_len, get_or-range_with_len}
use Rattle.std.proofs.lemmas.List.{drop_all, drop_more}

-- From number i on there is the list of i, then what is left from i + 1 on.
pub left_more : {A : Type 0} (f : ℕ → List A) (n i : ℕ) → i < n → flat_map f (drop i (range_with_len 0 n)) ≡ f i ++ flat_map f (drop (i + 1) (range_with_len 0 n))
left_more f n i l =
    ap (flat_map f) (drop_more (range_with_len 0 n) i 0 (omega (arith, length-range_with_len 0 n)))
    ∙ ap (λ k. f k ++ flat_map f (drop (i + 1) (range_with_len 0 n))) (omega (arith, get_or-range_with_len 0 n i 0 l))

-- Past the last number there is nothing.
pub left_none : {A : Type 0} (f : ℕ → List A) (n i : ℕ) → n ≤ i → flat_map f (drop i (range_with_len 0 n)) ≡ []
left_none f n i l = ap (flat_map f) (drop_all i (range_with_len 0 n) (omega (arith, length-range_with_len 0 n)))
