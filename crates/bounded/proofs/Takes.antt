-- What a vector holds after more was added than it has room for.
use Rattle.std.proofs.Common.{◌≡◌, ℕ, zero, suc, ◌+◌, ◌-◌, ◌≤◌, min, List, [], ◌∷◌, ◌++◌, length, take, sym, refl, ap, ◌∙◌, arith}
use Rattle.std.proofs.Math.Seq.{take-append-add}
use Rattle.std.proofs.lemmas.List.{append_assoc, take_min}

-- What was cut off before does not matter when more is added.
pub take_append_take : {X : Type 0} (n : ℕ) (xs ys : List X) → take n (take n xs ++ ys) ≡ take n (xs ++ ys)
take_append_take zero xs ys = refl
take_append_take (suc n) [] ys = refl
take_append_take (suc n) (x ∷ xs) ys = ap (◌∷◌ x) (take_append_take n xs ys)

-- Two lists are added one after the other.
pub take_append_both : {X : Type 0} (n : ℕ) (xs ys zs : List X) → take n (take n (xs ++ ys) ++ zs) ≡ take n (xs ++ (ys ++ zs))
take_append_both n xs ys zs = take_append_take n (xs ++ ys) zs ∙ ap (take n) (append_assoc xs ys zs)

-- Of the elements that are added there stay as many as there is room for.
pub take_append_room : {X : Type 0} (n : ℕ) (xs ys : List X) → length xs ≤ n → take n (xs ++ ys) ≡ xs ++ take (min (length ys) (n - length xs)) ys
take_append_room n xs ys l =
    let k = n - length xs in
    let e : n ≡ length xs + k = omega arith in
    let m : min k (length ys) ≡ min (length ys) k = omega arith in
    ap (λ i. take i (xs ++ ys)) e ∙ take-append-add xs ys k ∙ ap (λ t. xs ++ t) (sym (take_min k ys) ∙ ap (λ i. take i ys) m)
