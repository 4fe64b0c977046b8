-- Pieces that are joined one after the other, up to a capacity.
use Rattle.std.proofs.Common.{◌≡◌, ℕ, ◌+◌, ◌*◌, ◌<◌, List, [], ◌∷◌, ◌++◌, map, length, get_or, take, sym, refl, ap, ◌∙◌, add_comm, mul-zero, mul-suc}
use Rattle.std.specs.List.{flat_map}
use Rattle.std.proofs.lemmas.List.{flat_map_more, length-append, take_more}
use Rattle.bounded.proofs.Takes.{take_append_take}

-- The pieces up to i, and the one at i.
pub joined_next : {X A : Type 0} (f : X → List A) (n : ℕ) (xs : List X) (i : ℕ) (d : X) → i < length xs →
    take n (take n (flat_map f (take i xs)) ++ f (get_or xs i d)) ≡ take n (flat_map f (take (i + 1) xs))
joined_next f n xs i d l =
    take_append_take n (flat_map f (take i xs)) (f (get_or xs i d))
    ∙ ap (take n) (flat_map_more f [] (take i xs) (get_or xs i d) ∙ ap (flat_map f) (sym (take_more xs i d l)))

-- Pieces of mapped elements.
pub joined_map : {X Y A : Type 0} (f : Y → List A) (g : X → Y) (xs : List X) → flat_map f (map g xs) ≡ flat_map (λ x. f (g x)) xs
joined_map f g [] = refl
joined_map f g (x ∷ xs) = ap (◌++◌ (f (g x))) (joined_map f g xs)

-- Pieces that are all n long.
pub length_joined : {X A : Type 0} (f : X → List A) (n : ℕ) → ((x : X) → length (f x) ≡ n) → (xs : List X) → length (flat_map f xs) ≡ n * length xs
length_joined f n h [] = sym (mul-zero n)
length_joined f n h (x ∷ xs) =
    length-append (f x) (flat_map f xs) ∙ ap (λ k. k + length (flat_map f xs)) (h x) ∙ ap (λ k. n + k) (length_joined f n h xs)
    ∙ sym (mul-suc n (length xs) ∙ add_comm (n * length xs) n)
