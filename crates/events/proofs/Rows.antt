-- Vectors that are filled one element a turn: what they hold, as long as there is room.
use Rattle.std.proofs.Common.{◌≡◌, ℕ, ◌+◌, ◌<◌, List, [], ◌∷◌, ◌++◌, map, length, take, sym, ap, ◌∙◌, arith}
use Rattle.std.specs.List.{range_with_len}
use Rattle.std.proofs.lemmas.List.FromFn.{map-range_with_len_more, length-map-range_with_len}
use Rattle.std.proofs.lemmas.List.{length_push, length-map, map_push, take_all}

-- One element more, where there is room.
pub push_room : {X : Type 0} (size : ℕ) (xs : List X) (x : X) → length xs < size → take size (xs ++ x ∷ []) ≡ xs ++ x ∷ []
push_room size xs x l = take_all size (xs ++ x ∷ []) (omega (arith, length_push xs x))

module _ {X Y : Type 0} (view : X → Y) (f : ℕ → Y) (size i : ℕ) where
  -- The element for i is added to those for the numbers below it.
  pub counted_push : (all more : List X) (x : X) → i < size → more ≡ take size (all ++ x ∷ []) → map view all ≡ map f (range_with_len 0 i) → view x ≡ f i →
      map view more ≡ map f (range_with_len 0 (i + 1))
  counted_push all more x l e inv h =
      let room : length all < size = omega (arith, length-map all view, ap length inv, length-map-range_with_len f 0 i) in
      ap (map view) (e ∙ push_room size all x room)
      ∙ map_push view all x
      ∙ ap (λ ys. ys ++ view x ∷ []) inv
      ∙ ap (λ y. map f (range_with_len 0 i) ++ y ∷ []) h
      ∙ sym (map-range_with_len_more f 0 i i (omega arith))

-- The same for elements as they are.
pub counted_next : {X : Type 0} (f : ℕ → X) (size i : ℕ) (all more : List X) (x : X) → i < size → more ≡ take size (all ++ x ∷ []) →
    all ≡ map f (range_with_len 0 i) → x ≡ f i → more ≡ map f (range_with_len 0 (i + 1))
counted_next f size i all more x l e inv h =
    let room : length all < size = omega (arith, ap length inv, length-map-range_with_len f 0 i) in
    e ∙ push_room size all x room
    ∙ ap (λ ys. ys ++ x ∷ []) inv
    ∙ ap (λ y. map f (range_with_len 0 i) ++ y ∷ []) h
    ∙ sym (map-range_with_len_more f 0 i i (omega arith))
