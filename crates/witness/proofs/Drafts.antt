-- The paths of a draft after one more.
use Rattle.std.proofs.Common.{◌≡◌, ℕ, ◌<◌, [], ◌∷◌, ◌++◌, map, length, take, ap, ◌∙◌, arith}
use Rattle.std.proofs.lemmas.List.{length_push, map_push, take_all}
use Rattle.bounded.specs.declared.vector.Bounded.{Bounded}
use Rattle.bounded.specs.Items.{items}

-- Where there is room, a path that is added stands at the end.
pub paths_pushed : (v w : Bounded (Bounded ℕ 16) 4) (p : Bounded ℕ 16) → length (items v) < 4 → items w ≡ take 4 (items v ++ p ∷ []) →
    map items (items w) ≡ map items (items v) ++ items p ∷ []
paths_pushed v w p l h = ap (map items) (h ∙ take_all 4 (items v ++ p ∷ []) (omega (arith, length_push (items v) p))) ∙ map_push items (items v) p
