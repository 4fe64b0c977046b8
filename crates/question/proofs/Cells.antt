-- Records of a cell field, read one after the other.
use Rattle.std.proofs.Common.{◌≡◌, ℕ, ◌+◌, ◌<◌, ◌≤◌, false, ◌&&◌, ltb, leb, ◌⊎◌, List, [], ◌∷◌, ◌++◌, length, get_or, drop, set, Ok, Err, refl, ap, ◌∙◌, inl, inr, add-one, arith}
use Rattle.std.proofs.lemmas.List.{drop_all}
use Rattle.std.proofs.lemmas.Bool.{le-leb, lt-leb, lt-ltb, le-ltb, and_left, and_right}
use Rattle.fields.specs.declared.refusal.Refusal.TheVariants.{CellAddressNotAllowed}
use Rattle.fields.specs.Fields.{word}
use Rattle.question.specs.Cells.{cells_from}

-- A list of three.
three : (r : List ℕ) → length r ≡ 3 → r ≡ get_or r 0 0 ∷ get_or r 1 0 ∷ get_or r 2 0 ∷ []
three [] h = absurd (omega arith)
three (a ∷ []) h = absurd (omega arith)
three (a ∷ b ∷ []) h = absurd (omega arith)
three (a ∷ b ∷ c ∷ []) h = refl
three (a ∷ b ∷ c ∷ d ∷ r) h = absurd (omega arith)

module _ (r rest cs : List ℕ) (least : ℕ) (h : length r ≡ 3) where
  abbrev address : ℕ
  address = get_or r 0 0

  pub cells_more : least ≤ address → address < 16 →
      cells_from least cs (r ++ rest) ≡ cells_from (address + 1) (set cs address (word (get_or r 1 0) (get_or r 2 0))) rest
  unfolding cells_from
  cells_more l u =
      ap (λ t. cells_from least cs (t ++ rest)) (three r h) ∙ rw (le-leb least address l, lt-ltb address 16 u, add-one address)

  pub cells_fault : (address < least) ⊎ (16 ≤ address) → cells_from least cs (r ++ rest) ≡ Err CellAddressNotAllowed
  unfolding cells_from
  cells_fault f = ap (λ t. cells_from least cs (t ++ rest)) (three r h) ∙ rw refused
    where
      refused : (leb least address && ltb address 16) ≡ false
      refused = elim f [ inl l ↦ and_left _ _ (lt-leb least address l) | inr u ↦ and_right (leb least address) _ (le-ltb address 16 u) ]

pub cells_all : (b cs : List ℕ) (least i : ℕ) → length b ≤ i → cells_from least cs (drop i b) ≡ Ok cs
unfolding cells_from
cells_all b cs least i h = rw (drop_all i b h)
