-- Rows of records joined into one list: where the records of each row stand in it.
use Rattle.std.proofs.Common.{◌≡◌, ℕ, zero, suc, ◌+◌, ◌<◌, ◌≤◌, List, [], ◌∷◌, ◌++◌, length, get_or, refl, ap, ◌∙◌, arith}
use Rattle.std.specs.List.{flat_map}
use Rattle.std.proofs.lemmas.List.{length-append, get_or_append_left, get_or-append-add}

module _ {X A : Type 0} (f : X → List A) where
  -- How many records the first n rows have.
  unfoldable pub counted : List X → ℕ → ℕ
  counted xs zero = 0
  counted [] (suc n) = 0
  counted (x ∷ xs) (suc n) = length (f x) + counted xs n

  pub counted_none : (xs : List X) → counted xs 0 ≡ 0
  unfolding counted
  counted_none xs = refl

  -- One row more.
  pub counted_more : (xs : List X) (n : ℕ) (z : X) → n < length xs → counted xs (suc n) ≡ counted xs n + length (f (get_or xs n z))
  unfolding counted
  counted_more [] n z l = absurd (omega arith)
  counted_more (x ∷ xs) zero z l = omega arith
  counted_more (x ∷ xs) (suc n) z l = omega (arith, counted_more xs n z (omega arith))

  -- All rows.
  pub counted_all : (xs : List X) → length (flat_map f xs) ≡ counted xs (length xs)
  unfolding counted
  counted_all [] = refl
  counted_all (x ∷ xs) = length-append (f x) (flat_map f xs) ∙ ap (λ n. length (f x) + n) (counted_all xs)

  -- A row's records stand within the whole.
  pub counted_within : (xs : List X) (n : ℕ) (z : X) → n < length xs → counted xs n + length (f (get_or xs n z)) ≤ length (flat_map f xs)
  unfolding counted
  counted_within [] n z l = absurd (omega arith)
  counted_within (x ∷ xs) zero z l = omega (arith, length-append (f x) (flat_map f xs))
  counted_within (x ∷ xs) (suc n) z l = omega (arith, counted_within xs n z (omega arith), length-append (f x) (flat_map f xs))

  -- A row's records stand behind those of the rows before it.
  pub joined_at : (xs : List X) (n m : ℕ) (z : X) (d : A) → n < length xs → m < length (f (get_or xs n z)) →
      get_or (flat_map f xs) (counted xs n + m) d ≡ get_or (f (get_or xs n z)) m d
  unfolding counted
  joined_at [] n m z d l h = absurd (omega arith)
  joined_at (x ∷ xs) zero m z d l h =
      let none : 0 + m ≡ m = omega arith in
      ap (λ k. get_or (f x ++ flat_map f xs) k d) none ∙ get_or_append_left (f x) (flat_map f xs) d m h
  joined_at (x ∷ xs) (suc n) m z d l h =
      ap (λ k. get_or (f x ++ flat_map f xs) k d) (the_sum (length (f x)) (counted xs n) m)
      ∙ get_or-append-add (f x) (flat_map f xs) (counted xs n + m) d
      ∙ joined_at xs n m z d (omega arith) h
    where
      the_sum : (a b c : ℕ) → a + b + c ≡ a + (b + c)
      the_sum a b c = omega arith
