-- What is gathered from answers, one more at a time.
use Rattle.std.proofs.Common.{◌≡◌, ℕ, zero, suc, ◌+◌, List, [], ◌∷◌, ◌++◌, Result, Ok, Err, refl, sym, ap, ◌∙◌, append_assoc, append-nil, add-one, arith}
use Rattle.std.specs.List.{range_with_len, flat_map, filter_map, cons_option}
use Rattle.std.specs.Result.{result_ok}
use Rattle.fields.specs.declared.refusal.Refusal.{Refusal}
use Rattle.runs.specs.Records.{given}

-- From any number on.
more_from : {A : Type 0} (f : ℕ → List A) (a n m : ℕ) → a + n ≡ m → flat_map f (range_with_len a (suc n)) ≡ flat_map f (range_with_len a n) ++ f m
more_from f a zero m e =
    let z : a ≡ m = omega arith in
    append-nil (f a) ∙ ap f z
more_from f a (suc n) m e =
    ap (λ xs. f a ++ xs) (more_from f (a + 1) n m (omega arith)) ∙ sym (append_assoc (f a) (flat_map f (range_with_len (a + 1) n)) (f m))

-- What the numbers below n + 1 give is what those below n give, and then what n gives.
pub gathered_more : {A : Type 0} (f : ℕ → List A) (n : ℕ) → flat_map f (range_with_len 0 (n + 1)) ≡ flat_map f (range_with_len 0 n) ++ f n
gathered_more f n = ap (λ k. flat_map f (range_with_len 0 k)) (add-one n) ∙ more_from f 0 n n (omega arith)

-- An answer with a value is one more; a refused one is none.
pub gathered_value : {A : Type 0} (f : ℕ → List A) (n : ℕ) (xs ys : List A) (x : A) → xs ≡ flat_map f (range_with_len 0 n) → ys ≡ xs ++ x ∷ [] → f n ≡ x ∷ [] →
    ys ≡ flat_map f (range_with_len 0 (n + 1))
gathered_value f n xs ys x e p v = p ∙ ap (λ l. l ++ x ∷ []) e ∙ ap (λ l. flat_map f (range_with_len 0 n) ++ l) (sym v) ∙ sym (gathered_more f n)

pub gathered_nothing : {A : Type 0} (f : ℕ → List A) (n : ℕ) (xs : List A) → xs ≡ flat_map f (range_with_len 0 n) → f n ≡ [] → xs ≡ flat_map f (range_with_len 0 (n + 1))
gathered_nothing f n xs e v = e ∙ sym (append-nil (flat_map f (range_with_len 0 n))) ∙ ap (λ l. flat_map f (range_with_len 0 n) ++ l) (sym v) ∙ sym (gathered_more f n)

-- The values that are there are the values that are given.
pub values_given : {A : Type 0} (f : ℕ → Result A Refusal) (xs : List ℕ) → filter_map (λ k. result_ok (f k)) xs ≡ flat_map (λ k. given (f k)) xs
values_given f [] = refl
values_given {A} f (x ∷ xs) = go (f x) (values_given f xs)
  where
    go : {ys zs : List A} (r : Result A Refusal) → ys ≡ zs → cons_option (result_ok r) ys ≡ given r ++ zs
    go (Ok y) e = ap (λ l. y ∷ l) e
    go (Err e) p = p
