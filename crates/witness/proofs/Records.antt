-- Records of a witness, read one after the other.
use Rattle.std.proofs.Common.{◌≡◌, ℕ, zero, suc, ◌+◌, ◌*◌, ◌/◌, ◌%◌, ◌<◌, ◌≤◌, Bool, true, false, cond, ◌&&◌, leb, eqb, List, [], ◌∷◌, ◌++◌, map, length, get_or, take, Ok, Err, sym, refl, ap, ◌∙◌, arith}
use Rattle.std.specs.Simd.{first_chunks}
use Rattle.std.proofs.lemmas.List.{length-map, length-take-le, length_push, map_push, take_all, take_more}
use Rattle.std.proofs.lemmas.Bool.{eqb-true}
use Rattle.fields.specs.declared.refusal.Refusal.TheVariants.{LengthNotAllowed}
use Rattle.witness.specs.Records.{source_of, access_of, sources_from, accesses_from}

-- One element more of those that are mapped, where there is room for all.
pub mapped_more : {X Y : Type 0} (f : X → Y) (n : ℕ) (xs : List X) (i : ℕ) (x : X) → i < length xs → length xs ≤ n → x ≡ get_or xs i x →
    take n (map f (take i xs) ++ f x ∷ []) ≡ map f (take (i + 1) xs)
mapped_more f n xs i x l h r =
    let ys = map f (take i xs) in
    let k : length ys ≡ i = length-map (take i xs) f ∙ length-take-le i xs (omega arith) in
    take_all n (ys ++ f x ∷ []) (omega (arith, length_push ys (f x)))
    ∙ sym (ap (map f) (take_more xs i x l ∙ ap (λ y. take i xs ++ y ∷ []) (sym r)) ∙ map_push f (take i xs) x)

-- The sources of whole records are those that the chunks state.
pub sources_chunks : (k : ℕ) (b : List ℕ) → length b ≡ 4 * k → map source_of (first_chunks 4 k b) ≡ sources_from b
unfolding sources_from
sources_chunks zero [] h = refl
sources_chunks zero (p ∷ b) h = absurd (omega arith)
sources_chunks (suc k) [] h = absurd (omega arith)
sources_chunks (suc k) (p ∷ []) h = absurd (omega arith)
sources_chunks (suc k) (p ∷ i ∷ []) h = absurd (omega arith)
sources_chunks (suc k) (p ∷ i ∷ high ∷ []) h = absurd (omega arith)
sources_chunks (suc k) (p ∷ i ∷ high ∷ low ∷ b) h = ap (◌∷◌ (source_of (p ∷ i ∷ high ∷ low ∷ []))) (sources_chunks k b (omega arith))

-- So are the accesses.
pub accesses_chunks : (k : ℕ) (b : List ℕ) → length b ≡ 2 * k → map access_of (first_chunks 2 k b) ≡ accesses_from b
unfolding accesses_from
accesses_chunks zero [] h = refl
accesses_chunks zero (p ∷ b) h = absurd (omega arith)
accesses_chunks (suc k) [] h = absurd (omega arith)
accesses_chunks (suc k) (p ∷ []) h = absurd (omega arith)
accesses_chunks (suc k) (p ∷ i ∷ b) h = ap (◌∷◌ (access_of (p ∷ i ∷ []))) (accesses_chunks k b (omega arith))

-- What is read from the contents of a field, in the words of the format.
read_as_well : {X : Type 0} (n m k : ℕ) (xs ys : List X) → (n % k ≡ 0 → xs ≡ ys) →
    cond (leb n m && eqb (n % k) 0) (Ok xs) (Err LengthNotAllowed) ≡ cond (leb n m && eqb (n % k) 0) (Ok ys) (Err LengthNotAllowed)
read_as_well n m k xs ys h = go (leb n m) (eqb (n % k) 0) refl
  where
    go : (t u : Bool) → eqb (n % k) 0 ≡ u → cond (t && u) (Ok xs) (Err LengthNotAllowed) ≡ cond (t && u) (Ok ys) (Err LengthNotAllowed)
    go true true e = ap Ok (h (eqb-true (n % k) 0 e))
    go true false e = refl
    go false u e = refl

pub sources_read : (b : List ℕ) →
    cond (leb (length b) 256 && eqb (length b % 4) 0) (Ok (map source_of (first_chunks 4 (length b / 4) b))) (Err LengthNotAllowed)
    ≡ cond (leb (length b) 256 && eqb (length b % 4) 0) (Ok (sources_from b)) (Err LengthNotAllowed)
sources_read b = read_as_well (length b) 256 4 _ _ (λ e. sources_chunks (length b / 4) b (omega arith))

pub accesses_read : (b : List ℕ) →
    cond (leb (length b) 128 && eqb (length b % 2) 0) (Ok (map access_of (first_chunks 2 (length b / 2) b))) (Err LengthNotAllowed)
    ≡ cond (leb (length b) 128 && eqb (length b % 2) 0) (Ok (accesses_from b)) (Err LengthNotAllowed)
accesses_read b = read_as_well (length b) 128 2 _ _ (λ e. accesses_chunks (length b / 2) b (omega arith))
