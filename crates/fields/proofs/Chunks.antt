-- The chunks that some bytes are cut into.
use Rattle.std.proofs.Common.{◌≡◌, ℕ, zero, suc, ◌+◌, ◌*◌, ◌/◌, ◌%◌, ◌<◌, ◌≤◌, Bool, true, false, cond, ◌&&◌, leb, eqb, List, [], ◌++◌, length, get_or, take, drop, Ok, Err, sym, refl, ap, ◌∙◌, add_comm, add-one, mul-zero, mul-suc, arith}
use Rattle.std.proofs.Math.Nat.{div-le_of_le-mul, mul-div-le, mul-le-mul_left}
use Rattle.std.proofs.lemmas.Bool.{eqb-true, leb-true}
use Rattle.fields.specs.declared.refusal.Refusal.TheVariants.{LengthNotAllowed}
use Rattle.fields.specs.Records.{split_records}
use Rattle.std.specs.Simd.{first_chunks}
use Rattle.std.proofs.lemmas.List.{drop-drop, length-drop, length-take-le, take-append-drop}

-- Which elements the chunk at i has.
pub chunk_is : {X : Type 0} (n k : ℕ) (xs : List X) (i : ℕ) (d : List X) → i < k → get_or (first_chunks n k xs) i d ≡ take n (drop (n * i) xs)
chunk_is n zero xs i d l = absurd (omega arith)
chunk_is n (suc k) xs zero d l = ap (λ m. take n (drop m xs)) (sym (mul-zero n))
chunk_is n (suc k) xs (suc i) d l =
    chunk_is n k (drop n xs) i d (omega arith)
    ∙ ap (take n) (drop-drop (n * i) n xs ∙ ap (λ m. drop m xs) (sym (mul-suc n i ∙ add_comm (n * i) n)))

-- One chunk more.
one_more : (n i : ℕ) → n * (i + 1) ≡ n * i + n
one_more n i = ap (λ m. n * m) (add-one i) ∙ mul-suc n i

-- What is left at i begins with the chunk there.
pub chunk_front : {X : Type 0} (n k : ℕ) (xs : List X) (i : ℕ) → i < k → drop (n * i) xs ≡ get_or (first_chunks n k xs) i [] ++ drop (n * (i + 1)) xs
chunk_front n k xs i l =
    sym (take-append-drop n (drop (n * i) xs))
    ∙ ap (λ t. t ++ drop n (drop (n * i) xs)) (sym (chunk_is n k xs i [] l))
    ∙ ap (λ t. get_or (first_chunks n k xs) i [] ++ t) (drop-drop n (n * i) xs ∙ ap (λ m. drop m xs) (sym (one_more n i)))

-- A chunk has n elements.
pub length_chunk : {X : Type 0} (n k : ℕ) (xs : List X) (i : ℕ) → i < k → n * (i + 1) ≤ length xs → length (get_or (first_chunks n k xs) i []) ≡ n
length_chunk n k xs i l h =
    ap length (chunk_is n k xs i [] l) ∙ length-take-le n (drop (n * i) xs) (omega (arith, length-drop (n * i) xs, one_more n i))

-- The chunk at i, where the chunks are all that there are.
pub chunk_at : {X : Type 0} (n : ℕ) (xs : List X) (cs : List (List X)) (i : ℕ) → cs ≡ first_chunks n (length xs / n) xs → length cs ≡ length xs / n → i < length cs →
    get_or cs i [] ≡ take n (drop (n * i) xs)
chunk_at n xs cs i e h l = rw e (chunk_is n (length xs / n) xs i [] (omega arith))

-- What is left at i, where the chunks are all that there are.
pub chunk_next : {X : Type 0} (n : ℕ) (xs : List X) (cs : List (List X)) (i : ℕ) → cs ≡ first_chunks n (length xs / n) xs → length cs ≡ length xs / n → i < length cs →
    (drop (n * i) xs ≡ get_or cs i [] ++ drop (n * (i + 1)) xs) × (length (get_or cs i []) ≡ n)
chunk_next n xs cs i e h l =
    let k = length xs / n in
    let m : i < k = omega arith in
    let w : n * (i + 1) ≤ n * k = mul-le-mul_left n (omega arith) in
    rw e (chunk_front n k xs i m, length_chunk n k xs i m (omega (arith, mul-div-le (length xs) n)))

-- How many chunks there are.
length_chunks : {X : Type 0} (n k : ℕ) (xs : List X) → length (first_chunks n k xs) ≡ k
length_chunks n zero xs = refl
length_chunks n (suc k) xs = ap suc (length_chunks n k (drop n xs))

-- Records that were split off are whole, at most so many, and the chunks of the bytes.
pub record Whole (n most : ℕ) (b : List ℕ) (cs : List (List ℕ)) : Type 0 where
  pub tested : leb (length b) (n * most) ≡ true
  pub few : length b ≤ n * most
  pub whole : length b % n ≡ 0
  pub chunks : cs ≡ first_chunks n (length b / n) b
  pub count : length cs ≡ length b / n
  pub room : length cs ≤ most

pub split_whole : (n most : ℕ) (b : List ℕ) (cs : List (List ℕ)) → Ok cs ≡ split_records n most b → Whole n most b cs
split_whole n most b cs h = go (leb (length b) (n * most)) (eqb (length b % n) 0) refl refl h
  where
    go : (t u : Bool) → leb (length b) (n * most) ≡ t → eqb (length b % n) 0 ≡ u →
        Ok cs ≡ cond (t && u) (Ok (first_chunks n (length b / n) b)) (Err LengthNotAllowed) → Whole n most b cs
    go true true e f k =
        let l = leb-true (length b) (n * most) e in
        let c : cs ≡ first_chunks n (length b / n) b = cc in
        let d : length cs ≡ length b / n = ap length c ∙ length_chunks n (length b / n) b in
        record { tested = e; few = l; whole = eqb-true (length b % n) 0 f; chunks = c; count = d; room = rw d (div-le_of_le-mul n l) }
    go true false e f k = cc
    go false u e f k = cc

-- More whole records than `most` have more bytes.
pub too_many : (n most size : ℕ) → 0 < n → most < size / n → n * most < size
too_many n most size z h =
    let w : n * (most + 1) ≤ n * (size / n) = mul-le-mul_left n (omega arith) in
    omega (arith, one_more n most, mul-div-le size n)
