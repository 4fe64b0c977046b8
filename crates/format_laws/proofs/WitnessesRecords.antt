-- The records of a witness and their bytes are each other's inverse.
use Rattle.std.proofs.Common.{◌≡◌, ℕ, ◌*◌, ◌/◌, ◌%◌, ◌<◌, List, [], ◌∷◌, length, refl, arith}
use Rattle.std.specs.List.{flat_map, AllByRecursion}
use Rattle.fields.specs.Fields.{word}
use Rattle.witness.specs.declared.record.Access.{Access}
use Rattle.witness.specs.declared.record.Source.{Source}
use Rattle.witness.specs.Records.{source_bytes, access_bytes, sources_from, accesses_from}

-- Sources are read back from their bytes.
pub sources_back : (xs : List Source) → sources_from (flat_map source_bytes xs) ≡ xs
unfolding sources_from
sources_back [] = refl
sources_back (x ∷ xs) =
    let v : word (x.value / 256) (x.value % 256) ≡ x.value = omega arith in
    rw (v, sources_back xs)

-- Accesses are read back from their bytes.
pub accesses_back : (xs : List Access) → accesses_from (flat_map access_bytes xs) ≡ xs
unfolding accesses_from
accesses_back [] = refl
accesses_back (x ∷ xs) = rw (accesses_back xs)

-- The contents of a field are the bytes of their records, of which there are as many as fit.
pub record WholeRecords {X : Type 0} (bytes : X → List ℕ) (size : ℕ) (xs : List X) (b : List ℕ) : Type 0 where
  pub same : flat_map bytes xs ≡ b
  pub number : size * length xs ≡ length b

-- Bytes of whole records are the bytes of their sources.
pub whole_sources : (b : List ℕ) → AllByRecursion (λ x. x < 256) b → length b % 4 ≡ 0 → WholeRecords source_bytes 4 (sources_from b) b
unfolding sources_from
whole_sources [] h l = record { same = refl; number = refl }
whole_sources (p ∷ []) h l = absurd (omega arith)
whole_sources (p ∷ i ∷ []) h l = absurd (omega arith)
whole_sources (p ∷ i ∷ high ∷ []) h l = absurd (omega arith)
whole_sources (p ∷ i ∷ high ∷ low ∷ b) h l =
    let r = whole_sources b h.1.1.1.1 (omega arith) in
    let s : low < 256 = h.1.1.1.0 in
    let q : word high low / 256 ≡ high = omega arith in
    let m : word high low % 256 ≡ low = omega arith in
    record { same = rw (q, m, r.same); number = omega (arith, r.number) }

-- Bytes of whole records are the bytes of their accesses.
pub whole_accesses : (b : List ℕ) → length b % 2 ≡ 0 → WholeRecords access_bytes 2 (accesses_from b) b
unfolding accesses_from
whole_accesses [] l = record { same = refl; number = refl }
whole_accesses (p ∷ []) l = absurd (omega arith)
whole_accesses (p ∷ i ∷ b) l =
    let r = whole_accesses b (omega arith) in
    record { same = rw r.same; number = omega (arith, r.number) }
