-- The start values of the cells are read from exactly the bytes of rising records.
use Rattle.std.proofs.Common.{◌≡◌, ℕ, suc, ◌+◌, ◌*◌, ◌/◌, ◌%◌, ◌<◌, ◌≤◌, Bool, true, false, cond, ◌&&◌, eqb, ltb, leb, ◌⊎◌, List, [], ◌∷◌, length, set, Ok, Err, Result, refl, ap, inl, inr, arith}
use Rattle.std.specs.List.{flat_map, AllByRecursion}
use Rattle.std.proofs.lemmas.Bool.{leb-true, ltb-true, eqb-true, le-leb, lt-ltb, eq-eqb, and_from, and_parts}
use Rattle.fields.specs.declared.refusal.Refusal.{Refusal}
use Rattle.fields.specs.declared.refusal.Refusal.TheVariants.{CellAddressNotAllowed}
use Rattle.fields.specs.Fields.{word}
use Rattle.fields.proofs.Relations.{word_joined}
use Rattle.question.specs.Cells.{zeros, cells_from, cells_fit}
use Rattle.question.specs.Means.{Start, start_bytes, Rising, started, CellContentsRefusedForAnAddress}

-- The address of a record is at least `least` and at most 15.
abbrev in_place : ℕ → ℕ → Bool
in_place least address = leb least address && ltb address 16

-- An address that lies there passes the test.
place_passes : (least address : ℕ) → least ≤ address → address < 16 → in_place least address ≡ true
place_passes least address l u = and_from _ _ (le-leb least address l) (lt-ltb address 16 u)

-- An address that passes the test lies there.
passed_place : (least address : ℕ) → in_place least address ≡ true → (least ≤ address) × (address < 16)
passed_place least address h =
    let p = and_parts (leb least address) (ltb address 16) h in (leb-true least address p.0, ltb-true address 16 p.1)

-- Rising records are read from their bytes.
cells_read : (least : ℕ) (cells : List ℕ) (rs : List Start) → Rising least rs →
    cells_from least cells (flat_map start_bytes rs) ≡ Ok (started cells rs)
unfolding cells_from
cells_read least cells [] h = refl
cells_read least cells (r ∷ rs) h =
    rw (place_passes least r.address h.0 h.1, word_joined r.value)
    (cells_read (suc r.address) (set cells r.address r.value) rs h.2)

-- These bytes are those of rising records that make these start values.
pub record Recorded (least : ℕ) (cells b s : List ℕ) : Type 0 where
  pub records : List Start
  pub bytes : b ≡ flat_map start_bytes records
  pub rising : Rising least records
  pub made : s ≡ started cells records

-- One record more in front.
recorded_more : (least address high low : ℕ) (cells b s : List ℕ) → low < 256 → least ≤ address → address < 16 →
    Recorded (suc address) (set cells address (word high low)) b s → Recorded least cells (address ∷ high ∷ low ∷ b) s
recorded_more least address high low cells b s w l u c =
    let p : word high low / 256 ≡ high = omega arith in
    let q : word high low % 256 ≡ low = omega arith in
    record {
      records = record { address = address; value = word high low } ∷ c.records;
      bytes = rw (p, q) (ap (λ t. address ∷ high ∷ low ∷ t) c.bytes);
      rising = (l, u, c.rising);
      made = c.made;
    }

-- Whole records that are read are rising ones.
cells_states : (least : ℕ) (cells b s : List ℕ) → length b % 3 ≡ 0 → AllByRecursion (λ x. x < 256) b → cells_from least cells b ≡ Ok s → Recorded least cells b s
unfolding cells_from
cells_states least cells [] s l w h = record { records = []; bytes = refl; rising = tt; made = cc }
cells_states least cells (address ∷ []) s l w h = absurd (omega arith)
cells_states least cells (address ∷ high ∷ []) s l w h = absurd (omega arith)
cells_states least cells (address ∷ high ∷ low ∷ b) s l w h =
    go (in_place least address) refl h (cells_states (suc address) (set cells address (word high low)) b s (omega arith) w.1.1.1)
  where
    rest : Result (List ℕ) Refusal
    rest = cells_from (suc address) (set cells address (word high low)) b

    go : (t : Bool) → in_place least address ≡ t → cond t rest (Err CellAddressNotAllowed) ≡ Ok s →
        (rest ≡ Ok s → Recorded (suc address) (set cells address (word high low)) b s) → Recorded least cells (address ∷ high ∷ low ∷ b) s
    go true p h f = let q = passed_place least address p in recorded_more least address high low cells b s w.1.1.0 q.0 q.1 (f h)
    go false p h f = absurd (let z : ◌≡◌ {A = ℕ} 0 1 = cc in omega arith)

-- A record has three bytes.
length_records : (rs : List Start) → length (flat_map start_bytes rs) ≡ 3 * length rs
length_records [] = refl
length_records (r ∷ rs) = let l = length_records rs in omega arith

-- Rising records are at most sixteen.
rising_few : (least : ℕ) (rs : List Start) → least ≤ 16 → Rising least rs → length rs + least ≤ 16
rising_few least [] l h = omega arith
rising_few least (r ∷ rs) l h = let k = rising_few (suc r.address) rs h.1 h.2 in omega arith

-- Rising records have at most forty-eight bytes.
pub length_rising : (rs : List Start) → Rising 0 rs → length (flat_map start_bytes rs) ≤ 48
length_rising rs h = let l = length_records rs in let m = rising_few 0 rs (omega arith) h in omega arith

-- The contents of a cell field that is read are the bytes of rising records.
pub contents_cells : (b s : List ℕ) → cells_fit (length b) ≡ true → AllByRecursion (λ x. x < 256) b → cells_from 0 zeros b ≡ Ok s → Recorded 0 zeros b s
contents_cells b s f w h =
    let p = and_parts (leb (length b) 48) (eqb (length b % 3) 0) f in
    cells_states 0 zeros b s (eqb-true (length b % 3) 0 p.1) w h

-- Rising records are read from the contents of their field.
pub cells_contents : (rs : List Start) → Rising 0 rs →
    (cells_fit (length (flat_map start_bytes rs)) ≡ true) × (cells_from 0 zeros (flat_map start_bytes rs) ≡ Ok (started zeros rs))
cells_contents rs h =
    let n = length (flat_map start_bytes rs) in
    let l = length_records rs in
    (and_from _ _ (le-leb n 48 (length_rising rs h)) (eq-eqb (n % 3) 0 (omega arith)), cells_read 0 zeros rs h)

-- Records rise, or are refused for an address.
rising_or_refused : (least : ℕ) (cells : List ℕ) (rs : List Start) →
    Rising least rs ⊎ (cells_from least cells (flat_map start_bytes rs) ≡ Err CellAddressNotAllowed)
unfolding cells_from
rising_or_refused least cells [] = inl tt
rising_or_refused least cells (r ∷ rs) =
    go (in_place least r.address) refl (rising_or_refused (suc r.address) (set cells r.address (word (r.value / 256) (r.value % 256))) rs)
  where
    rest : Result (List ℕ) Refusal
    rest = cells_from (suc r.address) (set cells r.address (word (r.value / 256) (r.value % 256))) (flat_map start_bytes rs)

    go : (t : Bool) → in_place least r.address ≡ t → Rising (suc r.address) rs ⊎ (rest ≡ Err CellAddressNotAllowed) →
        Rising least (r ∷ rs) ⊎ (cond t rest (Err CellAddressNotAllowed) ≡ Err CellAddressNotAllowed)
    go true p (inl h) = let q = passed_place least r.address p in inl (q.0, q.1, h)
    go true p (inr h) = inr h
    go false p h = inr refl

-- Rising records are not refused.
rising_not_refused : (rs : List Start) (e : Refusal) → cells_from 0 zeros (flat_map start_bytes rs) ≡ Err e → Rising 0 rs → ⊥
rising_not_refused rs e h r = let k = cells_read 0 zeros rs r in let z : ◌≡◌ {A = ℕ} 0 1 = cc in omega arith

-- The contents of a cell field are refused exactly if the addresses do not rise below sixteen.
pub cell_contents_refused_for_an_address : CellContentsRefusedForAnAddress
cell_contents_refused_for_an_address rs e = (
  λ h. (elim (rising_or_refused 0 zeros rs) [ inl r ↦ absurd (rising_not_refused rs e h r) | inr k ↦ cc ], rising_not_refused rs e h),
  λ p. elim (rising_or_refused 0 zeros rs) [ inl r ↦ absurd (p.1 r) | inr k ↦ rw p.0 k ],
)
