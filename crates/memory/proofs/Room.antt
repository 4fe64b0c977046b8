-- Where an address below sixteen is missing there is room for its row: rows and missing addresses are sixteen together. Rests on: what a write leaves (Rows).
use Rattle.std.proofs.Common.{◌≡◌, ℕ, zero, suc, ◌+◌, ◌<◌, ◌≤◌, true, false, cond, not, ltb, List, [], ◌∷◌, ◌++◌, length, take, sym, refl, ◌∙◌, inl, inr, arith}
use Rattle.std.proofs.lemmas.List.{take_all, length_push}
use Rattle.std.proofs.lemmas.Bool.{and_parts, not-true, eq-eqb, ne_eqb, ltb-true, cases_eq}
use Rattle.memory.specs.declared.cell.Cell.{Cell}
use Rattle.memory.specs.declared.cell_list.Row.{Row}
use Rattle.memory.specs.CellList.{has, once, put}
use Rattle.memory.specs.Rows.{row, put_missing}

-- How many addresses below n no row has.
missing : ℕ → List Row → ℕ
missing zero rs = 0
missing (suc n) rs = cond (has rs n) 0 1 + missing n rs

-- A row whose address is not below n leaves as many missing.
missing_past : (n : ℕ) (r : Row) (rs : List Row) → n ≤ r.address → missing n (r ∷ rs) ≡ missing n rs
unfolding missing
missing_past zero r rs h = refl
missing_past (suc n) r rs h = rw (ne_eqb r.address n (λ p. omega arith), missing_past n r rs (omega arith))

-- A row with a missing address below n leaves one less missing.
missing_cons : (n : ℕ) (r : Row) (rs : List Row) → has rs r.address ≡ false → r.address < n → missing n (r ∷ rs) + 1 ≡ missing n rs
unfolding missing
missing_cons zero r rs f h = absurd (omega arith)
missing_cons (suc n) r rs f h = elim (cases_eq r.address n) [
  | inl p ↦ (let q : has rs n ≡ false = rw p at f in rw (eq-eqb r.address n p, missing_past n r rs (omega arith), q) (omega arith))
  | inr p ↦ (let q = missing_cons n r rs f (omega arith) in rw (ne_eqb r.address n p) (omega arith))
]

-- Where an address is missing, the number of the missing is not 0.
some_missing : (n a : ℕ) (rs : List Row) → has rs a ≡ false → a < n → 0 < missing n rs
unfolding missing
some_missing zero a rs f h = absurd (omega arith)
some_missing (suc n) a rs f h = elim (cases_eq a n) [
  | inl p ↦ (let q : has rs n ≡ false = rw p at f in rw q (omega arith))
  | inr p ↦ (let q = some_missing n a rs f (omega arith) in omega arith)
]

-- The rows and the missing addresses are sixteen together.
rows_and_missing : (rs : List Row) → once rs ≡ true → length rs + missing 16 rs ≡ 16
unfolding missing
rows_and_missing [] h = refl
rows_and_missing (r ∷ rs) h =
    let p = and_parts (not (has rs r.address)) _ h in
    let q = and_parts (ltb r.address 16) _ p.1 in
    let m = missing_cons 16 r rs (not-true _ p.0) (ltb-true _ _ q.0) in
    let s = rows_and_missing rs q.1 in omega arith

-- A missing address has room.
pub room_for_missing : (rs : List Row) (a : ℕ) → once rs ≡ true → has rs a ≡ false → a < 16 → length rs < 16
room_for_missing rs a h f l = let p = rows_and_missing rs h in let q = some_missing 16 a rs f l in omega arith

-- So a push of its row, cut at sixteen, is the write.
pub push_is_put : (rs : List Row) (a : ℕ) (c : Cell) → once rs ≡ true → has rs a ≡ false → a < 16 → take 16 (rs ++ row a c ∷ []) ≡ put rs a c
push_is_put rs a c h f l =
    let room = room_for_missing rs a h f l in
    take_all 16 (rs ++ row a c ∷ []) (omega (arith, length_push rs (row a c))) ∙ sym (put_missing rs a c f)
