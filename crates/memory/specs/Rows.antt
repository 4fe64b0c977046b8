-- What a write leaves in a list of rows: its address is found with the new cell, every other as before, each still once.
use Rattle.std.specs.Prelude.{◌≡◌, ℕ, zero, suc, ◌+◌, ◌<◌, Bool, true, false, cond, not, List, [], ◌∷◌, ◌++◌, length, get_or, take, ◌==◌, ◌≢◌, nat_lt, slice_index_or, slice_set, refl}
use Rattle.std.proofs.Common.{sym, ap, arith}
use Rattle.std.proofs.lemmas.List.{take_more}
use Rattle.std.proofs.lemmas.Bool.{and_parts, and_from, or_parts, or_from, not-true, not_from_false, eq-eqb, ne_eqb, eqb-true, eqb-false, lt-ltb}
use Rattle.std.proofs.lemmas.Bool.Decides.{nat_tests}
use Rattle.memory.specs.declared.cell.Cell.{Cell}
use Rattle.memory.specs.declared.cell_list.Row.{Row}
use Rattle.memory.specs.Cells.{zero_cell}
use Rattle.memory.specs.CellList.{has, once, find, put, blank_row, Placed}

-- A row of an address and a cell.
abbrev pub row : ℕ → Cell → Row
row a c = record { address = a; cell = c }

-- A row with another address behind the others leaves the address missing.
has_push : (rs : List Row) (r : Row) (a : ℕ) → has rs a ≡ false → (r.address ≢ a) → has (rs ++ r ∷ []) a ≡ false
has_push [] r a h n = or_from _ _ (ne_eqb _ _ n) refl
has_push (x ∷ xs) r a h n =
    let p = or_parts (x.address == a) (has xs a) h in
    or_from _ _ p.0 (has_push xs r a p.1 n)

-- The address is missing in one row more where the next row has another.
pub has_more : (rs : List Row) (i a : ℕ) (d : Row) → i < length rs → has (take i rs) a ≡ false → ((get_or rs i d).address ≢ a) → has (take (i + 1) rs) a ≡ false
has_more rs i a d h f n = rw (take_more rs i d h) (has_push (take i rs) (slice_index_or rs i d) a f n)

-- A missing address holds 0 from the start.
pub find_missing : (rs : List Row) (a : ℕ) → has rs a ≡ false → find rs a ≡ zero_cell
find_missing [] a f = refl
find_missing (r ∷ rs) a f =
    let p = or_parts (r.address == a) (has rs a) f in
    rw p.0 (find_missing rs a p.1)

-- The first row of an address has its cell.
pub find_placed : (rs : List Row) (a i : ℕ) → Placed rs a i → find rs a ≡ (get_or rs i blank_row).cell
find_placed [] a i p = absurd (omega (arith, p.within))
find_placed (r ∷ rs) a zero p = rw (eq-eqb r.address a p.here)
find_placed (r ∷ rs) a (suc i) p =
    let q = or_parts (r.address == a) (has (take i rs) a) p.before in
    rw q.0 (find_placed rs a i (record { within = omega (arith, p.within); before = q.1; here = p.here }))

-- A write to an address that has a row replaces that row.
pub put_placed : (rs : List Row) (a i : ℕ) (c : Cell) → Placed rs a i → put rs a c ≡ slice_set rs i (row a c)
put_placed [] a i c p = absurd (omega (arith, p.within))
put_placed (r ∷ rs) a zero c p = rw (eq-eqb r.address a p.here)
put_placed (r ∷ rs) a (suc i) c p =
    let q = or_parts (r.address == a) (has (take i rs) a) p.before in
    rw q.0 (ap (λ l. r ∷ l) (put_placed rs a i c (record { within = omega (arith, p.within); before = q.1; here = p.here })))

-- A write to a missing address adds a row behind the others.
pub put_missing : (rs : List Row) (a : ℕ) (c : Cell) → has rs a ≡ false → put rs a c ≡ rs ++ row a c ∷ []
put_missing [] a c f = refl
put_missing (r ∷ rs) a c f =
    let p = or_parts (r.address == a) (has rs a) f in
    rw p.0 (ap (λ l. r ∷ l) (put_missing rs a c p.1))

-- After a write its address has the new cell, and every other the cell it had.
pub find_put : (rs : List Row) (a b : ℕ) (c : Cell) → find (put rs a c) b ≡ cond (a == b) c (find rs b)
find_put [] a b c = refl
find_put (r ∷ rs) a b c = go (r.address == a) refl (find_put rs a b c)
  where
    go : (t : Bool) → (r.address == a) ≡ t → find (put rs a c) b ≡ cond (a == b) c (find rs b) → find (cond t (row a c ∷ rs) (r ∷ put rs a c)) b ≡ cond (a == b) c (find (r ∷ rs) b)
    go true e h = let q = eqb-true _ _ e in grind (arith, nat_tests)
    go false e h = let n = eqb-false _ _ e in rw h (grind (arith, nat_tests))

-- A write to another address leaves an address missing.
has_put : (rs : List Row) (a b : ℕ) (c : Cell) → has rs b ≡ false → (a ≢ b) → has (put rs a c) b ≡ false
has_put [] a b c f n = or_from _ _ (ne_eqb _ _ n) refl
has_put (r ∷ rs) a b c f n =
    let p = or_parts (r.address == b) (has rs b) f in
    go (r.address == a) p.0 p.1 (has_put rs a b c p.1 n)
  where
    go : (t : Bool) → (r.address == b) ≡ false → has rs b ≡ false → has (put rs a c) b ≡ false → has (cond t (row a c ∷ rs) (r ∷ put rs a c)) b ≡ false
    go true p q h = or_from _ _ (ne_eqb _ _ n) q
    go false p q h = or_from _ _ p h

-- A write below sixteen leaves each address below sixteen and once.
pub once_put : (rs : List Row) (a : ℕ) (c : Cell) → once rs ≡ true → a < 16 → once (put rs a c) ≡ true
once_put [] a c h l = and_from _ _ refl (and_from _ _ (lt-ltb _ _ l) refl)
once_put (r ∷ rs) a c h l =
    let p = and_parts (not (has rs r.address)) _ h in
    let q = and_parts (nat_lt r.address 16) _ p.1 in
    go (r.address == a) refl (not-true _ p.0) q.0 (once_put rs a c q.1 l)
  where
    go : (t : Bool) → (r.address == a) ≡ t → has rs r.address ≡ false → nat_lt r.address 16 ≡ true → once (put rs a c) ≡ true → once (cond t (row a c ∷ rs) (r ∷ put rs a c)) ≡ true
    go true e f b k = let s = eqb-true _ _ e in rw (← s) h
    go false e f b k =
        and_from _ _ (not_from_false _ (has_put rs a r.address c f (λ z. eqb-false _ _ e (sym z)))) (and_from _ _ b k)
