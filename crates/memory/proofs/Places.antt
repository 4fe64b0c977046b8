-- The first row of an address, as a search by position finds it.
use Rattle.std.proofs.Common.{◌≡◌, ℕ, zero, suc, ◌<◌, ◌≢◌, false, List, [], ◌∷◌, length, take, Some, None, Option, MatchOption, refl, arith}
use Rattle.std.specs.List.{AllWithin, HoldsAt}
use Rattle.std.proofs.lemmas.List.{take_all}
use Rattle.std.proofs.lemmas.Bool.{or_from, ne_eqb}
use Rattle.memory.specs.declared.cell_list.Row.{Row}
use Rattle.memory.specs.CellList.{has, blank_row, Placed}

module _ (a : ℕ) where
  -- Where the first rows have other addresses, the address is missing in them.
  missing_in_front : (rs : List Row) (i : ℕ) → AllWithin (λ r. r.address ≢ a) rs 0 i → has (take i rs) a ≡ false
  missing_in_front rs zero h = refl
  missing_in_front [] (suc i) h = refl
  missing_in_front (r ∷ rs) (suc i) h =
      or_from _ _ (ne_eqb _ _ (h 0 r (omega arith) (omega arith))) (missing_in_front rs i (λ k d l m. h (suc k) d (omega arith) (omega arith)))

  -- What the search finds is the first row of the address.
  pub first_place : (rs : List Row) (o : Option ℕ) →
      MatchOption o (AllWithin (λ r. r.address ≢ a) rs 0 (length rs)) (λ i. (i < length rs) × HoldsAt (λ r. r.address ≡ a) rs i × AllWithin (λ r. r.address ≢ a) rs 0 i) →
      MatchOption o (has rs a ≡ false) (λ i. Placed rs a i)
  first_place rs None h = let m = missing_in_front rs (length rs) h in rw (take_all (length rs) rs (omega arith)) at m
  first_place rs (Some i) (l, y, n) = record { within = l; before = missing_in_front rs i n; here = y blank_row }
