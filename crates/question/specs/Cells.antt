-- The start values from the records of a cell field.
use Rattle.std.specs.Prelude.{ℕ, suc, ◌%◌, Bool, cond, ◌&&◌, List, [], ◌∷◌, replicate, Ok, Err, Result, ◌==◌, nat_le, nat_lt, slice_set}
use Rattle.fields.specs.declared.refusal.Refusal.{Refusal}
use Rattle.fields.specs.declared.refusal.Refusal.TheVariants.{CellAddressNotAllowed}
use Rattle.fields.specs.Fields.{word}

-- Sixteen cells that are 0.
abbrev pub zeros : List ℕ
zeros = replicate 16 0

-- Records of three bytes, an address and a value, put into the cells; each address is at least `least` and at most 15, and above those before it.
unfoldable pub cells_from : ℕ → List ℕ → List ℕ → Result (List ℕ) Refusal
cells_from least cells [] = Ok cells
cells_from least cells (address ∷ []) = Ok cells
cells_from least cells (address ∷ high ∷ []) = Ok cells
cells_from least cells (address ∷ high ∷ low ∷ bytes) =
    cond (nat_le least address && nat_lt address 16) (cells_from (suc address) (slice_set cells address (word high low)) bytes) (Err CellAddressNotAllowed)

-- Whole records of three bytes, at most sixteen.
abbrev pub cells_fit : ℕ → Bool
cells_fit n = nat_le n 48 && n % 3 == 0
