-- The one search: the nearest place below a bound at which a test passes, and the first from a place on.
use Rattle.std.specs.Prelude.{◌≡◌, ℕ, zero, suc, ◌+◌, ◌<◌, ◌≤◌, Bool, true, false, cond, List, map, Some, None, Option, slice_index_or}

-- The greatest number below n that passes.
unfoldable pub nearest : (ℕ → Bool) → ℕ → Option ℕ
nearest t zero = None
nearest t (suc n) = cond (t n) (Some n) (nearest t n)

-- The least of the n numbers from i on that passes.
unfoldable pub first : (ℕ → Bool) → ℕ → ℕ → Option ℕ
first t i zero = None
first t i (suc n) = cond (t i) (Some i) (first t (suc i) n)

-- Whether the element at a place passes; past the end none does.
abbrev pub passes : {X : Type 0} → (X → Bool) → List X → ℕ → Bool
passes p xs k = slice_index_or (map p xs) k false

-- k is below i and passes, and nothing between them does.
pub record Nearest (t : ℕ → Bool) (i k : ℕ) : Type 0 where
  pub below : k < i
  pub hit : t k ≡ true
  pub between : (m : ℕ) → k < m → m < i → t m ≡ false

-- Nothing below i passes.
abbrev pub NoneBelow : (ℕ → Bool) → ℕ → Type 0
NoneBelow t i = (m : ℕ) → m < i → t m ≡ false

-- k is one of the n places from i on and passes, and nothing from i to k does.
pub record First (t : ℕ → Bool) (i n k : ℕ) : Type 0 where
  pub from : i ≤ k
  pub within : k < i + n
  pub hit : t k ≡ true
  pub between : (m : ℕ) → i ≤ m → m < k → t m ≡ false

-- Nothing among the n places from i on passes.
abbrev pub NoneFrom : (ℕ → Bool) → ℕ → ℕ → Type 0
NoneFrom t i n = (m : ℕ) → i ≤ m → m < i + n → t m ≡ false

-- What the nearest search finds: nothing, or the nearest.
pub data Sought (t : ℕ → Bool) (i : ℕ) : Option ℕ → Type 0 where
  nothing : NoneBelow t i → Sought t i None
  found : (k : ℕ) → Nearest t i k → Sought t i (Some k)

-- What the first search finds: nothing, or the first.
pub data Met (t : ℕ → Bool) (i n : ℕ) : Option ℕ → Type 0 where
  nothing : NoneFrom t i n → Met t i n None
  found : (k : ℕ) → First t i n k → Met t i n (Some k)

-- The nearest search finds exactly the nearest, for every test and bound.
abbrev pub NearestIsFound : Type 0
NearestIsFound = (t : ℕ → Bool) (i : ℕ) → Sought t i (nearest t i)

-- The first search finds exactly the first, for every test, start and count.
abbrev pub FirstIsFound : Type 0
FirstIsFound = (t : ℕ → Bool) (i n : ℕ) → Met t i n (first t i n)
