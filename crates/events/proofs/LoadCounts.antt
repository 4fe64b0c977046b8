-- The number of loads of a path and of the first paths, step by step, and its bounds.
use Rattle.std.proofs.Common.{◌≡◌, ℕ, zero, suc, ◌+◌, ◌-◌, ◌*◌, ◌≤◌, Bool, true, false, cond, List, [], length, get_or, sym, refl, ap, ◌∙◌, inl, inr, add-one, arith, map, take}
use Rattle.std.specs.Prelude.{min}
use Rattle.std.specs.List.{count_by, sum, range_with_len}
use Rattle.std.proofs.lemmas.List.Filters.{length-filter_more}
use Rattle.std.proofs.lemmas.List.Sums.{length-filter}
use Rattle.std.proofs.lemmas.List.FromFn.{sum_by-map-range_with_len_more}
use Rattle.std.proofs.ByRecursion.{All-get_or}
use Rattle.std.proofs.lemmas.List.{get_or_past}
use Rattle.std.proofs.lemmas.Bool.{cases_lt}
use Rattle.instructions.specs.Kinds.{loads}
use Rattle.instructions.specs.declared.instruction.Instruction.{Instruction}
use Rattle.question.specs.Litmus.{Litmus, code_at, instruction_at}
use Rattle.witness.specs.Execution.{Execution, Within}
use Rattle.events.specs.Sources.{path_at, loads_upto, loads_before}

-- No place, no load.
pub loads_none : (code : List Instruction) (places : List ℕ) → loads_upto code places 0 ≡ 0
unfolding loads_upto
loads_none code places = refl

-- One place more.
pub loads_next : (code : List Instruction) (places : List ℕ) (n : ℕ) →
    loads_upto code places (n + 1) ≡ loads_upto code places n + cond (loads (instruction_at code (get_or places n 0))) 1 0
unfolding loads_upto
loads_next code places n = rw add-one refl

-- At most as many loads as places.
pub loads_few : (code : List Instruction) (places : List ℕ) (n : ℕ) → loads_upto code places n ≤ n
unfolding loads_upto
loads_few code places zero = omega arith
loads_few code places (suc n) = go (loads (instruction_at code (get_or places n 0))) (loads_few code places n)
  where
    go : (b : Bool) → loads_upto code places n ≤ n → loads_upto code places n + cond b 1 0 ≤ suc n
    go true h = omega arith
    go false h = omega arith

-- The place is a load: one load more.
pub loads_more : (code : List Instruction) (places : List ℕ) (n : ℕ) → loads (instruction_at code (get_or places n 0)) ≡ true →
    loads_upto code places (n + 1) ≡ loads_upto code places n + 1
loads_more code places n h = loads_next code places n ∙ rw h refl

-- The place is no load: no load more.
pub loads_same : (code : List Instruction) (places : List ℕ) (n : ℕ) → loads (instruction_at code (get_or places n 0)) ≡ false →
    loads_upto code places (n + 1) ≡ loads_upto code places n
loads_same code places n h = loads_next code places n ∙ rw h (omega arith)

-- No path, no load.
pub before_none : (q : Litmus) (w : Execution) → loads_before q w 0 ≡ 0
unfolding loads_before
before_none q w = refl

-- One path more.
pub before_next : (q : Litmus) (w : Execution) (p : ℕ) →
    loads_before q w (p + 1) ≡ loads_before q w p + loads_upto (code_at q p) (path_at w p) (length (path_at w p))
unfolding loads_before
before_next q w p = rw add-one refl

-- As many loads as places whose instruction is one.
pub loads_counted : (code : List Instruction) (places : List ℕ) (n : ℕ) → n ≤ length places →
    loads_upto code places n ≡ count_by (λ p. loads (instruction_at code p)) (take n places)
unfolding loads_upto
loads_counted code places zero l = refl
loads_counted code places (suc n) l =
    let t = λ (p : ℕ). loads (instruction_at code p) in
    ap (λ m. m + cond (t (get_or places n 0)) 1 0) (loads_counted code places n (omega arith) ∙ sym (length-filter t (take n places)))
    ∙ sym (length-filter_more t places n 0 (omega arith))
    ∙ length-filter t (take (n + 1) places)
    ∙ ap (λ m. count_by t (take m places)) (add-one n)

-- How many loads the path of processor p has.
abbrev pub path_loads : Litmus → Execution → ℕ → ℕ
path_loads q w p = loads_upto (code_at q p) (path_at w p) (length (path_at w p))

-- The loads of the first paths are those of each, added.
pub loads_added : (q : Litmus) (w : Execution) (n : ℕ) → sum (map (path_loads q w) (range_with_len 0 n)) ≡ loads_before q w n
unfolding loads_before
loads_added q w zero = refl
loads_added q w (suc n) =
    ap (λ m. sum (map (path_loads q w) (range_with_len 0 m))) (sym (add-one n))
    ∙ sum_by-map-range_with_len_more (λ k. k) (path_loads q w) 0 n n (omega arith)
    ∙ ap (λ m. m + path_loads q w n) (loads_added q w n)

-- A path past the last has no loads.
path_past : (q : Litmus) (w : Execution) (p : ℕ) → length w.paths ≤ p →
    loads_upto (code_at q p) (path_at w p) (length (path_at w p)) ≡ 0
path_past q w p l = rw (get_or_past w.paths p [] l) (loads_none (code_at q p) [])

-- Past the last path no more loads come.
pub before_past : (q : Litmus) (w : Execution) (k : ℕ) → loads_before q w (length w.paths + k) ≡ loads_before q w (length w.paths)
before_past q w zero = ap (loads_before q w) (omega arith)
before_past q w (suc k) =
    let n = length w.paths in
    let e : n + suc k ≡ (n + k) + 1 = omega arith in
    ap (loads_before q w) e ∙ omega (arith, before_next q w (n + k), path_past q w (n + k) (omega arith), before_past q w k)

-- All paths' loads are those of any number of processors that leaves none out.
pub before_all : (q : Litmus) (w : Execution) (p : ℕ) → length w.paths ≤ p → loads_before q w (length w.paths) ≡ loads_before q w p
before_all q w p l =
    let n = length w.paths in
    let e : n + (p - n) ≡ p = omega arith in
    sym (before_past q w (p - n)) ∙ ap (loads_before q w) e

-- A path has at most sixteen places.
pub path_short : (w : Execution) (p : ℕ) → Within w → length (path_at w p) ≤ 16
path_short w p h = elim (cases_lt p (length w.paths)) [
  | inl l ↦ All-get_or (λ xs. length xs ≤ 16) w.paths p [] l h.short_paths
  | inr l ↦ omega (arith, ap length (get_or_past w.paths p [] l))
]

-- At most sixteen loads a path.
sixteen_each : (q : Litmus) (w : Execution) (p : ℕ) → Within w → loads_before q w p ≤ 16 * p
unfolding loads_before
sixteen_each q w zero h = omega arith
sixteen_each q w (suc p) h =
    omega (arith, sixteen_each q w p h, loads_few (code_at q p) (path_at w p) (length (path_at w p)), path_short w p h)

-- At most 64 loads.
pub before_few : (q : Litmus) (w : Execution) (p : ℕ) → Within w → loads_before q w p ≤ 64
before_few q w p h = elim (cases_lt p (length w.paths)) [
  | inl l ↦ omega (arith, sixteen_each q w p h, h.few_paths)
  | inr l ↦ omega (arith, before_all q w p l, sixteen_each q w (length w.paths) h, h.few_paths)
]

-- Those of the paths that there are, of the first processors, are those of the first processors.
pub before_least : (q : Litmus) (w : Execution) (p n : ℕ) → n ≡ min p (length w.paths) → loads_before q w n ≡ loads_before q w p
before_least q w p n e = elim (cases_lt p (length w.paths)) [
  | inl l ↦ ap (loads_before q w) (omega arith)
  | inr l ↦ (let whole : n ≡ length w.paths = omega arith in ap (loads_before q w) whole ∙ before_all q w p l)
]
