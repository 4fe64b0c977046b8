-- The five tests of a witness.
use Rattle.std.specs.Prelude.{ℕ, zero, suc, Bool, true, false, not, ◌&&◌, ◌||◌, List, [], ◌∷◌, ◌++◌, length, Some, None, Option, ◌==◌, nat_lt, slice_index, slice_index_or}
use Rattle.instructions.specs.Kinds.{loads, access}
use Rattle.instructions.specs.declared.instruction.Instruction.{Instruction}
use Rattle.question.specs.Litmus.{Litmus, code_at}
use Rattle.search.specs.Search.{nearest}
use Rattle.witness.specs.Execution.{Execution}
use Rattle.witness.specs.declared.record.Access.{Access}
use Rattle.witness.specs.declared.record.Source.{Source}
use Rattle.events.specs.declared.event.Event.{Event}
use Rattle.events.specs.Events.{at}
use Rattle.events.specs.Sources.{path_at, loads_before, source_at, events}
use Rattle.ordering.specs.Tests.{some_below}
use Rattle.checker.specs.Terms.{access_at, event, instruction, cell}
use Rattle.checker.specs.Axioms.{leads_to}
use Rattle.checker.specs.Fixed.{stores_to}

-- Every number below n passes.
unfoldable pub all_below : (ℕ → Bool) → ℕ → Bool
all_below t zero = true
all_below t (suc n) = t n && all_below t n

-- The accesses are the same.
abbrev pub same_access : Access → Access → Bool
same_access a b = a.processor == b.processor && a.position == b.position

-- The event stands at a place of the code, where those before it lead.
abbrev pub place_fits : List Instruction → List Event → ℕ → Bool
place_fits code es i = (at es i).place == leads_to es i && nat_lt (at es i).place (length code)

-- The events run from place 0 to the end.
abbrev pub runs_through : List Instruction → List Event → Bool
runs_through code es = all_below (place_fits code es) (length es) && leads_to es (length es) == length code

-- Which of the first n positions are reached from i by a relation that runs forward: each from those before it.
unfoldable pub reached : (ℕ → ℕ → Bool) → ℕ → ℕ → List Bool
reached R i zero = []
reached R i (suc n) =
    let row = reached R i n in
    row ++ (R i n || some_below (λ k. slice_index_or row k false && R k n) n) ∷ []

module _ (q : Litmus) (w : Execution) where
  -- 1.
  unfoldable pub path_test : Bool
  path_test =
      (length w.paths == length q.code)
      && (all_below (λ p. runs_through (code_at q p) (events q w p)) (length q.code)
      && length w.sources == loads_before q w (length q.code))

  -- The access at number k of the order.
  abbrev pub ordered : ℕ → Access
  ordered k = slice_index_or w.order k (access_at 0 0)

  -- Position i of processor p is an access.
  abbrev pub is_access : ℕ → ℕ → Bool
  is_access p i = nat_lt i (length (path_at w p)) && access (instruction q w p i)

  -- The access at number k of the order is one of the paths, and does not stand before.
  abbrev pub is_new : ℕ → Bool
  is_new k = is_access (ordered k).processor (ordered k).position && not (some_below (λ m. same_access (ordered m) (ordered k)) k)

  -- Position i of processor p, if it is an access, stands in the order.
  abbrev pub is_ordered : ℕ → ℕ → Bool
  is_ordered p i = not (access (instruction q w p i)) || some_below (λ k. same_access (ordered k) (access_at p i)) (length w.order)

  -- 2.
  unfoldable pub order_test : Bool
  order_test =
      all_below is_new (length w.order)
      && all_below (λ p. all_below (is_ordered p) (length (path_at w p))) (length w.paths)

  -- The record names the start.
  abbrev pub names_start : Source → Bool
  names_start r = r.processor == 255 && r.position == 255

  -- The record names a store to the cell with these data.
  abbrev pub names_store : ℕ → Source → Bool
  names_store a r =
      stores_to q w a (access_at r.processor r.position) && r.value == (event q w r.processor r.position).datum

  -- The source of position i of processor p, if it is a load, is the start with its value or a store to its cell with its data.
  abbrev pub is_sourced : ℕ → ℕ → Bool
  is_sourced p i =
      not (loads (instruction q w p i))
      || ((names_start (source_at q w p i) && (source_at q w p i).value == slice_index q.start (cell q w p i))
      || names_store (cell q w p i) (source_at q w p i))

  -- 3.
  unfoldable pub source_test : Bool
  source_test = all_below (λ p. all_below (is_sourced p) (length (path_at w p))) (length w.paths)

  -- The number found, or 0.
  abbrev pub number_or_0 : Option ℕ → ℕ
  number_or_0 None = 0
  number_or_0 (Some k) = k

  -- The number in the order of position i of processor p.
  abbrev pub rank : ℕ → ℕ → ℕ
  rank p i = number_or_0 (nearest (λ k. same_access (ordered k) (access_at p i)) (length w.order))

  -- If the rule keeps the access at i before the one at j, through any events between, then it stands before it in the order.
  abbrev pub is_kept_in_order : (List Event → ℕ → ℕ → Bool) → ℕ → ℕ → ℕ → Bool
  is_kept_in_order keeps p i j =
      not (access (instruction q w p i) && (access (instruction q w p j) && slice_index_or (reached (keeps (events q w p)) i (length (path_at w p))) j false))
      || nat_lt (rank p i) (rank p j)

  -- 4.
  unfoldable pub inst_order_test : (List Event → ℕ → ℕ → Bool) → Bool
  inst_order_test keeps =
      all_below (λ p. all_below (λ i. all_below (is_kept_in_order keeps p i) (length (path_at w p))) (length (path_at w p))) (length w.paths)

  -- The access at number k of the order is a store to the cell of position i of processor p, before it in the order or in its own path.
  abbrev pub is_candidate : ℕ → ℕ → ℕ → Bool
  is_candidate p i k =
      stores_to q w (cell q w p i) (ordered k)
      && (nat_lt k (rank p i) || ((ordered k).processor == p && nat_lt (ordered k).position i))

  -- The record names the access with this number in the order, or the start where there is none.
  abbrev pub names_found : Source → Option ℕ → Bool
  names_found r None = names_start r
  names_found r (Some k) = same_access (access_at r.processor r.position) (ordered k)

  -- The source of position i of processor p, if it is a load, is the youngest candidate.
  abbrev pub is_youngest : ℕ → ℕ → Bool
  is_youngest p i = not (loads (instruction q w p i)) || names_found (source_at q w p i) (nearest (is_candidate p i) (length w.order))

  -- 5.
  unfoldable pub load_value_test : Bool
  load_value_test = all_below (λ p. all_below (is_youngest p) (length (path_at w p))) (length w.paths)
