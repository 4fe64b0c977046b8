-- The constraints as tests, each for the pair of events at i and j of a path, and the two ordering rules.
use Rattle.std.specs.Prelude.{ℕ, zero, suc, Bool, true, false, not, ◌&&◌, ◌||◌, List, Some, None, Option, ◌==◌, nat_lt}
use Rattle.instructions.specs.Kinds.{loads, stores, access, branches, of_type, fence_from, fence_to, first_operand, second_operand}
use Rattle.instructions.specs.declared.instruction.AccessType.TheVariants as access_type
use Rattle.search.specs.Search.{nearest, passes}
use Rattle.events.specs.declared.event.Event.{Event}
use Rattle.events.specs.Events.{at, writer}
use Rattle.instructions.specs.Effects.{cell_number}
use Rattle.ordering.specs.Rules.{instruction_of}

-- Some number below n passes.
unfoldable pub some_below : (ℕ → Bool) → ℕ → Bool
some_below t zero = false
some_below t (suc n) = t n || some_below t n

-- What a search found is the position.
abbrev pub found_at : Option ℕ → ℕ → Bool
found_at None i = false
found_at (Some k) i = k == i

-- A store to the cell of an address sum.
abbrev pub stores_to : ℕ → Event → Bool
stores_to a e = stores e.instruction && cell_number e.address == cell_number a

module _ (es : List Event) where
  -- The operand of the event at j comes from the event at i.
  abbrev pub feeds : Option ℕ → ℕ → ℕ → Bool
  feeds None i j = false
  feeds (Some r) i j = found_at (writer es r j) i

  -- The event at j depends on the one at i.
  abbrev pub depends : ℕ → ℕ → Bool
  depends i j = feeds (first_operand (instruction_of es j)) i j || feeds (second_operand (instruction_of es j)) i j

  -- The event at j, an access, depends on the one at i for its address.
  abbrev pub depends_for_address : ℕ → ℕ → Bool
  depends_for_address i j = access (instruction_of es j) && feeds (first_operand (instruction_of es j)) i j

  -- Both have one cell.
  abbrev pub same_cell : ℕ → ℕ → Bool
  same_cell i j = cell_number (at es i).address == cell_number (at es j).address

  -- The nearest earlier store to the cell of the event at j.
  abbrev pub nearest_store : ℕ → Option ℕ
  nearest_store j = nearest (passes (stores_to (at es j).address) es) j

  -- What a search found depends on the event at i.
  abbrev pub found_depends : Option ℕ → ℕ → Bool
  found_depends None i = false
  found_depends (Some s) i = depends i s

  -- The nearest earlier store that a search found does not stand after i.
  abbrev pub none_after : Option ℕ → ℕ → Bool
  none_after None i = true
  none_after (Some s) i = not (nat_lt i s)

  unfoldable pub sa_mem_st : ℕ → ℕ → Bool
  sa_mem_st i j = nat_lt i j && (access (instruction_of es i) && (stores (instruction_of es j) && same_cell i j))

  unfoldable pub sa_st_ld : ℕ → ℕ → Bool
  sa_st_ld i j = loads (instruction_of es j) && found_depends (nearest_store j) i

  unfoldable pub sa_ld_ld : ℕ → ℕ → Bool
  sa_ld_ld i j =
      nat_lt i j && (loads (instruction_of es i) && (loads (instruction_of es j) && (same_cell i j && none_after (nearest_store j) i)))

  unfoldable pub reg_raw : ℕ → ℕ → Bool
  reg_raw i j = depends i j

  unfoldable pub br_st : ℕ → ℕ → Bool
  br_st i j = nat_lt i j && (branches (instruction_of es i) && stores (instruction_of es j))

  unfoldable pub addr_st : ℕ → ℕ → Bool
  addr_st i j = stores (instruction_of es j) && some_below (depends_for_address i) j

  unfoldable pub fence_ord : ℕ → ℕ → Bool
  fence_ord i j =
      nat_lt i j && (((of_type access_type.Load (instruction_of es i) && fence_from access_type.Load (instruction_of es j))
      || (of_type access_type.Store (instruction_of es i) && fence_from access_type.Store (instruction_of es j)))
      || ((fence_to access_type.Load (instruction_of es i) && of_type access_type.Load (instruction_of es j))
      || (fence_to access_type.Store (instruction_of es i) && of_type access_type.Store (instruction_of es j))))

  -- GAM: one of the seven.
  unfoldable pub gam_keeps : ℕ → ℕ → Bool
  gam_keeps i j =
      sa_mem_st i j || (sa_st_ld i j || (sa_ld_ld i j || (reg_raw i j || (br_st i j || (addr_st i j || fence_ord i j)))))

  -- Sequential consistency: two accesses in their order.
  unfoldable pub sc_keeps : ℕ → ℕ → Bool
  sc_keeps i j = nat_lt i j && (access (instruction_of es i) && access (instruction_of es j))
