-- What the ordering rules keep in order runs forward, constraint by constraint.
use Rattle.std.specs.Prelude.{◌≡◌, ℕ, ◌<◌, true, List, Some, None, Option, nat_lt}
use Rattle.std.proofs.Common.{inl, inr}
use native.Mathlib.Omega.{arith}
use Rattle.std.proofs.lemmas.Bool.{ltb-true, eqb-true, and_parts, or_cases, false≢true}
use Rattle.instructions.specs.Kinds.{first_operand, second_operand, access, loads, stores}
use Rattle.search.specs.Search.{Sought, passes}
use Rattle.search.proofs.Searches.{nearest_found}
use Rattle.events.specs.declared.event.Event.{Event}
use Rattle.events.specs.Events.{at, writes_register}
use Rattle.ordering.specs.Rules.{instruction_of}
use Rattle.ordering.specs.Tests.{found_at, stores_to, feeds, depends, depends_for_address, found_depends, sa_mem_st, sa_st_ld, sa_ld_ld, reg_raw, br_st, addr_st, fence_ord, gam_keeps, sc_keeps}
use Rattle.ordering.specs.Some.{some_found}

module _ (es : List Event) (i : ℕ) where
  -- What feeds an operand stands before it.
  pub feeds_forward : (operand : Option ℕ) (j : ℕ) → feeds es operand i j ≡ true → i < j
  feeds_forward None j h = absurd (false≢true h)
  feeds_forward (Some r) j h = go (nearest_found (passes (writes_register r) es) j) h
    where
      go : {o : Option ℕ} → Sought (passes (writes_register r) es) j o → found_at o i ≡ true → i < j
      go (Sought.nothing _) f = absurd (false≢true f)
      go (Sought.found k n) f = omega (arith, eqb-true k i f, n.below)

  -- What an event depends on stands before it.
  pub depends_forward : (j : ℕ) → depends es i j ≡ true → i < j
  depends_forward j h = elim (or_cases (feeds es (first_operand (instruction_of es j)) i j) _ h) [
    | inl e ↦ feeds_forward (first_operand (instruction_of es j)) j e
    | inr e ↦ feeds_forward (second_operand (instruction_of es j)) j e
  ]

  -- SAMemSt runs forward.
  pub sa_mem_st_forward : (j : ℕ) → sa_mem_st es i j ≡ true → i < j
  unfolding sa_mem_st
  sa_mem_st_forward j h = ltb-true i j (and_parts (nat_lt i j) _ h).0

  -- SAStLd runs forward: the store that depends stands before the load.
  pub sa_st_ld_forward : (j : ℕ) → sa_st_ld es i j ≡ true → i < j
  unfolding sa_st_ld
  sa_st_ld_forward j h =
      go (nearest_found (passes (stores_to (at es j).address) es) j) (and_parts (loads (instruction_of es j)) _ h).1
    where
      go : {o : Option ℕ} → Sought (passes (stores_to (at es j).address) es) j o → found_depends es o i ≡ true → i < j
      go (Sought.nothing _) f = absurd (false≢true f)
      go (Sought.found s n) f = omega (arith, depends_forward s f, n.below)

  -- SALdLd runs forward.
  pub sa_ld_ld_forward : (j : ℕ) → sa_ld_ld es i j ≡ true → i < j
  unfolding sa_ld_ld
  sa_ld_ld_forward j h = ltb-true i j (and_parts (nat_lt i j) _ h).0

  -- RegRAW runs forward.
  pub reg_raw_forward : (j : ℕ) → reg_raw es i j ≡ true → i < j
  unfolding reg_raw
  reg_raw_forward j h = depends_forward j h

  -- BrSt runs forward.
  pub br_st_forward : (j : ℕ) → br_st es i j ≡ true → i < j
  unfolding br_st
  br_st_forward j h = ltb-true i j (and_parts (nat_lt i j) _ h).0

  -- AddrSt runs forward: the access that depends stands before the store.
  pub addr_st_forward : (j : ℕ) → addr_st es i j ≡ true → i < j
  unfolding addr_st
  addr_st_forward j h =
      let (k, l, t) = some_found (depends_for_address es i) j (and_parts (stores (instruction_of es j)) _ h).1 in
      let f = feeds_forward (first_operand (instruction_of es k)) k (and_parts (access (instruction_of es k)) _ t).1 in
      omega arith

  -- FenceOrd runs forward.
  pub fence_ord_forward : (j : ℕ) → fence_ord es i j ≡ true → i < j
  unfolding fence_ord
  fence_ord_forward j h = ltb-true i j (and_parts (nat_lt i j) _ h).0

-- GAM keeps only earlier events before later ones.
pub gam_forward : (es : List Event) (i j : ℕ) → gam_keeps es i j ≡ true → i < j
unfolding gam_keeps
gam_forward es i j h = elim (or_cases (sa_mem_st es i j) _ h) [
  | inl e ↦ sa_mem_st_forward es i j e
  | inr h ↦ elim (or_cases (sa_st_ld es i j) _ h) [
    | inl e ↦ sa_st_ld_forward es i j e
    | inr h ↦ elim (or_cases (sa_ld_ld es i j) _ h) [
      | inl e ↦ sa_ld_ld_forward es i j e
      | inr h ↦ elim (or_cases (reg_raw es i j) _ h) [
        | inl e ↦ reg_raw_forward es i j e
        | inr h ↦ elim (or_cases (br_st es i j) _ h) [
          | inl e ↦ br_st_forward es i j e
          | inr h ↦ elim (or_cases (addr_st es i j) (fence_ord es i j) h) [
            | inl e ↦ addr_st_forward es i j e
            | inr e ↦ fence_ord_forward es i j e
          ]
        ]
      ]
    ]
  ]
]

-- Sequential consistency keeps only earlier events before later ones.
pub sc_forward : (es : List Event) (i j : ℕ) → sc_keeps es i j ≡ true → i < j
unfolding sc_keeps
sc_forward es i j h = ltb-true i j (and_parts (nat_lt i j) _ h).0
