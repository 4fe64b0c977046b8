-- GAM and SC, and their tests, keep only earlier before later.
use Rattle.std.proofs.Common.{◌≡◌, ℕ, ◌<◌, Bool, true, ◌&&◌, ltb, List, Some, None, Option, refl, inl, inr, arith}
use Rattle.std.proofs.lemmas.Bool.{false≢true, eqb-true, ltb-true, and_parts, or_cases}
use Rattle.instructions.specs.Kinds.{stores, access, first_operand, second_operand}
use Rattle.instructions.specs.declared.instruction.Instruction.{Instruction}
use Rattle.search.specs.Search.{passes}
use Rattle.search.proofs.Searches.{nearest_some}
use Rattle.events.specs.declared.event.Event.{Event}
use Rattle.events.specs.Events.{at, writes_register, writer}
use Rattle.ordering.specs.Constraints as constraints
use Rattle.ordering.specs.Rules.{instruction_of}
use Rattle.ordering.specs.Tests as tests
use Rattle.ordering.specs.Tests.{some_below}
use Rattle.checker.specs.Verdict.{Forward}
use Rattle.checker_laws.proofs.Bounds.{decides_pass, decides_some}

module _ (instruction : ℕ → Instruction) (cell : ℕ → Option ℕ) where
  depends_earlier : (i j : ℕ) → constraints.Depends instruction cell i j → i < j
  depends_earlier i j (inl x) = x.writer.below
  depends_earlier i j (inr x) = x.writer.below

  fence_ord_earlier : (i j : ℕ) → constraints.FenceOrd instruction cell i j → i < j
  fence_ord_earlier i j (constraints.FenceOrd.before_fence X l a b) = l
  fence_ord_earlier i j (constraints.FenceOrd.after_fence Y l a b) = l

  -- GAM, on any row.
  pub gam_earlier : (i j : ℕ) → constraints.GAM instruction cell i j → i < j
  gam_earlier i j (constraints.GAM.sa_mem_st x) = x.earlier
  gam_earlier i j (constraints.GAM.sa_st_ld x) = omega (arith, depends_earlier i x.nearest x.depends, x.store.earlier)
  gam_earlier i j (constraints.GAM.sa_ld_ld x) = x.earlier
  gam_earlier i j (constraints.GAM.reg_raw x) = depends_earlier i j x
  gam_earlier i j (constraints.GAM.br_st x) = x.earlier
  gam_earlier i j (constraints.GAM.addr_st x) = omega (arith, x.depends.feeds.writer.below, x.earlier)
  gam_earlier i j (constraints.GAM.fence_ord x) = fence_ord_earlier i j x

module _ (es : List Event) where
  -- A test that begins with the order.
  under : (i j : ℕ) (t : Bool) → (ltb i j && t) ≡ true → i < j
  under i j t h = ltb-true i j (and_parts (ltb i j) t h).0

  feeds_earlier : (o : Option ℕ) (i j : ℕ) → tests.feeds es o i j ≡ true → i < j
  feeds_earlier None i j h = absurd (false≢true h)
  feeds_earlier (Some r) i j h = go (writer es r j) refl h
    where
      go : (o : Option ℕ) → writer es r j ≡ o → tests.found_at o i ≡ true → i < j
      go None e f = absurd (false≢true f)
      go (Some k) e f = omega (arith, (nearest_some (passes (writes_register r) es) j k e).below, eqb-true k i f)

  depends_test_earlier : (i j : ℕ) → tests.depends es i j ≡ true → i < j
  depends_test_earlier i j h = elim (or_cases _ _ h) [
    | inl e ↦ feeds_earlier (first_operand (instruction_of es j)) i j e
    | inr e ↦ feeds_earlier (second_operand (instruction_of es j)) i j e
  ]

  sa_st_ld_earlier : (i j : ℕ) → tests.sa_st_ld es i j ≡ true → i < j
  unfolding tests.sa_st_ld
  sa_st_ld_earlier i j h = go (tests.nearest_store es j) refl (and_parts _ _ h).1
    where
      go : (o : Option ℕ) → tests.nearest_store es j ≡ o → tests.found_depends es o i ≡ true → i < j
      go None e f = absurd (false≢true f)
      go (Some s) e f = omega (arith, (nearest_some (passes (tests.stores_to (at es j).address) es) j s e).below, depends_test_earlier i s f)

  addr_st_earlier : (i j : ℕ) → tests.addr_st es i j ≡ true → i < j
  unfolding tests.addr_st
  addr_st_earlier i j h =
      let t = tests.depends_for_address es i in
      let x = (decides_some t (λ m. t m ≡ true) j (λ m _. decides_pass (t m))).0 (and_parts (stores (instruction_of es j)) (some_below t j) h).1 in
      let o = first_operand (instruction_of es x.0) in
      let l = feeds_earlier o i x.0 (and_parts (access (instruction_of es x.0)) (tests.feeds es o i x.0) x.2).1 in
      omega (arith, x.1)

  sa_mem_st_earlier : (i j : ℕ) → tests.sa_mem_st es i j ≡ true → i < j
  unfolding tests.sa_mem_st
  sa_mem_st_earlier i j h = under i j _ h

  sa_ld_ld_earlier : (i j : ℕ) → tests.sa_ld_ld es i j ≡ true → i < j
  unfolding tests.sa_ld_ld
  sa_ld_ld_earlier i j h = under i j _ h

  reg_raw_earlier : (i j : ℕ) → tests.reg_raw es i j ≡ true → i < j
  unfolding tests.reg_raw
  reg_raw_earlier i j h = depends_test_earlier i j h

  br_st_earlier : (i j : ℕ) → tests.br_st es i j ≡ true → i < j
  unfolding tests.br_st
  br_st_earlier i j h = under i j _ h

  fence_ord_test_earlier : (i j : ℕ) → tests.fence_ord es i j ≡ true → i < j
  unfolding tests.fence_ord
  fence_ord_test_earlier i j h = under i j _ h

-- The two tests run forward.
pub gam_keeps_forward : Forward tests.gam_keeps
unfolding tests.gam_keeps
gam_keeps_forward es i j h = elim (or_cases _ _ h) [
  | inl e ↦ sa_mem_st_earlier es i j e
  | inr f ↦ elim (or_cases _ _ f) [
    | inl e ↦ sa_st_ld_earlier es i j e
    | inr g ↦ elim (or_cases _ _ g) [
      | inl e ↦ sa_ld_ld_earlier es i j e
      | inr k ↦ elim (or_cases _ _ k) [
        | inl e ↦ reg_raw_earlier es i j e
        | inr m ↦ elim (or_cases _ _ m) [
          | inl e ↦ br_st_earlier es i j e
          | inr n ↦ elim (or_cases _ _ n) [
            | inl e ↦ addr_st_earlier es i j e
            | inr e ↦ fence_ord_test_earlier es i j e
          ]
        ]
      ]
    ]
  ]
]

pub sc_keeps_forward : Forward tests.sc_keeps
unfolding tests.sc_keeps
sc_keeps_forward es i j h = under es i j _ h
