-- The seven tests pass exactly where the seven constraints hold, at the positions of a path; so GAM and SC keep what their tests say.
use Rattle.std.proofs.Common.{◌≡◌, ℕ, ◌<◌, ◌≤◌, Bool, true, ◌&&◌, ltb, ◌⊎◌, List, length, Decides, inl, inr, arith}
use Rattle.std.proofs.lemmas.Bool.Decides.{Decides-and, Decides-or, Decides-like, Decides-ltb}
use Rattle.instructions.specs.Kinds.{loads, stores, access, branches, of_type, fence_from, fence_to}
use Rattle.instructions.specs.declared.instruction.AccessType.TheVariants as access_type
use Rattle.instructions.specs.declared.instruction.Instruction.{Instruction}
use Rattle.events.specs.declared.event.Event.{Event}
use Rattle.ordering.specs.Constraints as constraints
use Rattle.ordering.specs.Rules.{instruction_of, cell_of, gam, sc}
use Rattle.ordering.specs.Tests as tests
use Rattle.checker_laws.proofs.Bounds.{decides_pass, decides_some}
use Rattle.checker_laws.proofs.KeptParts.{depends_is, depends_for_address_is, same_cell_is, found_depends_is, none_after_is}

module _ (es : List Event) where
  abbrev ins : ℕ → Instruction
  ins = instruction_of es

  -- Each test, in the published order.
  pub sa_mem_st_is : (i j : ℕ) → Decides (tests.sa_mem_st es i j) (constraints.SAMemSt ins (cell_of es) i j)
  unfolding tests.sa_mem_st
  sa_mem_st_is i j =
      Decides-like _
      (λ x. record { earlier = x.0; accesses = x.1.0; store = x.1.1.0; same = x.1.1.1 })
      (λ x. (x.earlier, (x.accesses, (x.store, x.same))))
      (Decides-and (ltb i j) _ (Decides-ltb i j)
      (Decides-and (access (ins i)) _ (decides_pass (access (ins i)))
      (Decides-and (stores (ins j)) (tests.same_cell es i j) (decides_pass (stores (ins j))) (same_cell_is es i j))))

  pub sa_st_ld_is : (i j : ℕ) → j ≤ length es → Decides (tests.sa_st_ld es i j) (constraints.SAStLd ins (cell_of es) i j)
  unfolding tests.sa_st_ld
  sa_st_ld_is i j l =
      Decides-like _
      (λ x. record { load = x.0; nearest = x.1.0; store = x.1.1; depends = x.1.2 })
      (λ x. (x.load, (x.nearest, x.store, x.depends)))
      (Decides-and (loads (ins j)) _ (decides_pass (loads (ins j))) (found_depends_is es i j l))

  pub sa_ld_ld_is : (i j : ℕ) → j ≤ length es → Decides (tests.sa_ld_ld es i j) (constraints.SALdLd ins (cell_of es) i j)
  unfolding tests.sa_ld_ld
  sa_ld_ld_is i j l =
      Decides-like _
      (λ x. record { earlier = x.0; first_load = x.1.0; second_load = x.1.1.0; same = x.1.1.1.0; none_between = x.1.1.1.1 })
      (λ x. (x.earlier, (x.first_load, (x.second_load, (x.same, x.none_between)))))
      (Decides-and (ltb i j) _ (Decides-ltb i j)
      (Decides-and (loads (ins i)) _ (decides_pass (loads (ins i)))
      (Decides-and (loads (ins j)) _ (decides_pass (loads (ins j)))
      (Decides-and (tests.same_cell es i j) _ (same_cell_is es i j) (none_after_is es i j l)))))

  pub reg_raw_is : (i j : ℕ) → j ≤ length es → Decides (tests.reg_raw es i j) (constraints.RegRAW ins (cell_of es) i j)
  unfolding tests.reg_raw
  reg_raw_is i j l = depends_is es i j l

  pub br_st_is : (i j : ℕ) → Decides (tests.br_st es i j) (constraints.BrSt ins (cell_of es) i j)
  unfolding tests.br_st
  br_st_is i j =
      Decides-like _
      (λ x. record { earlier = x.0; branch = x.1.0; store = x.1.1 })
      (λ x. (x.earlier, (x.branch, x.store)))
      (Decides-and (ltb i j) _ (Decides-ltb i j)
      (Decides-and (branches (ins i)) (stores (ins j)) (decides_pass (branches (ins i))) (decides_pass (stores (ins j)))))

  pub addr_st_is : (i j : ℕ) → j ≤ length es → Decides (tests.addr_st es i j) (constraints.AddrSt ins (cell_of es) i j)
  unfolding tests.addr_st
  addr_st_is i j l =
      Decides-like _
      (λ x. record { store = x.0; middle = x.1.0; earlier = x.1.1; depends = x.1.2 })
      (λ x. (x.store, (x.middle, x.earlier, x.depends)))
      (Decides-and (stores (ins j)) _ (decides_pass (stores (ins j)))
      (decides_some (tests.depends_for_address es i) (λ m. constraints.DependsForAddress ins (cell_of es) i m) j
      (λ m h. depends_for_address_is es i m (omega arith))))

  -- Both of two tests pass.
  two_pass : (x y : Bool) → Decides (x && y) ((x ≡ true) × (y ≡ true))
  two_pass x y = Decides-and x y (decides_pass x) (decides_pass y)

  -- The four ways to be ordered by a fence.
  abbrev Fenced : ℕ → ℕ → Type 0
  Fenced i j =
      (((of_type access_type.Load (ins i) ≡ true) × (fence_from access_type.Load (ins j) ≡ true))
      ⊎ ((of_type access_type.Store (ins i) ≡ true) × (fence_from access_type.Store (ins j) ≡ true)))
      ⊎ (((fence_to access_type.Load (ins i) ≡ true) × (of_type access_type.Load (ins j) ≡ true))
      ⊎ ((fence_to access_type.Store (ins i) ≡ true) × (of_type access_type.Store (ins j) ≡ true)))

  fenced_to : (i j : ℕ) → i < j → Fenced i j → constraints.FenceOrd ins (cell_of es) i j
  fenced_to i j l (inl (inl x)) = constraints.FenceOrd.before_fence access_type.Load l x.0 x.1
  fenced_to i j l (inl (inr x)) = constraints.FenceOrd.before_fence access_type.Store l x.0 x.1
  fenced_to i j l (inr (inl x)) = constraints.FenceOrd.after_fence access_type.Load l x.0 x.1
  fenced_to i j l (inr (inr x)) = constraints.FenceOrd.after_fence access_type.Store l x.0 x.1

  fenced_from : (i j : ℕ) → constraints.FenceOrd ins (cell_of es) i j → (i < j) × Fenced i j
  fenced_from i j (constraints.FenceOrd.before_fence access_type.Load l a b) = (l, inl (inl (a, b)))
  fenced_from i j (constraints.FenceOrd.before_fence access_type.Store l a b) = (l, inl (inr (a, b)))
  fenced_from i j (constraints.FenceOrd.after_fence access_type.Load l a b) = (l, inr (inl (a, b)))
  fenced_from i j (constraints.FenceOrd.after_fence access_type.Store l a b) = (l, inr (inr (a, b)))

  pub fence_ord_is : (i j : ℕ) → Decides (tests.fence_ord es i j) (constraints.FenceOrd ins (cell_of es) i j)
  unfolding tests.fence_ord
  fence_ord_is i j =
      Decides-like _ (λ x. fenced_to i j x.0 x.1) (fenced_from i j)
      (Decides-and (ltb i j) _ (Decides-ltb i j)
      (Decides-or _ _
      (Decides-or _ _
      (two_pass (of_type access_type.Load (ins i)) (fence_from access_type.Load (ins j)))
      (two_pass (of_type access_type.Store (ins i)) (fence_from access_type.Store (ins j))))
      (Decides-or _ _
      (two_pass (fence_to access_type.Load (ins i)) (of_type access_type.Load (ins j)))
      (two_pass (fence_to access_type.Store (ins i)) (of_type access_type.Store (ins j))))))

  -- GAM as the sum of the seven.
  abbrev Seven : ℕ → ℕ → Type 0
  Seven i j =
      constraints.SAMemSt ins (cell_of es) i j ⊎ (constraints.SAStLd ins (cell_of es) i j ⊎ (constraints.SALdLd ins (cell_of es) i j
      ⊎ (constraints.RegRAW ins (cell_of es) i j ⊎ (constraints.BrSt ins (cell_of es) i j
      ⊎ (constraints.AddrSt ins (cell_of es) i j ⊎ constraints.FenceOrd ins (cell_of es) i j)))))

  seven_to : (i j : ℕ) → Seven i j → gam es i j
  seven_to i j (inl x) = constraints.GAM.sa_mem_st x
  seven_to i j (inr (inl x)) = constraints.GAM.sa_st_ld x
  seven_to i j (inr (inr (inl x))) = constraints.GAM.sa_ld_ld x
  seven_to i j (inr (inr (inr (inl x)))) = constraints.GAM.reg_raw x
  seven_to i j (inr (inr (inr (inr (inl x))))) = constraints.GAM.br_st x
  seven_to i j (inr (inr (inr (inr (inr (inl x)))))) = constraints.GAM.addr_st x
  seven_to i j (inr (inr (inr (inr (inr (inr x)))))) = constraints.GAM.fence_ord x

  seven_from : (i j : ℕ) → gam es i j → Seven i j
  seven_from i j (constraints.GAM.sa_mem_st x) = inl x
  seven_from i j (constraints.GAM.sa_st_ld x) = inr (inl x)
  seven_from i j (constraints.GAM.sa_ld_ld x) = inr (inr (inl x))
  seven_from i j (constraints.GAM.reg_raw x) = inr (inr (inr (inl x)))
  seven_from i j (constraints.GAM.br_st x) = inr (inr (inr (inr (inl x))))
  seven_from i j (constraints.GAM.addr_st x) = inr (inr (inr (inr (inr (inl x)))))
  seven_from i j (constraints.GAM.fence_ord x) = inr (inr (inr (inr (inr (inr x)))))

  -- GAM keeps what its test says.
  pub gam_keeps_is : (i j : ℕ) → j ≤ length es → Decides (tests.gam_keeps es i j) (gam es i j)
  unfolding tests.gam_keeps
  gam_keeps_is i j l =
      Decides-like _ (seven_to i j) (seven_from i j)
      (Decides-or _ _ (sa_mem_st_is i j)
      (Decides-or _ _ (sa_st_ld_is i j l)
      (Decides-or _ _ (sa_ld_ld_is i j l)
      (Decides-or _ _ (reg_raw_is i j l)
      (Decides-or _ _ (br_st_is i j)
      (Decides-or _ _ (addr_st_is i j l) (fence_ord_is i j)))))))

  -- SC keeps what its test says.
  pub sc_keeps_is : (i j : ℕ) → Decides (tests.sc_keeps es i j) (sc es i j)
  unfolding tests.sc_keeps
  sc_keeps_is i j =
      Decides-like _
      (λ x. record { earlier = x.0; first = x.1.0; second = x.1.1 })
      (λ x. (x.earlier, (x.first, x.second)))
      (Decides-and (ltb i j) _ (Decides-ltb i j) (two_pass (access (ins i)) (access (ins j))))
