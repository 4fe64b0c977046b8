-- Two rows that agree in instructions and in the cells of accesses up to a bound keep the same pairs there.
use Rattle.std.proofs.Common.{◌≡◌, ℕ, ◌<◌, ◌≤◌, Bool, true, false, Option, sym, ap, ◌∙◌, inl, inr, arith}
use Rattle.instructions.specs.Kinds.{loads, stores, access, branches, of_type, fence_from, fence_to, first_operand, second_operand, writes}
use Rattle.instructions.specs.declared.instruction.Instruction.{Instruction}
use Rattle.ordering.specs.Closure.{Closure}
use Rattle.ordering.specs.Constraints.{Feeds, Depends, SameCell, NoStoreBetween, NearestStore, SALdLd, FenceOrd, GAM}
use Rattle.soundness.proofs.KindFacts.{load_access, store_access}
use Rattle.soundness.proofs.Constrained.{Six, gam_split, six_earlier}

module _ (n : ℕ) (ins ins' : ℕ → Instruction) (cell cell' : ℕ → Option ℕ)
    (is : (j : ℕ) → j < n → ins' j ≡ ins j) (cs : (j : ℕ) → j < n → access (ins j) ≡ true → cell' j ≡ cell j) where
  -- A test of an instruction below n.
  here : (f : Instruction → Bool) (b : Bool) (j : ℕ) → j < n → f (ins' j) ≡ b → f (ins j) ≡ b
  here f b j h e = ap f (sym (is j h)) ∙ e

  there : (f : Instruction → Bool) (b : Bool) (j : ℕ) → j < n → f (ins j) ≡ b → f (ins' j) ≡ b
  there f b j h e = ap f (is j h) ∙ e

  pub feeds_local : (o : Option ℕ) (j k : ℕ) → k ≤ n → Feeds ins' cell' o j k → Feeds ins cell o j k
  feeds_local o j k kn d = let w = d.writer in record {
    register = d.register;
    reads = d.reads;
    writer = record {
      below = w.below;
      hit = here (λ x. writes x d.register) true j (omega (arith, w.below)) w.hit;
      between = λ m a b. here (λ x. writes x d.register) false m (omega arith) (w.between m a b);
    };
  }

  pub depends_local : (j k : ℕ) → k < n → Depends ins' cell' j k → Depends ins cell j k
  depends_local j k kn (inl d) = inl (rw (ap first_operand (is k kn)) at (feeds_local (first_operand (ins' k)) j k (omega arith) d))
  depends_local j k kn (inr d) = inr (rw (ap second_operand (is k kn)) at (feeds_local (second_operand (ins' k)) j k (omega arith) d))

  same_local : (j k : ℕ) → j < n → k < n → access (ins j) ≡ true → access (ins k) ≡ true → SameCell ins' cell' j k → SameCell ins cell j k
  same_local j k jn kn a b s = record { number = s.number; first = sym (cs j jn a) ∙ s.first; second = sym (cs k kn b) ∙ s.second }

  same_back : (j k : ℕ) → j < n → k < n → access (ins j) ≡ true → access (ins k) ≡ true → SameCell ins cell j k → SameCell ins' cell' j k
  same_back j k jn kn a b s = record { number = s.number; first = cs j jn a ∙ s.first; second = cs k kn b ∙ s.second }

  none_local : (j k : ℕ) → k < n → access (ins k) ≡ true → NoStoreBetween ins' cell' j k → NoStoreBetween ins cell j k
  none_local j k kn a h m p q st s = let mn : m < n = omega arith in
      h m p q (there stores true m mn st) (same_back m k mn kn (store_access (ins m) st) a s)

  pub near_local : (j k : ℕ) → k < n → access (ins k) ≡ true → NearestStore ins' cell' j k → NearestStore ins cell j k
  near_local j k kn a s = let jn : j < n = omega (arith, s.earlier) in let st = here stores true j jn s.store in
      record { earlier = s.earlier; store = st; same = same_local j k jn kn (store_access (ins j) st) a s.same; none_between = none_local j k kn a s.none_between }

  pub ld_ld_local : (j k : ℕ) → k < n → SALdLd ins' cell' j k → SALdLd ins cell j k
  ld_ld_local j k kn h = let jn : j < n = omega (arith, h.earlier) in
      let l = here loads true j jn h.first_load in let m = here loads true k kn h.second_load in
      let b = load_access (ins k) m in
      record {
        earlier = h.earlier;
        first_load = l;
        second_load = m;
        same = same_local j k jn kn (load_access (ins j) l) b h.same;
        none_between = none_local j k kn b h.none_between;
      }

  pub fence_local : (j k : ℕ) → k < n → FenceOrd ins' cell' j k → FenceOrd ins cell j k
  fence_local j k kn (FenceOrd.before_fence X b e f) = FenceOrd.before_fence X b (here (of_type X) true j (omega arith) e) (here (fence_from X) true k kn f)
  fence_local j k kn (FenceOrd.after_fence Y b e f) = FenceOrd.after_fence Y b (here (fence_to Y) true j (omega arith) e) (here (of_type Y) true k kn f)

  pub six_local : (j k : ℕ) → k < n → Six ins' cell' j k → Six ins cell j k
  six_local j k kn (Six.sa_mem_st h) = let jn : j < n = omega (arith, h.earlier) in
      let a = here access true j jn h.accesses in let st = here stores true k kn h.store in
      Six.sa_mem_st (record { earlier = h.earlier; accesses = a; store = st; same = same_local j k jn kn a (store_access (ins k) st) h.same })
  six_local j k kn (Six.sa_st_ld h) = let mn : h.nearest < n = omega (arith, h.store.earlier) in let l = here loads true k kn h.load in
      Six.sa_st_ld (record {
        load = l;
        nearest = h.nearest;
        store = near_local h.nearest k kn (load_access (ins k) l) h.store;
        depends = depends_local j h.nearest mn h.depends;
      })
  six_local j k kn (Six.reg_raw h) = Six.reg_raw (depends_local j k kn h)
  six_local j k kn (Six.br_st h) = Six.br_st (record { earlier = h.earlier; branch = here branches true j (omega (arith, h.earlier)) h.branch; store = here stores true k kn h.store })
  six_local j k kn (Six.addr_st h) = let mn : h.middle < n = omega (arith, h.earlier) in
      Six.addr_st (record {
        store = here stores true k kn h.store;
        middle = h.middle;
        earlier = h.earlier;
        depends = record {
          accesses = here access true h.middle mn h.depends.accesses;
          feeds = rw (ap first_operand (is h.middle mn)) at (feeds_local (first_operand (ins' h.middle)) j h.middle (omega arith) h.depends.feeds);
        };
      })
  six_local j k kn (Six.fence_ord h) = Six.fence_ord (fence_local j k kn h)

  -- A pair that GAM keeps in the one row it keeps in the other.
  pub gam_local : (j k : ℕ) → k < n → GAM ins' cell' j k → GAM ins cell j k
  gam_local j k kn g = elim (gam_split ins' cell' j k g) [ inl h ↦ whole (six_local j k kn h) | inr h ↦ GAM.sa_ld_ld (ld_ld_local j k kn h) ]
    where
      whole : Six ins cell j k → GAM ins cell j k
      whole (Six.sa_mem_st h) = GAM.sa_mem_st h
      whole (Six.sa_st_ld h) = GAM.sa_st_ld h
      whole (Six.reg_raw h) = GAM.reg_raw h
      whole (Six.br_st h) = GAM.br_st h
      whole (Six.addr_st h) = GAM.addr_st h
      whole (Six.fence_ord h) = GAM.fence_ord h

  gam_earlier : (j k : ℕ) → GAM ins' cell' j k → j < k
  gam_earlier j k g = elim (gam_split ins' cell' j k g) [ inl h ↦ six_earlier ins' cell' j k h | inr h ↦ h.earlier ]

  -- And so does its transitive closure.
  pub closure_local : (i : ℕ) {j : ℕ} → j < n → Closure (GAM ins' cell') i j → Closure (GAM ins cell) i j
  closure_local i {j} jn (Closure.one g) = Closure.one (gam_local i j jn g)
  closure_local i {j} jn (Closure.then {k} r g) =
      Closure.then (closure_local i {j = k} (omega (arith, gam_earlier k j g)) r) (gam_local k j jn g)
