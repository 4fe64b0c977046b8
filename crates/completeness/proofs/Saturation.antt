-- Where no local step is acceptable, an event whose kept earlier accesses are all done is done, or has its address and data.
use Rattle.std.proofs.Common.{◌≡◌, ℕ, ◌<◌, Bool, true, false, length, is_some, Some, None, Option, sym, refl, ap, ◌∙◌, inl, inr, arith}
use Rattle.std.proofs.lemmas.Bool.{cases_Bool}
use Rattle.instructions.specs.Kinds.{stores, access, computes, branches, fences, of_type, fence_from, first_operand, second_operand, writes}
use Rattle.instructions.specs.declared.instruction.AccessType.{AccessType}
use Rattle.question.specs.Litmus.{Litmus}
use Rattle.search.specs.Search.{Sought}
use Rattle.search.proofs.Searches.{nearest_found}
use Rattle.witness.specs.Execution.{Execution}
use Rattle.events.specs.Sources.{path_at, events}
use Rattle.ordering.specs.Closure.{Closure}
use Rattle.ordering.specs.Closure.Closure.{one, then}
use Rattle.ordering.specs.Constraints as constraints
use Rattle.ordering.specs.Rules.{gam, instruction_of, cell_of}
use Rattle.checker.specs.Terms as terms
use Rattle.machine.specs.declared.step.Step.{Step}
use Rattle.machine.specs.Fires.{entry, instruction, Ready, Fires}
use Rattle.machine.specs.State.{State}
use Rattle.machine_laws.proofs.FiresGo.{fires_go}
use Rattle.reachable.proofs.Exclusive.{load_accesses}
use Rattle.completeness.specs.Rebuilds.{Local, Acceptable}
use Rattle.completeness.proofs.KindFacts.{writer_kind, type_accesses}
use Rattle.completeness.proofs.Related.{Related}
use Rattle.completeness.proofs.Values.{strong, same_instruction, stands, next_place_is}
use Rattle.completeness.proofs.Rule8.{meets_no_done_load}

-- No local step is acceptable.
abbrev pub Still : Litmus → State → Type 0
Still q s = (st : Step) → Local st → Acceptable q s st → ⊥

-- What is not wanting is there.
pub unless_wanting : (b : Bool) → (b ≡ false → ⊥) → b ≡ true
unless_wanting b h = elim (cases_Bool b) [ inl e ↦ e | inr e ↦ absurd (h e) ]

module _ (q : Litmus) (w : Execution) (t : ℕ) (s : State) (R : Related q w t s) (still : Still q s) where
  -- A local step that fires is acceptable.
  fires_not : {st : Step} {n : ℕ} {u : State} → Local st → Fires q s st n u → ⊥
  fires_not {st = st} {n = n} {u = u} local f = still st local (n, u, fires_go q s st n u f)

  module _ (p : ℕ) where
    -- The register that an operand names is written by the event at m, for the event at i.
    abbrev pub Feeds : Option ℕ → ℕ → ℕ → Type 0
    Feeds o m i = constraints.Feeds (instruction_of (events q w p)) (cell_of (events q w p)) o m i

    -- The pairs that are kept directly.
    abbrev pub Kept : ℕ → ℕ → Type 0
    Kept = gam (events q w p)

    -- Every access that is kept before the event at j is done.
    abbrev pub Cleared : ℕ → Type 0
    Cleared j = (i : ℕ) → Closure Kept i j → access (terms.instruction q w p i) ≡ true → (entry s p i).done ≡ true

    -- What local steps have made of the event at j.
    pub record Settled (j : ℕ) : Type 0 where
      pub computed : computes (terms.instruction q w p j) ≡ true → (entry s p j).done ≡ true
      pub branched : branches (terms.instruction q w p j) ≡ true → (entry s p j).done ≡ true
      pub fenced : fences (terms.instruction q w p j) ≡ true → (entry s p j).done ≡ true
      pub addressed : access (terms.instruction q w p j) ≡ true → is_some (entry s p j).address ≡ true
      pub supplied : stores (terms.instruction q w p j) ≡ true → is_some (entry s p j).datum ≡ true

    -- An operand whose feeder is done is ready.
    ready_if : (o : Option ℕ) (i : ℕ) → ((m : ℕ) → Feeds o m i → (entry s p m).done ≡ true) → (x : ℕ) × Ready s p i o x
    ready_if None i h = (0, Ready.absent)
    ready_if (Some r) i h = go (nearest_found (λ m. writes (terms.instruction q w p m) r) i)
      where
        to_entry : (m : ℕ) (b : Bool) → writes (terms.instruction q w p m) r ≡ b → writes (instruction s p m) r ≡ b
        to_entry m b e = ap (λ c. writes c r) (same_instruction q w t s R p m) ∙ e

        go : {found_one : Option ℕ} → Sought (λ m. writes (terms.instruction q w p m) r) i found_one → (x : ℕ) × Ready s p i (Some r) x
        go (Sought.nothing none) = (0, Ready.unwritten r (λ m b. to_entry m false (none m b)))
        go (Sought.found k n) =
            ((entry s p k).value, Ready.from_writer r k n.below (to_entry k true n.hit) (λ m u v. to_entry m false (n.between m u v)) (h k (record { register = r; reads = refl; writer = n })))

    -- What feeds an event, and is settled, is done.
    fed : (m j r : ℕ) → writes (terms.instruction q w p m) r ≡ true → Settled m → Kept m j → Cleared j → (entry s p m).done ≡ true
    fed m j r e x k clear = elim (writer_kind (terms.instruction q w p m) r e) [
      | inl c ↦ x.computed c
      | inr ld ↦ clear m (one k) (load_accesses (terms.instruction q w p m) ld)
    ]

    -- What is kept before a cleared event is cleared.
    pub cleared_before : (m j : ℕ) → Kept m j → Cleared j → Cleared m
    cleared_before m j k clear i c a = clear i (then c k) a

    -- An operand of the event at i is ready, if its feeders are kept before a cleared event and what is cleared below i is settled.
    ready_kept : (o : Option ℕ) (i j : ℕ) → ((m : ℕ) → m < i → Cleared m → Settled m) → ((m : ℕ) → Feeds o m i → Kept m j) → Cleared j → (x : ℕ) × Ready s p i o x
    ready_kept o i j all kept clear =
        ready_if o i (λ m f. fed m j f.register f.writer.hit (all m f.writer.below (cleared_before m j (kept m f) clear)) (kept m f) clear)

    module _ (j : ℕ) (l : j < length (path_at w p)) where
      same : instruction s p j ≡ terms.instruction q w p j
      same = same_instruction q w t s R p j

      -- A ready computation is done.
      computation : computes (terms.instruction q w p j) ≡ true → (x : ℕ) × Ready s p j (first_operand (instruction s p j)) x → (y : ℕ) × Ready s p j (second_operand (instruction s p j)) y → (entry s p j).done ≡ true
      computation k (x, u) (y, v) = unless_wanting (entry s p j).done (λ d. fires_not (Local.arithmetic p j) (Fires.arithmetic p j x y (stands q w t s R p j l) (ap computes same ∙ k) d u v))

      -- A ready branch is done: its guess is right.
      branch : branches (terms.instruction q w p j) ≡ true → (x : ℕ) × Ready s p j (first_operand (instruction s p j)) x → (entry s p j).done ≡ true
      branch k (x, u) = unless_wanting (entry s p j).done (λ d. fires_not (Local.branch p j)
          (Fires.branch_as_guessed p j x (stands q w t s R p j l) (ap branches same ∙ k) d u (R.nexts p j l ∙ sym (next_place_is q w t s R p j l x u))))

      -- A fence whose older accesses of its first type are done is done.
      fence : fences (terms.instruction q w p j) ≡ true → ((a : AccessType) → fence_from a (terms.instruction q w p j) ≡ true → (i : ℕ) → i < j → of_type a (terms.instruction q w p i) ≡ true → (entry s p i).done ≡ true) →
          (entry s p j).done ≡ true
      fence k h = unless_wanting (entry s p j).done (λ d. fires_not (Local.fence p j) (Fires.fence p j (stands q w t s R p j l) (ap fences same ∙ k) d
          (λ a f i b z. h a (ap (fence_from a) (sym same) ∙ f) i b (ap (of_type a) (sym (same_instruction q w t s R p i)) ∙ z))))

      -- A store whose second operand is ready has its data.
      pub store_data : stores (terms.instruction q w p j) ≡ true → (y : ℕ) × Ready s p j (second_operand (instruction s p j)) y → is_some (entry s p j).datum ≡ true
      store_data k (y, u) = unless_wanting (is_some (entry s p j).datum) (λ d. fires_not (Local.store_data p j) (Fires.store_data p j y (stands q w t s R p j l) (ap stores same ∙ k) d u))

      -- An access whose first operand is ready has its address.
      pub address : access (terms.instruction q w p j) ≡ true → (x : ℕ) × Ready s p j (first_operand (instruction s p j)) x → is_some (entry s p j).address ≡ true
      address k (x, u) = unless_wanting (is_some (entry s p j).address) (λ d.
          let z : access (instruction s p j) ≡ true = ap access same ∙ k in
          fires_not (Local.address p j) (Fires.address p j x (stands q w t s R p j l) z d u (λ m f ld dn. meets_no_done_load q w t s R p j l z d x u m f ld dn)))

      settle : ((m : ℕ) → m < j → Cleared m → Settled m) → Cleared j → Settled j
      settle all clear =
          let first : (x : ℕ) × Ready s p j (first_operand (instruction s p j)) x =
          rw same (ready_kept (first_operand (terms.instruction q w p j)) j j all (λ m f. constraints.GAM.reg_raw (inl f)) clear) in
          let second : (y : ℕ) × Ready s p j (second_operand (instruction s p j)) y =
          rw same (ready_kept (second_operand (terms.instruction q w p j)) j j all (λ m f. constraints.GAM.reg_raw (inr f)) clear) in
          record {
            computed = λ k. computation k first second;
            branched = λ k. branch k first;
            fenced = λ k. fence k (λ a f i b z. clear i (one (constraints.GAM.fence_ord (constraints.FenceOrd.before_fence a b z f))) (type_accesses a (terms.instruction q w p i) z));
            addressed = λ k. address k first;
            supplied = λ k. store_data k second;
          }

    -- A cleared event is settled.
    pub settled : (j : ℕ) → j < length (path_at w p) → Cleared j → Settled j
    settled = strong (λ j. j < length (path_at w p) → Cleared j → Settled j) (λ j below l. settle j l (λ m b. below m b (omega arith)))

    -- An operand of the event at i is ready, if all that feeds it is kept before a cleared event.
    pub ready_by : (o : Option ℕ) (i j : ℕ) → i < length (path_at w p) → ((m : ℕ) → Feeds o m i → Kept m j) → Cleared j → (x : ℕ) × Ready s p i o x
    ready_by o i j l kept clear = ready_kept o i j (λ m b. settled m (omega arith)) kept clear
