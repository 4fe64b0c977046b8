-- The causes of refusal by their numbers: what each says of a step whose rule is known.
use Rattle.std.proofs.Common.{◌≡◌, ℕ, ◌<◌, true, false, ◌⊎◌, length, is_some, Some, None, refl, ◌∙◌, inl, inr, arith}
use Rattle.instructions.specs.declared.instruction.AccessType.{AccessType}
use Rattle.instructions.specs.declared.instruction.AccessType.TheVariants as access_type
use Rattle.instructions.specs.Kinds.{stores, access, branches, of_type, fence_from, fence_to, first_operand, second_operand}
use Rattle.question.specs.Litmus.{Litmus}
use Rattle.rules.specs.declared.rule.Rule.{Rule}
use Rattle.rules.specs.declared.rule.Rule.TheVariants as rule
use Rattle.machine.specs.declared.step.Step.{Step}
use Rattle.machine.specs.State.{State}
use Rattle.machine.specs.Fires.{entry, instruction, OpenTo, NearestOpen}
use Rattle.machine_laws.specs.Causes.{By, Cause, NotReady, SomeOlder}

module _ (s : State) (p i : ℕ) where
  -- What the rule wants of the entry at i and is not there.
  abbrev pub Wants : Rule → Type 0
  Wants rule.Fetch = ⊥
  Wants rule.Arithmetic = NotReady s p i first_operand ⊎ NotReady s p i second_operand
  Wants rule.Branch = NotReady s p i first_operand
  Wants rule.Fence = ⊥
  Wants rule.Load = (entry s p i).address ≡ None
  Wants rule.StoreData = NotReady s p i second_operand
  Wants rule.Store = ((entry s p i).address ≡ None) ⊎ ((entry s p i).datum ≡ None)
  Wants rule.Address = NotReady s p i first_operand

  -- An older access of the fence's first type is not done.
  abbrev pub FenceHeld : Type 0
  FenceHeld = (t : AccessType) × (fence_from t (instruction s p i) ≡ true) × SomeOlder s p i (λ e. (of_type t e.instruction ≡ true) × (e.done ≡ false))

  -- The nearest older access to the load's cell that is not done gives no data.
  abbrev pub AccessHolds : Type 0
  AccessHolds = (a : ℕ) × (j : ℕ) × ((entry s p i).address ≡ Some a) × NearestOpen s p i a j × ((stores (instruction s p j) ≡ false) ⊎ ((entry s p j).datum ≡ None))

  -- An older fence that accesses of the type come after is not done.
  abbrev pub FenceHolds : AccessType → Type 0
  FenceHolds t = SomeOlder s p i (λ e. (fence_to t e.instruction ≡ true) × (e.done ≡ false))

  -- What holds a store back, in the order of the causes.
  pub data StoreHeld : Type 0 where
    branch_holds : SomeOlder s p i (λ e. (branches e.instruction ≡ true) × (e.done ≡ false)) → StoreHeld
    unknown_holds : SomeOlder s p i (λ e. (access e.instruction ≡ true) × (is_some e.address ≡ false)) → StoreHeld
    cell_holds : (a : ℕ) → (entry s p i).address ≡ Some a → SomeOlder s p i (OpenTo a) → StoreHeld
    fence_holds : FenceHolds access_type.Store → StoreHeld

  -- What holds the rule's step back.
  abbrev pub Held : Rule → Type 0
  Held rule.Fetch = ⊥
  Held rule.Arithmetic = ⊥
  Held rule.Branch = ⊥
  Held rule.Fence = FenceHeld
  Held rule.Load = FenceHolds access_type.Load ⊎ AccessHolds
  Held rule.StoreData = ⊥
  Held rule.Store = StoreHeld
  Held rule.Address = ⊥

module _ (q : Litmus) (s : State) (st : Step) where
  -- The processor and the position of the step.
  abbrev p : ℕ
  p = st.processor

  abbrev i : ℕ
  i = st.position

  -- A step has one rule.
  pub one_rule : (r u : Rule) → By q s st r → By q s st u → r ≡ u
  one_rule r u b c = let z : r ≡ u = cc in z

  -- With a rule and a processor, neither is absent.
  pub present : (r : Rule) → By q s st r → p < length s.cores → Cause q s st 7 → ⊥
  present r b l (Cause.no_rule e) = let z : ◌≡◌ {A = ℕ} 0 1 = cc in absurd (omega arith)
  present r b l (Cause.no_processor h) = absurd (omega arith)

  module _ (r : Rule) (b : By q s st r) where
    -- What is known of the step's rule is known of the rule that a cause names.
    moved : (P : Rule → Type 0) (u : Rule) → By q s st u → P u → P r
    moved P u c x = let z : u ≡ r = one_rule u r c b in rw z at x

    -- A cause of number 13 says what is wanting.
    pub wanting : Cause q s st 13 → Wants s p i r
    wanting (Cause.first_operand_wanting u c (inl (inl e)) n) = moved (Wants s p i) rule.Arithmetic (c ∙ rw e refl) (inl n)
    wanting (Cause.first_operand_wanting u c (inl (inr e)) n) = moved (Wants s p i) rule.Branch (c ∙ rw e refl) n
    wanting (Cause.first_operand_wanting u c (inr e) n) = moved (Wants s p i) rule.Address (c ∙ rw e refl) n
    wanting (Cause.second_operand_wanting u c (inl e) n) = moved (Wants s p i) rule.Arithmetic (c ∙ rw e refl) (inr n)
    wanting (Cause.second_operand_wanting u c (inr e) n) = moved (Wants s p i) rule.StoreData (c ∙ rw e refl) n
    wanting (Cause.address_wanting u c (inl e) n) = moved (Wants s p i) rule.Load (c ∙ rw e refl) n
    wanting (Cause.address_wanting u c (inr e) n) = moved (Wants s p i) rule.Store (c ∙ rw e refl) (inl n)
    wanting (Cause.data_wanting c n) = moved (Wants s p i) rule.Store c (inr n)

    -- A cause of number 14 says what holds the step back.
    pub holding : Cause q s st 14 → Held s p i r
    holding (Cause.fence_held_back c t f o) = moved (Held s p i) rule.Fence c (t, f, o)
    holding (Cause.load_behind_a_fence c o) = moved (Held s p i) rule.Load c (inl o)
    holding (Cause.load_behind_an_access c a j h n d) = moved (Held s p i) rule.Load c (inr (a, j, h, n, d))
    holding (Cause.store_behind_a_branch c o) = moved (Held s p i) rule.Store c (branch_holds o)
    holding (Cause.store_behind_an_unknown_address c o) = moved (Held s p i) rule.Store c (unknown_holds o)
    holding (Cause.store_behind_the_same_cell c a h o) = moved (Held s p i) rule.Store c (cell_holds a h o)
    holding (Cause.store_behind_a_fence c o) = moved (Held s p i) rule.Store c (fence_holds o)

  -- What is wanting is a cause of number 13.
  pub wants_cause : (r : Rule) → By q s st r → Wants s p i r → Cause q s st 13
  wants_cause rule.Fetch b w = absurd w
  wants_cause rule.Arithmetic b (inl n) = Cause.first_operand_wanting rule.Arithmetic b (inl (inl refl)) n
  wants_cause rule.Arithmetic b (inr n) = Cause.second_operand_wanting rule.Arithmetic b (inl refl) n
  wants_cause rule.Branch b n = Cause.first_operand_wanting rule.Branch b (inl (inr refl)) n
  wants_cause rule.Fence b w = absurd w
  wants_cause rule.Load b n = Cause.address_wanting rule.Load b (inl refl) n
  wants_cause rule.StoreData b n = Cause.second_operand_wanting rule.StoreData b (inr refl) n
  wants_cause rule.Store b (inl n) = Cause.address_wanting rule.Store b (inr refl) n
  wants_cause rule.Store b (inr n) = Cause.data_wanting b n
  wants_cause rule.Address b n = Cause.first_operand_wanting rule.Address b (inr refl) n

  -- What holds a store back is a cause of number 14.
  store_cause : By q s st rule.Store → StoreHeld s p i → Cause q s st 14
  store_cause b (branch_holds o) = Cause.store_behind_a_branch b o
  store_cause b (unknown_holds o) = Cause.store_behind_an_unknown_address b o
  store_cause b (cell_holds a h o) = Cause.store_behind_the_same_cell b a h o
  store_cause b (fence_holds o) = Cause.store_behind_a_fence b o

  -- What holds a step back is a cause of number 14.
  pub held_cause : (r : Rule) → By q s st r → Held s p i r → Cause q s st 14
  held_cause rule.Fetch b h = absurd h
  held_cause rule.Arithmetic b h = absurd h
  held_cause rule.Branch b h = absurd h
  held_cause rule.Fence b (t, f, o) = Cause.fence_held_back b t f o
  held_cause rule.Load b (inl o) = Cause.load_behind_a_fence b o
  held_cause rule.Load b (inr (a, j, h, n, d)) = Cause.load_behind_an_access b a j h n d
  held_cause rule.StoreData b h = absurd h
  held_cause rule.Store b h = store_cause b h
  held_cause rule.Address b h = absurd h

  -- Where every number below m is without a cause, there is none below m.
  pub none_below : (m : ℕ) → (7 < m → Cause q s st 7 → ⊥) → (8 < m → Cause q s st 8 → ⊥) → (9 < m → Cause q s st 9 → ⊥) → (10 < m → Cause q s st 10 → ⊥) →
      (11 < m → Cause q s st 11 → ⊥) → (12 < m → Cause q s st 12 → ⊥) → (13 < m → Cause q s st 13 → ⊥) → (14 < m → Cause q s st 14 → ⊥) →
      (k : ℕ) → k < m → Cause q s st k → ⊥
  none_below m n7 n8 n9 n10 n11 n12 n13 n14 k l c = go k c l
    where
      go : (k : ℕ) → Cause q s st k → k < m → ⊥
      go _ (Cause.no_rule e) h = n7 h (Cause.no_rule e)
      go _ (Cause.no_processor e) h = n7 h (Cause.no_processor e)
      go _ (Cause.fetch_at_the_end b e) h = n8 h (Cause.fetch_at_the_end b e)
      go _ (Cause.buffer_full b e) h = n9 h (Cause.buffer_full b e)
      go _ (Cause.fetch_with_a_position b e) h = n10 h (Cause.fetch_with_a_position b e)
      go _ (Cause.fetch_with_another_guess b e) h = n10 h (Cause.fetch_with_another_guess b e)
      go _ (Cause.guess_off_a_branch b e f) h = n10 h (Cause.guess_off_a_branch b e f)
      go _ (Cause.no_entry r b n e) h = n10 h (Cause.no_entry r b n e)
      go _ (Cause.guess_off_a_fetch r b n e) h = n10 h (Cause.guess_off_a_fetch r b n e)
      go _ (Cause.another_kind r b n e) h = n11 h (Cause.another_kind r b n e)
      go _ (Cause.already_made r b n e) h = n12 h (Cause.already_made r b n e)
      go _ (Cause.first_operand_wanting r b n e) h = n13 h (Cause.first_operand_wanting r b n e)
      go _ (Cause.second_operand_wanting r b n e) h = n13 h (Cause.second_operand_wanting r b n e)
      go _ (Cause.address_wanting r b n e) h = n13 h (Cause.address_wanting r b n e)
      go _ (Cause.data_wanting b e) h = n13 h (Cause.data_wanting b e)
      go _ (Cause.fence_held_back b t f o) h = n14 h (Cause.fence_held_back b t f o)
      go _ (Cause.load_behind_a_fence b o) h = n14 h (Cause.load_behind_a_fence b o)
      go _ (Cause.load_behind_an_access b a j e n d) h = n14 h (Cause.load_behind_an_access b a j e n d)
      go _ (Cause.store_behind_a_branch b o) h = n14 h (Cause.store_behind_a_branch b o)
      go _ (Cause.store_behind_an_unknown_address b o) h = n14 h (Cause.store_behind_an_unknown_address b o)
      go _ (Cause.store_behind_the_same_cell b a e o) h = n14 h (Cause.store_behind_the_same_cell b a e o)
      go _ (Cause.store_behind_a_fence b o) h = n14 h (Cause.store_behind_a_fence b o)
