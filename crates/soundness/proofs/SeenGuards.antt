-- The guards of the rules, read off a row that shows the buffer: ready operands, fences, cells.
use Rattle.std.proofs.Common.{◌≡◌, ℕ, suc, ◌%◌, ◌<◌, ◌≤◌, Bool, true, false, length, is_some, Some, None, Option, sym, refl, ap, ◌∙◌, subst, arith}
use Rattle.std.proofs.lemmas.Bool.{both_ways, eqb-true, eq-eqb}
use Rattle.instructions.specs.Kinds.{of_type, fence_from, fence_to, first_operand, second_operand, writes}
use Rattle.instructions.specs.declared.instruction.AccessType.{AccessType}
use Rattle.instructions.specs.declared.instruction.Instruction.{Instruction}
use Rattle.machine.specs.Fires.{buffer, entry, instruction, Older, Ready}
use Rattle.machine.specs.State.{State, core_at}
use Rattle.rules.specs.Tests.{same_cell}
use Rattle.search.specs.Search.{Nearest}
use Rattle.search.proofs.Searches.{nearest_is, nearest_is_none, nearest_only}
use Rattle.ordering.specs.Constraints.{FenceOrd}
use Rattle.soundness.proofs.KindFacts.{true_not_false}
use Rattle.soundness.proofs.Worlds.{Row, celled, value_at, operand}
use Rattle.soundness.proofs.Moves.{OperandReady, FencesDone, first_value, second_value}
use Rattle.soundness.proofs.Seen.{Shows, done_time}

-- The test of an address and the number of its cell.
pub same_celled : (a : ℕ) (o : Option ℕ) → same_cell a o ≡ true → celled o ≡ suc (a % 16)
unfolding celled
same_celled a None h = absurd (true_not_false (sym h))
same_celled a (Some b) h = let z : a % 16 ≡ b % 16 = eqb-true (a % 16) (b % 16) h in ap suc (sym z)

pub celled_same : (a : ℕ) (o : Option ℕ) → celled o ≡ suc (a % 16) → same_cell a o ≡ true
unfolding celled
celled_same a None h = absurd (omega arith)
celled_same a (Some b) h = let z : a % 16 ≡ b % 16 = omega arith in eq-eqb (a % 16) (b % 16) z

-- What is available, and what is not.
pub some_celled : (o : Option ℕ) → is_some o ≡ true → 0 < celled o
unfolding celled
some_celled None h = absurd (true_not_false (sym h))
some_celled (Some b) h = omega arith

pub none_there : (o : Option ℕ) → is_some o ≡ false → o ≡ None
none_there None h = refl
none_there (Some b) h = absurd (true_not_false h)

-- Two registers that are one.
same_register : (r m : ℕ) → ◌≡◌ {A = Option ℕ} (Some r) (Some m) → m ≡ r
same_register r m h = cc

no_register : (r : ℕ) → ◌≡◌ {A = Option ℕ} None (Some r) → ⊥
no_register r h = let z : ◌≡◌ {A = ℕ} 0 1 = cc in omega arith

module _ (s : State) (p : ℕ) (x : Row) (z : Shows (core_at s p) x) where
  -- Which entries write a register.
  pub writes_shown : (r k : ℕ) → k < length (buffer s p) → writes (x.instruction k) r ≡ writes (instruction s p k) r
  writes_shown r k l = ap (λ c. writes c r) (z.each k l).instruction

  -- The nearest writer, in the row.
  nearest_shown : (r i j : ℕ) → i ≤ length (buffer s p) → j < i → writes (instruction s p j) r ≡ true →
      ((k : ℕ) → j < k → k < i → writes (instruction s p k) r ≡ false) → Nearest (λ m. writes (x.instruction m) r) i j
  nearest_shown r i j l b h none = record {
    below = b;
    hit = writes_shown r j (omega arith) ∙ h;
    between = λ m c d. writes_shown r m (omega arith) ∙ none m c d;
  }

  -- What feeds a ready operand is done.
  pub ready_shown : (i : ℕ) → i ≤ length (buffer s p) → {o : Option ℕ} {v : ℕ} → Ready s p i o v → OperandReady x o i
  ready_shown i l Ready.absent j f = absurd (no_register f.register f.reads)
  ready_shown i l (Ready.unwritten r h) j f =
      let b : j < i = f.writer.below in
      let e : f.register ≡ r = same_register r f.register f.reads in
      absurd (both_ways (writes (instruction s p j) r) (h j b)
      (sym (writes_shown r j (omega arith)) ∙ ap (writes (x.instruction j)) (sym e) ∙ f.writer.hit))
  ready_shown i l (Ready.from_writer r m b h none d) j f =
      let e : f.register ≡ r = same_register r f.register f.reads in
      let near : Nearest (λ k. writes (x.instruction k) r) i j = subst (λ y. Nearest (λ k. writes (x.instruction k) y) i j) e f.writer in
      let same : j ≡ m = nearest_only (λ k. writes (x.instruction k) r) i j m near (nearest_shown r i m l b h none) in
      subst (λ k. 0 < x.time k) (sym same) (done_time (entry s p m) x m (z.each m (omega arith)) d)

  -- A ready operand has its value in the row.
  pub operand_shown : (i : ℕ) → i ≤ length (buffer s p) → {o : Option ℕ} {v : ℕ} → Ready s p i o v → operand x.instruction x.value o i ≡ v
  unfolding operand
  operand_shown i l Ready.absent = refl
  operand_shown i l (Ready.unwritten r h) =
      ap (value_at x.value) (nearest_is_none (λ j. writes (x.instruction j) r) i (λ m b. writes_shown r m (omega arith) ∙ h m b))
  operand_shown i l (Ready.from_writer r m b h none d) =
      ap (value_at x.value) (nearest_is (λ j. writes (x.instruction j) r) i m (nearest_shown r i m l b h none))
      ∙ (z.each m (omega arith)).value

  module _ (i : ℕ) (l : i < length (buffer s p)) where
    -- The operands of an entry.
    pub first_shown : {v : ℕ} → Ready s p i (first_operand (instruction s p i)) v → first_value x i ≡ v
    first_shown {v} u = ap (λ c. operand x.instruction x.value (first_operand c) i) (z.each i l).instruction ∙ operand_shown i (omega arith) u

    pub second_shown : {v : ℕ} → Ready s p i (second_operand (instruction s p i)) v → second_value x i ≡ v
    second_shown {v} u = ap (λ c. operand x.instruction x.value (second_operand c) i) (z.each i l).instruction ∙ operand_shown i (omega arith) u

    pub first_ready : {v : ℕ} → Ready s p i (first_operand (instruction s p i)) v → OperandReady x (first_operand (x.instruction i)) i
    first_ready {v} u = subst (λ c. OperandReady x (first_operand c) i) (sym (z.each i l).instruction) (ready_shown i (omega arith) u)

    pub second_ready : {v : ℕ} → Ready s p i (second_operand (instruction s p i)) v → OperandReady x (second_operand (x.instruction i)) i
    second_ready {v} u = subst (λ c. OperandReady x (second_operand c) i) (sym (z.each i l).instruction) (ready_shown i (omega arith) u)

    -- An operand that is absent is ready.
    pub absent_first : first_operand (instruction s p i) ≡ None → Ready s p i (first_operand (instruction s p i)) 0
    absent_first h = subst (λ o. Ready s p i o 0) (sym h) Ready.absent

    pub absent_second : second_operand (instruction s p i) ≡ None → Ready s p i (second_operand (instruction s p i)) 0
    absent_second h = subst (λ o. Ready s p i o 0) (sym h) Ready.absent

    -- Older entries of a kind that are done have their moment.
    pub older_shown : (kind : Instruction → Bool) → Older s p i (λ e. kind e.instruction ≡ true → e.done ≡ true) →
        (j : ℕ) → j < i → kind (x.instruction j) ≡ true → 0 < x.time j
    older_shown kind h j b k =
        let m : j < length (buffer s p) = omega arith in
        done_time (entry s p j) x j (z.each j m) (h j b (ap kind (sym (z.each j m).instruction) ∙ k))

    -- What FenceOrd keeps before the entry is done.
    pub fences_shown : ((X : AccessType) → fence_from X (instruction s p i) ≡ true → Older s p i (λ e. of_type X e.instruction ≡ true → e.done ≡ true)) →
        ((Y : AccessType) → of_type Y (instruction s p i) ≡ true → Older s p i (λ e. fence_to Y e.instruction ≡ true → e.done ≡ true)) → FencesDone x i
    fences_shown from to j (FenceOrd.before_fence X b k f) = older_shown (of_type X) (from X (ap (fence_from X) (sym (z.each i l).instruction) ∙ f)) j b k
    fences_shown from to j (FenceOrd.after_fence Y b k f) = older_shown (fence_to Y) (to Y (ap (of_type Y) (sym (z.each i l).instruction) ∙ f)) j b k
