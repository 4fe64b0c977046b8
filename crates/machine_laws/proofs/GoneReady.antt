-- An operand that is computed as ready with a value is ready with it.
use Rattle.std.proofs.Common.{◌≡◌, ℕ, ◌<◌, Bool, true, false, cond, length, Some, None, Option, sym, refl, ◌∙◌, arith}
use Rattle.search.specs.Search.{nearest, passes, Nearest}
use Rattle.search.proofs.Searches.{nearest_some, nearest_none, passes_at}
use Rattle.rules.specs.declared.entry.Entry.{Entry}
use Rattle.rules.specs.Entries.{blank}
use Rattle.rules.specs.Ready.{writes_register, writer, written_by, ready}
use Rattle.machine.specs.State.{State}
use Rattle.machine.specs.Fires.{buffer, entry, Ready, absent, unwritten, from_writer}

module _ (s : State) (p i : ℕ) (l : i < length (buffer s p)) where
  -- A place below i passes a test as its entry does.
  pub as_entry : (f : Entry → Bool) (b : Bool) (j : ℕ) → j < i → passes f (buffer s p) j ≡ b → f (entry s p j) ≡ b
  as_entry f b j h e = sym (passes_at f (buffer s p) j blank (omega arith)) ∙ e

  -- Where no writer is found, nothing older writes the register.
  none_writes : (r x : ℕ) → nearest (passes (writes_register r) (buffer s p)) i ≡ None → 0 ≡ x → Ready s p i (Some r) x
  none_writes r x w z =
      let u : Ready s p i (Some r) 0 = unwritten r (λ j h. as_entry (writes_register r) false j h (nearest_none (passes (writes_register r) (buffer s p)) i w j h)) in
      rw z at u

  -- Where a writer is found and done, the value is its.
  one_writes : (r x j : ℕ) → Nearest (passes (writes_register r) (buffer s p)) i j → (entry s p j).done ≡ true → (entry s p j).value ≡ x → Ready s p i (Some r) x
  one_writes r x j n d z =
      let u : Ready s p i (Some r) (entry s p j).value =
      from_writer r j n.below (as_entry (writes_register r) true j n.below n.hit)
      (λ k a b. as_entry (writes_register r) false k b (n.between k a b)) d in
      rw z at u

  -- What is computed as ready is ready.
  pub ready_means : (o : Option ℕ) (x : ℕ) → ready (buffer s p) i o ≡ Some x → Ready s p i o x
  ready_means None x e =
      let z : 0 ≡ x = cc in
      let u : Ready s p i None 0 = absent in
      rw z at u
  ready_means (Some r) x e = go (writer (buffer s p) r i) refl e
    where
      if_done : (j : ℕ) → Nearest (passes (writes_register r) (buffer s p)) i j → (b : Bool) → (entry s p j).done ≡ b →
          cond b (Some (entry s p j).value) None ≡ Some x → Ready s p i (Some r) x
      if_done j n true d f = one_writes r x j n d (let z : (entry s p j).value ≡ x = cc in z)
      if_done j n false d f = let z : ◌≡◌ {A = ℕ} 0 1 = cc in absurd (omega arith)

      go : (w : Option ℕ) → writer (buffer s p) r i ≡ w → written_by (buffer s p) w ≡ Some x → Ready s p i (Some r) x
      go None w f = none_writes r x w (let z : 0 ≡ x = cc in z)
      go (Some j) w f = if_done j (nearest_some (passes (writes_register r) (buffer s p)) i j w) (entry s p j).done refl f
