-- Rule 8: a step that makes an address available and fires is accepted, with the state that the rule says.
use Rattle.std.proofs.Common.{◌≡◌, ℕ, ◌+◌, ◌-◌, ◌<◌, true, false, length, is_some, Some, None, Option, sym, refl, ◌∙◌, arith}
use Rattle.std.proofs.lemmas.Bool.{and_parts, and_from, both_ways}
use Rattle.instructions.specs.Effects.{address_sum}
use Rattle.instructions.specs.Kinds.{loads, access, first_operand}
use Rattle.question.specs.Litmus.{Litmus}
use Rattle.rules.specs.Changes.{only, address_cut}
use Rattle.rules.specs.Entries.{addressed}
use Rattle.rules.specs.Tests.{same_cell, to_cell}
use Rattle.rules.specs.declared.change.Effect.TheVariants.{Local}
use Rattle.rules.specs.declared.rule.Rule.TheVariants as rule
use Rattle.search.specs.Search.{first, passes, First, Met}
use Rattle.search.proofs.Searches.{first_found}
use Rattle.machine.specs.State.{State}
use Rattle.machine.specs.Steps.{changed, step_outcome, went}
use Rattle.machine.specs.Fires.{buffer, entry, instruction, Stands, Ready, FirstYounger, step}
use Rattle.machine_laws.proofs.FiresSteps.{stepped}
use Rattle.machine_laws.proofs.GuardTests.{not_both}
use Rattle.machine_laws.proofs.OlderEntries.{entry_passes, first_younger}
use Rattle.machine_laws.proofs.ReadyValues.{ready_is}

module _ (s : State) (p i a : ℕ) where
  -- The search for the first younger access to the cell.
  abbrev met : Option ℕ
  met = first (passes (to_cell a) (buffer s p)) (i + 1) (length (buffer s p) - (i + 1))

  -- The first younger access to the cell is what the search finds.
  first_younger_met : (m : ℕ) → FirstYounger s p i a m → met ≡ Some m
  first_younger_met m f =
      first_younger (to_cell a) (buffer s p) i m f.younger f.within
      (and_from (access (instruction s p m)) (same_cell a (entry s p m).address) f.accesses f.same)
      (λ k b c. not_both (access (instruction s p k)) (same_cell a (entry s p k).address) (f.none_between k b c))

  -- What the search finds is the first younger access to the cell.
  met_first_younger : (m : ℕ) → First (passes (to_cell a) (buffer s p)) (i + 1) (length (buffer s p) - (i + 1)) m → FirstYounger s p i a m
  met_first_younger m f =
      let l : m < length (buffer s p) = omega (arith, f.from, f.within) in
      let (x, y) = and_parts (access (instruction s p m)) (same_cell a (entry s p m).address) (sym (entry_passes (to_cell a) (buffer s p) m l) ∙ f.hit) in
      record {
        younger = omega (arith, f.from);
        within = l;
        accesses = x;
        same = y;
        none_between = λ k b c u v. both_ways (to_cell a (entry s p k))
            (sym (entry_passes (to_cell a) (buffer s p) k (omega arith)) ∙ f.between k (omega arith) c)
            (and_from (access (instruction s p k)) (same_cell a (entry s p k).address) u v);
      }

  -- Nothing goes where the first younger access to the cell is not a done load.
  nothing_cut : ((m : ℕ) → FirstYounger s p i a m → loads (instruction s p m) ≡ true → (entry s p m).done ≡ true → ⊥) →
      address_cut (buffer s p) i met ≡ None
  nothing_cut h = go (first_found (passes (to_cell a) (buffer s p)) (i + 1) (length (buffer s p) - (i + 1)))
    where
      go : {o : Option ℕ} → Met (passes (to_cell a) (buffer s p)) (i + 1) (length (buffer s p) - (i + 1)) o → address_cut (buffer s p) i o ≡ None
      go (Met.nothing _) = refl
      go (Met.found m f) = rw (not_both (loads (instruction s p m)) (entry s p m).done (h m (met_first_younger m f))) refl

module _ (q : Litmus) (s : State) (p i x : ℕ) (stands : Stands s p i) (kind : access (instruction s p i) ≡ true)
    (no_address : is_some (entry s p i).address ≡ false) (ready : Ready s p i (first_operand (instruction s p i)) x) where
  -- Nothing goes.
  pub address_goes : ((m : ℕ) → FirstYounger s p i (address_sum (instruction s p i) x) m → loads (instruction s p m) ≡ true → (entry s p m).done ≡ true → ⊥) →
      step_outcome q s (step 8 p i 0) ≡ went 0 (changed s p i (only (addressed (entry s p i) (address_sum (instruction s p i) x))))
  address_goes h =
      stepped q s 8 rule.Address p i refl stands kind no_address
      ∙ rw (ready_is s p i (omega arith) ready, nothing_cut s p i (address_sum (instruction s p i) x) h) refl

  -- The first younger access to the cell is a done load: it and all younger entries go.
  pub address_removes_goes : (m : ℕ) → FirstYounger s p i (address_sum (instruction s p i) x) m → loads (instruction s p m) ≡ true → (entry s p m).done ≡ true →
      step_outcome q s (step 8 p i 0) ≡ went (length (buffer s p) - m) (changed s p i (record {
        entry = addressed (entry s p i) (address_sum (instruction s p i) x);
        cut = Some (record { keep = m; counter = (entry s p m).place });
        effect = Local;
      }))
  address_removes_goes m f l d =
      stepped q s 8 rule.Address p i refl stands kind no_address
      ∙ rw (ready_is s p i (omega arith) ready, first_younger_met s p i (address_sum (instruction s p i) x) m f, l, d) refl
