-- Rule 8: a step that goes fires the rule, with or without a removal.
use Rattle.std.proofs.Common.{◌≡◌, ℕ, ◌-◌, ◌<◌, Bool, true, false, cond, ◌&&◌, length, Some, None, Option, refl, ap, ◌∙◌, arith}
use Rattle.std.proofs.lemmas.Bool.{and_parts, and_from, both_ways}
use Rattle.instructions.specs.Effects.{address_sum}
use Rattle.instructions.specs.Kinds.{loads, first_operand}
use Rattle.question.specs.Litmus.{Litmus}
use Rattle.rules.specs.Changes.{address_cut}
use Rattle.rules.specs.Entries.{addressed}
use Rattle.rules.specs.declared.change.Change.{Change}
use Rattle.rules.specs.declared.change.Cut.{Cut}
use Rattle.rules.specs.declared.change.Effect.TheVariants.{Local}
use Rattle.rules.specs.declared.rule.Rule.TheVariants as rule
use Rattle.machine.specs.State.{State}
use Rattle.machine.specs.Steps.{went}
use Rattle.machine.specs.Steps as steps
use Rattle.machine.specs.Fires.{buffer, entry, instruction, Ready, FirstYounger, Fires, step}
use Rattle.machine_laws.proofs.GoneActs.{Acted, fires_as_gone, value_there}
use Rattle.machine_laws.proofs.GoneReady.{ready_means}
use Rattle.machine_laws.proofs.GoneTests.{first_younger, found_younger, younger_found}

module _ (q : Litmus) (s : State) (p i g n : ℕ) (t : State) (here : p < length s.cores) (act : Acted s rule.Address p i g n t) where
  -- The entry at m is a load and done.
  abbrev done_load : ℕ → Bool
  done_load m = loads (instruction s p m) && (entry s p m).done

  module _ (x : ℕ) (known : Ready s p i (first_operand (instruction s p i)) x) where
    -- The address of the access at i.
    abbrev sum : ℕ
    sum = address_sum (instruction s p i) x

    -- The address available, with what goes.
    abbrev addressing : Option Cut → Change
    addressing c = record { entry = addressed (entry s p i) sum; cut = c; effect = Local }

    -- Nothing goes.
    stays : ((m : ℕ) → FirstYounger s p i sum m → loads (instruction s p m) ≡ true → (entry s p m).done ≡ true → ⊥) →
        steps.made s p i (addressing None) ≡ went n t → Fires q s (step 8 p i 0) n t
    stays none h = fires_as_gone q s (step 8 p i 0) 0 n t _ (Fires.address p i x (here, act.within) act.suited act.not_made known none) h

    -- The first younger access to the cell was found: it goes if it is a done load.
    if_done_load : (m : ℕ) → first_younger s p i act.within sum ≡ Some m → (b : Bool) → done_load m ≡ b →
        steps.made s p i (addressing (cond b (Some (record { keep = m; counter = (entry s p m).place })) None)) ≡ went n t → Fires q s (step 8 p i 0) n t
    if_done_load m f true e h =
        let d : (loads (instruction s p m) ≡ true) × ((entry s p m).done ≡ true) = and_parts (loads (instruction s p m)) (entry s p m).done e in
        fires_as_gone q s (step 8 p i 0) (length (buffer s p) - m) n t _
        (Fires.address_removes p i x m (here, act.within) act.suited act.not_made known (found_younger s p i act.within sum m f) d.0 d.1) h
    if_done_load m f false e h = stays not_done h
      where
        not_done : (k : ℕ) → FirstYounger s p i sum k → loads (instruction s p k) ≡ true → (entry s p k).done ≡ true → ⊥
        not_done k y a b =
            let o : first_younger s p i act.within sum ≡ Some k = younger_found s p i act.within sum k y in
            let z : m ≡ k = cc in
            both_ways (done_load m) e (ap done_load z ∙ and_from (loads (instruction s p k)) (entry s p k).done a b)

    -- By what the search for the first younger access to the cell found.
    by_younger : (o : Option ℕ) → first_younger s p i act.within sum ≡ o → steps.made s p i (addressing (address_cut (buffer s p) i o)) ≡ went n t → Fires q s (step 8 p i 0) n t
    by_younger None e h = stays none h
      where
        none : (k : ℕ) → FirstYounger s p i sum k → loads (instruction s p k) ≡ true → (entry s p k).done ≡ true → ⊥
        none k y a b =
            let o : first_younger s p i act.within sum ≡ Some k = younger_found s p i act.within sum k y in
            let z : ◌≡◌ {A = ℕ} 0 1 = cc in
            omega arith
    by_younger (Some m) e h = if_done_load m e (done_load m) refl h

  -- Rule 8.
  pub gone_address : Fires q s (step 8 p i 0) n t
  gone_address =
      let u = value_there s p i n t _ _ act.acted in
      let known = ready_means s p i act.within (first_operand (instruction s p i)) u.0 u.1 in
      by_younger u.0 known (first_younger s p i act.within (address_sum (instruction s p i) u.0)) refl u.2
