-- Rules 2, 3, 4, 6 and 7: a step that goes fires its rule.
use Rattle.std.proofs.Common.{◌≡◌, ℕ, ◌+◌, ◌-◌, ◌<◌, Bool, true, false, cond, eqb, length, Some, None, refl}
use Rattle.std.proofs.lemmas.Bool.{eqb-true, eqb-false}
use Rattle.instructions.specs.Effects.{next_place}
use Rattle.instructions.specs.Kinds.{first_operand, second_operand}
use Rattle.question.specs.Litmus.{Litmus}
use Rattle.rules.specs.Entries.{turned}
use Rattle.rules.specs.declared.change.Change.{Change}
use Rattle.rules.specs.declared.change.Effect.TheVariants.{Local}
use Rattle.rules.specs.declared.rule.Rule.TheVariants as rule
use Rattle.machine.specs.State.{State}
use Rattle.machine.specs.Steps.{went}
use Rattle.machine.specs.Steps as steps
use Rattle.machine.specs.Fires.{buffer, entry, instruction, Ready, Fires, step}
use Rattle.machine_laws.proofs.GoneActs.{Acted, fires_as_gone, value_there, none_in_the_way}
use Rattle.machine_laws.proofs.GoneReady.{ready_means}
use Rattle.machine_laws.proofs.GoneTests.{fence_free, store_free}

module _ (q : Litmus) (s : State) (p i g n : ℕ) (t : State) (here : p < length s.cores) where
  -- Rule 2.
  pub gone_arithmetic : Acted s rule.Arithmetic p i g n t → Fires q s (step 2 p i 0) n t
  gone_arithmetic a =
      let u = value_there s p i n t _ _ a.acted in
      let v = value_there s p i n t _ _ u.2 in
      fires_as_gone q s (step 2 p i 0) 0 n t _ (Fires.arithmetic p i u.0 v.0 (here, a.within) a.suited a.not_made
      (ready_means s p i a.within (first_operand (instruction s p i)) u.0 u.1)
      (ready_means s p i a.within (second_operand (instruction s p i)) v.0 v.1)) v.2

  -- The true next place of the branch at i, if the value of its operand is x.
  abbrev next_of : ℕ → ℕ
  next_of x = next_place (instruction s p i) (entry s p i).place x

  -- The branch done; b says that the guess was right.
  abbrev turning : ℕ → Bool → Change
  turning x b = record { entry = turned (entry s p i) (next_of x); cut = cond b None (Some (record { keep = i + 1; counter = next_of x })); effect = Local }

  -- Rule 3, by the guess.
  by_guess : Acted s rule.Branch p i g n t → (x : ℕ) → Ready s p i (first_operand (instruction s p i)) x →
      (b : Bool) → eqb (entry s p i).next (next_of x) ≡ b → steps.made s p i (turning x b) ≡ went n t → Fires q s (step 3 p i 0) n t
  by_guess a x r true e h =
      fires_as_gone q s (step 3 p i 0) 0 n t _
      (Fires.branch_as_guessed p i x (here, a.within) a.suited a.not_made r (eqb-true (entry s p i).next (next_of x) e)) h
  by_guess a x r false e h =
      fires_as_gone q s (step 3 p i 0) (length (buffer s p) - (i + 1)) n t _
      (Fires.branch_otherwise p i x (here, a.within) a.suited a.not_made r (eqb-false (entry s p i).next (next_of x) e)) h

  -- Rule 3.
  pub gone_branch : Acted s rule.Branch p i g n t → Fires q s (step 3 p i 0) n t
  gone_branch a =
      let u = value_there s p i n t _ _ a.acted in
      by_guess a u.0 (ready_means s p i a.within (first_operand (instruction s p i)) u.0 u.1) (eqb (entry s p i).next (next_of u.0)) refl u.2

  -- Rule 4.
  pub gone_fence : Acted s rule.Fence p i g n t → Fires q s (step 4 p i 0) n t
  gone_fence a =
      let u = none_in_the_way s p i n t _ _ a.acted in
      fires_as_gone q s (step 4 p i 0) 0 n t _
      (Fires.fence p i (here, a.within) a.suited a.not_made (fence_free s p i a.within (instruction s p i) u.0)) u.1

  -- Rule 6.
  pub gone_store_data : Acted s rule.StoreData p i g n t → Fires q s (step 6 p i 0) n t
  gone_store_data a =
      let u = value_there s p i n t _ _ a.acted in
      fires_as_gone q s (step 6 p i 0) 0 n t _
      (Fires.store_data p i u.0 (here, a.within) a.suited a.not_made
      (ready_means s p i a.within (second_operand (instruction s p i)) u.0 u.1)) u.2

  -- Rule 7.
  pub gone_store : Acted s rule.Store p i g n t → Fires q s (step 7 p i 0) n t
  gone_store a =
      let u = value_there s p i n t _ _ a.acted in
      let v = value_there s p i n t _ _ u.2 in
      let w = none_in_the_way s p i n t _ _ v.2 in
      let f = store_free s p i a.within u.0 w.0 in
      fires_as_gone q s (step 7 p i 0) 0 n t _
      (Fires.store p i u.0 v.0 (here, a.within) a.suited a.not_made u.1 v.1
      (λ j h. (f j h).turned) (λ j h. (f j h).addressed) (λ j h. (f j h).cell_free) (λ j h. (f j h).fence_done)) w.1
