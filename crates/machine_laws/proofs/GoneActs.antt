-- A step of rules 2 to 8 that goes passed its tests.
use Rattle.std.proofs.Common.{◌≡◌, ℕ, ◌<◌, Bool, true, false, cond, ◌&&◌, eqb, ltb, length, Some, None, Err, Option, Result, refl, arith}
use Rattle.std.proofs.lemmas.Bool.{and_parts, ltb-true, eqb-true}
use Rattle.fields.specs.declared.refusal.Refusal.{Refusal}
use Rattle.fields.specs.declared.refusal.Refusal.TheVariants.{PositionOrGuessNotAllowed, KindDoesNotSuitRule, StepAlreadyMade}
use Rattle.fields.specs.Rows.{then}
use Rattle.question.specs.Litmus.{Litmus}
use Rattle.rules.specs.Act.{action, making}
use Rattle.rules.specs.Changes.{wanted, unless_held}
use Rattle.rules.specs.Rules as rules
use Rattle.rules.specs.declared.change.Action.{Action}
use Rattle.rules.specs.declared.change.Change.{Change}
use Rattle.rules.specs.declared.rule.Rule.{Rule}
use Rattle.machine.specs.declared.step.Step.{Step}
use Rattle.machine.specs.State.{State}
use Rattle.machine.specs.Steps.{refused, went, done, act_outcome}
use Rattle.machine.specs.Fires.{buffer, entry, instruction, Fires}

-- A refused step does not go.
pub not_refused : {A : Type 0} (e : Refusal) (n : ℕ) (t : State) → refused e ≡ went n t → A
not_refused e n t h = let z : ◌≡◌ {A = ℕ} 0 1 = cc in absurd (omega arith)

-- What fires is what goes.
pub fires_as_gone : (q : Litmus) (s : State) (st : Step) (m n : ℕ) (t u : State) → Fires q s st m u → went m u ≡ went n t → Fires q s st n t
fires_as_gone q s st m n t u f h =
    let a : m ≡ n = cc in
    let b : u ≡ t = cc in
    rw (a, b) at f

-- A step of rules 2 to 8 that goes: there is an entry and no guess, the rule suits it and was not made, and its action goes.
pub record Acted (s : State) (r : Rule) (p i g n : ℕ) (t : State) : Type 0 where
  pub within : i < length (buffer s p)
  pub no_guess : g ≡ 0
  pub suited : rules.suits r (instruction s p i) ≡ true
  pub not_made : rules.made r (entry s p i) ≡ false
  pub acted : done s p i (action r (buffer s p) p i) ≡ went n t

module _ (s : State) (p i n : ℕ) (t : State) where
  -- A step of rules 2 to 8 that goes passed its three tests.
  pub gone_acted : (r : Rule) (g : ℕ) → act_outcome s r p i g ≡ went n t → Acted s r p i g n t
  unfolding act_outcome
  gone_acted r g h = go (ltb i (length (buffer s p)) && eqb g 0) (rules.suits r (instruction s p i)) (rules.made r (entry s p i)) refl refl refl h
    where
      go : (a b c : Bool) → (ltb i (length (buffer s p)) && eqb g 0) ≡ a → rules.suits r (instruction s p i) ≡ b → rules.made r (entry s p i) ≡ c →
          done s p i (cond a (cond b (cond c (Err StepAlreadyMade) (action r (buffer s p) p i)) (Err KindDoesNotSuitRule)) (Err PositionOrGuessNotAllowed)) ≡ went n t → Acted s r p i g n t
      go false b c x y z k = not_refused PositionOrGuessNotAllowed n t k
      go true false c x y z k = not_refused KindDoesNotSuitRule n t k
      go true true true x y z k = not_refused StepAlreadyMade n t k
      go true true false x y z k =
          let u : (ltb i (length (buffer s p)) ≡ true) × (eqb g 0 ≡ true) = and_parts (ltb i (length (buffer s p))) (eqb g 0) x in
          record { within = ltb-true i (length (buffer s p)) u.0; no_guess = eqb-true g 0 u.1; suited = y; not_made = z; acted = k }

  -- A change that goes once a value is there: the value is there, and the change goes.
  pub value_there : (o : Option ℕ) (f : ℕ → Result Change Refusal) → done s p i (making (then (wanted o) f)) ≡ went n t →
      (x : ℕ) × (o ≡ Some x) × (done s p i (making (f x)) ≡ went n t)
  value_there None f h = not_refused _ n t h
  value_there (Some x) f h = (x, refl, h)

  -- The same of an action.
  pub value_there_to_act : (o : Option ℕ) (f : ℕ → Result Action Refusal) → done s p i (then (wanted o) f) ≡ went n t →
      (x : ℕ) × (o ≡ Some x) × (done s p i (f x) ≡ went n t)
  value_there_to_act None f h = not_refused _ n t h
  value_there_to_act (Some x) f h = (x, refl, h)

  -- A change that goes unless something is found: nothing is found, and the change goes.
  pub none_in_the_way : (o : Option ℕ) (r : Result Change Refusal) → done s p i (making (unless_held o r)) ≡ went n t →
      (o ≡ None) × (done s p i (making r) ≡ went n t)
  none_in_the_way None r h = (refl, h)
  none_in_the_way (Some j) r h = not_refused _ n t h

  -- The same of an action.
  pub none_in_the_way_to_act : (o : Option ℕ) (r : Result Action Refusal) → done s p i (unless_held o r) ≡ went n t →
      (o ≡ None) × (done s p i r ≡ went n t)
  none_in_the_way_to_act None r h = (refl, h)
  none_in_the_way_to_act (Some j) r h = not_refused _ n t h
