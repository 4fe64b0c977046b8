-- The answer to a step of rule 5 says which rule carries out an access.
use Rattle.std.proofs.Common.{◌≡◌, ℕ, ◌≤◌, Bool, true, false, cond, ◌&&◌, eqb, ltb, List, [], ◌∷◌, length, Some, None, Err, Option, sym, refl, ap, ◌∙◌, ltb-false}
use Rattle.std.proofs.lemmas.List.{get_or_past}
use Rattle.fields.specs.declared.refusal.Refusal.TheVariants.{RuleOrProcessorAbsent, PositionOrGuessNotAllowed, KindDoesNotSuitRule, StepAlreadyMade}
use Rattle.fields.specs.Rows.{then}
use Rattle.instructions.specs.Kinds.{loads, stores}
use Rattle.question.specs.Litmus.{Litmus}
use Rattle.rules.specs.Changes as changes
use Rattle.rules.specs.Changes.{wanted, unless_held, forwarded, taken_from}
use Rattle.rules.specs.Entries.{at, blank}
use Rattle.rules.specs.Tests.{open_fence_to_load, open_to_cell}
use Rattle.rules.specs.declared.entry.Entry.{Entry}
use Rattle.rules.specs.declared.rule.Rule.TheVariants as rule
use Rattle.search.specs.Search.{nearest, passes}
use Rattle.machine.specs.Fires.{step, instruction, buffer}
use Rattle.machine.specs.declared.step.Step.{Step}
use Rattle.machine.specs.State.{State, core_at, empty_core}
use Rattle.machine.specs.Steps.{Outcome, refused, went, answer, after, done, act_outcome, step_outcome}
use Rattle.witness.specs.declared.record.Access.{Access}
use Rattle.rebuilder.specs.Progress.{Progress, runs, accessed}
use Rattle.rebuilder.specs.Views.{says_loads}
use Rattle.rebuilder.proofs.GoesOn.{same_progress}

-- A load that gets past the test of the kind says that it loads.
module _ (s : State) (es : List Entry) (i p : ℕ) where
  forwarded_says : (d : Option ℕ) (b : Bool) (j : ℕ) → says_loads (answer (done s p i (forwarded es i p d b j))) ≡ true
  forwarded_says (Some v) true j = refl
  forwarded_says (Some v) false j = refl
  forwarded_says None true j = refl
  forwarded_says None false j = refl

  taken_says : (a : ℕ) (found : Option ℕ) → says_loads (answer (done s p i (taken_from es i p a found))) ≡ true
  taken_says a None = refl
  taken_says a (Some j) = forwarded_says (at es j).datum (stores (at es j).instruction) j

  held_says : (a : ℕ) (fence found : Option ℕ) → says_loads (answer (done s p i (unless_held fence (taken_from es i p a found)))) ≡ true
  held_says a None found = taken_says a found
  held_says a (Some j) found = refl

  load_says : (address : Option ℕ) →
      says_loads (answer (done s p i (then (wanted address) (λ a. unless_held (nearest (passes open_fence_to_load es) i) (taken_from es i p a (nearest (passes (open_to_cell a) es) i)))))) ≡ true
  load_says None = refl
  load_says (Some a) = held_says a (nearest (passes open_fence_to_load es) i) (nearest (passes (open_to_cell a) es) i)

  act_says : (within is_load made : Bool) → (within ≡ false → is_load ≡ false) →
      says_loads (answer (done s p i (cond (within && eqb 0 0) (cond is_load (cond made (Err StepAlreadyMade) (changes.load es i p)) (Err KindDoesNotSuitRule)) (Err PositionOrGuessNotAllowed)))) ≡ is_load
  act_says true true true h = refl
  act_says true true false h = load_says (at es i).address
  act_says true false made h = refl
  act_says false is_load made h = sym (h refl)

-- Past the end of a buffer nothing loads.
no_load_past : (es : List Entry) (i : ℕ) → length es ≤ i → loads (at es i).instruction ≡ false
no_load_past es i l = ap (λ e. loads e.instruction) (get_or_past es i blank l)

-- A processor that there is answers as its entry is.
outcome_says : (s : State) (p i : ℕ) → says_loads (answer (act_outcome s rule.Load p i 0)) ≡ loads (instruction s p i)
unfolding act_outcome
outcome_says s p i =
    let es = buffer s p in
    act_says s es i p (ltb i (length es)) (loads (at es i).instruction) (at es i).done (λ h. no_load_past es i (ltb-false i (length es) h))

-- The answer says whether the entry loads.
pub answer_says : (q : Litmus) (s : State) (p i : ℕ) → says_loads (answer (step_outcome q s (step 5 p i 0))) ≡ loads (instruction s p i)
unfolding step_outcome
answer_says q s p i = go (ltb p (length s.cores)) refl
  where
    go : (b : Bool) → ltb p (length s.cores) ≡ b → says_loads (answer (cond b (act_outcome s rule.Load p i 0) (refused RuleOrProcessorAbsent))) ≡ loads (instruction s p i)
    go true h = outcome_says s p i
    go false h =
        let none : core_at s p ≡ empty_core = get_or_past s.cores p empty_core (ltb-false p (length s.cores) h) in
        sym (ap (λ c. loads (at c.entries i).instruction) none)

module _ (p : Progress) (a : Access) (load : Step) (is_load : load ≡ step 5 a.processor a.position 0) where
  -- What the answer says of the entry.
  said : (b : Bool) → says_loads (answer (step_outcome p.question p.state load)) ≡ b → loads (instruction p.state a.processor a.position) ≡ b
  said b h = sym (answer_says p.question p.state a.processor a.position) ∙ sym (ap (λ st. says_loads (answer (step_outcome p.question p.state st))) is_load) ∙ h

  -- Where it says that the entry loads, the load carried out the access.
  pub accessed_by_load : says_loads (answer (step_outcome p.question p.state load)) ≡ true → (u : Progress) → u ≡ runs p (load ∷ []) → u ≡ accessed p a
  unfolding accessed
  accessed_by_load h u is = is ∙ ap (λ st. runs p (st ∷ [])) (is_load ∙ sym (ap (λ b. step (cond b 5 7) a.processor a.position 0) (said true h)))

  -- Where it does not, the load changed nothing, and the store carried it out.
  pub accessed_by_store : says_loads (answer (step_outcome p.question p.state load)) ≡ false →
      (m : Progress) → m.question ≡ p.question → m.steps ≡ p.steps → m.state ≡ after p.state (step_outcome p.question p.state load) →
      (store : Step) → store ≡ step 7 a.processor a.position 0 → (u : Progress) → u ≡ runs m (store ∷ []) → u ≡ accessed p a
  unfolding accessed
  accessed_by_store h m question steps state store is_store u is =
      let same : m ≡ p = same_progress question steps (state ∙ go (step_outcome p.question p.state load) h) in
      is ∙ ap (λ v. runs v (store ∷ [])) same
      ∙ ap (λ st. runs p (st ∷ [])) (is_store ∙ sym (ap (λ b. step (cond b 5 7) a.processor a.position 0) (said false h)))
    where
      go : (o : Outcome) → says_loads (answer o) ≡ false → after p.state o ≡ p.state
      go (refused e) f = refl
      go (went n t) f = cc
