-- Local steps until none is left, and accesses between.
use Rattle.std.proofs.Common.{◌≡◌, ℕ, zero, suc, Bool, true, false, is_some, List, [], ◌∷◌, Some, None, Option, sym, refl, ap, ◌∙◌}
use Rattle.completeness.specs.StepsFor.{Taken, made_from, settle, carry_out, access_step, most_steps}
use Rattle.machine.specs.Steps.{after, step_outcome, run_all}
use Rattle.witness.specs.declared.record.Access.{Access}
use Rattle.rebuilder.specs.Progress.{Progress, TakesFirst, first_of, lowest_first, goes_on, takes, runs, settled, accessed, carried}
use Rattle.rebuilder.proofs.GoesOn.{Few, goes_on_twice, nothing_more}

-- Local steps until none is left, n at the most.
unfoldable pub settled_in : ℕ → Progress → Progress
settled_in n p = goes_on p (settle p.question n p.state)

pub settled_fully : (p : Progress) → settled_in most_steps p ≡ settled p
unfolding settled_in settled
settled_fully p = refl

module _ {p u : Progress} {found : Bool} (took : TakesFirst p (lowest_first p) found u) where
  -- The lowest step was taken, and the others are left.
  pub settling_goes_on : (n : ℕ) → found ≡ true → settled_in n u ≡ settled_in (suc n) p
  unfolding settled_in settle lowest_first first_of takes goes_on
  settling_goes_on n is = go (first_of p (lowest_first p)) (sym took.if_accepted ∙ is) took.progress
    where
      go : (o : Option Taken) → is_some o ≡ true → u ≡ takes p o → settled_in n u ≡ goes_on p (made_from p.state o (settle p.question n))
      go None f e = cc
      go (Some t) f e = ap (settled_in n) e ∙ goes_on_twice p (record { steps = t.step ∷ []; state = t.state }) (settle p.question n t.state)

  -- There was none to take, and nothing is left.
  pub settling_stops : Few p → (n : ℕ) → found ≡ false → u ≡ settled_in (suc n) p
  unfolding settled_in settle lowest_first first_of takes
  settling_stops few n is = go (first_of p (lowest_first p)) (sym took.if_accepted ∙ is) took.progress
    where
      go : (o : Option Taken) → is_some o ≡ false → u ≡ takes p o → u ≡ goes_on p (made_from p.state o (settle p.question n))
      go None f e = e ∙ nothing_more p few
      go (Some t) f e = cc

-- As many steps as there may be were taken.
pub settling_ends : (p : Progress) → Few p → p ≡ settled_in zero p
unfolding settled_in settle
settling_ends p few = nothing_more p few

-- After the last access there are local steps.
pub carrying_ends : (p : Progress) → settled p ≡ carried p []
unfolding settled carried carry_out
carrying_ends p = refl

-- After local steps the first access is carried out, and the others are left.
pub carrying_goes_on : (p : Progress) (a : Access) (order : List Access) → carried (accessed (settled p) a) order ≡ carried p (a ∷ order)
unfolding carried accessed settled runs run_all goes_on carry_out
carrying_goes_on p a order =
    let before = settle p.question most_steps p.state in
    let st = access_step before.state a in
    let t = after before.state (step_outcome p.question before.state st) in
    goes_on_twice (goes_on p before) (record { steps = st ∷ []; state = t }) (carry_out p.question order t)
    ∙ goes_on_twice p before (record { steps = st ∷ (carry_out p.question order t).steps; state = (carry_out p.question order t).state })
