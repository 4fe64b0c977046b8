-- How a rebuild goes on, one step after the other.
use Rattle.std.proofs.Common.{◌≡◌, ◌≤◌, Bool, true, false, is_ok, is_some, List, [], ◌∷◌, ◌++◌, length, take, None, sym, refl, ap, ◌∙◌}
use Rattle.bounded.proofs.Fits.{items_fit}
use Rattle.bounded.proofs.Takes.{take_append_both}
use Rattle.question.specs.Litmus.{Litmus}
use Rattle.machine.specs.State.{State}
use Rattle.machine.specs.Steps.{Outcome, refused, went, answer, after, step_outcome, run_all}
use Rattle.machine.specs.declared.step.Step.{Step}
use Rattle.completeness.specs.StepsFor.{Made, first_accepted, taken_or, most_steps}
use Rattle.rebuilder.specs.Progress.{Progress, TakesFirst, goes_on, takes, runs, first_of}
use Rattle.rebuilder.specs.Views.{progress_of}
use Rattle.rebuilder.proofs.Pushes.{pushed_all}
use Rattle.rebuilder.specs.declared.rebuilding.Rebuilding.{Rebuilding}

-- Rebuilds with the same parts are as far.
pub same_progress : {p q : Litmus} {xs ys : List Step} {s t : State} → p ≡ q → xs ≡ ys → s ≡ t →
    ◌≡◌ {A = Progress} (record { question = p; steps = xs; state = s }) (record { question = q; steps = ys; state = t })
same_progress a b c = λ i. record { question = a i; steps = b i; state = c i }

-- A rebuild has room for its steps.
abbrev pub Few : Progress → Type 0
Few p = length p.steps ≤ most_steps

pub few_steps : (r : Rebuilding) → Few (progress_of r)
unfolding progress_of
few_steps r = items_fit r.steps

-- What goes on twice goes on once, with the steps of both.
pub goes_on_twice : (p : Progress) (m n : Made) → goes_on (goes_on p m) n ≡ goes_on p (record { steps = m.steps ++ n.steps; state = n.state })
unfolding goes_on
goes_on_twice p m n = same_progress refl (take_append_both most_steps p.steps m.steps n.steps) refl

-- Nothing more changes nothing.
pub nothing_more : (p : Progress) → Few p → p ≡ goes_on p (record { steps = []; state = p.state })
unfolding goes_on
nothing_more p few = same_progress refl (pushed_all most_steps p.steps few) refl

-- No steps change nothing.
pub runs_none : (p : Progress) → Few p → p ≡ runs p []
unfolding runs run_all
runs_none p few = nothing_more p few

-- The state after two lists of steps.
run_both : (q : Litmus) (s : State) (xs ys : List Step) → run_all q s (xs ++ ys) ≡ run_all q (run_all q s xs) ys
unfolding run_all
run_both q s [] ys = refl
run_both q s (st ∷ xs) ys = run_both q (after s (step_outcome q s st)) xs ys

-- Steps one after the other are those of both lists.
pub runs_both : (p : Progress) (xs ys : List Step) → runs (runs p xs) ys ≡ runs p (xs ++ ys)
unfolding runs goes_on
runs_both p xs ys = same_progress refl (take_append_both most_steps p.steps xs ys) (sym (run_both p.question p.state xs ys))

module _ (p u : Progress) (st : Step) (question : u.question ≡ p.question) (state : u.state ≡ after p.state (step_outcome p.question p.state st)) where
  -- A step was taken and added.
  pub one_more : u.steps ≡ take most_steps (p.steps ++ st ∷ []) → u ≡ runs p (st ∷ [])
  unfolding runs goes_on run_all
  one_more steps = same_progress question steps state

  module _ {accepted : Bool} (says : accepted ≡ is_ok (answer (step_outcome p.question p.state st))) where
    -- A step was accepted and added.
    pub one_accepted : accepted ≡ true → u.steps ≡ take most_steps (p.steps ++ st ∷ []) → TakesFirst p (st ∷ []) accepted u
    unfolding first_of first_accepted takes goes_on
    one_accepted h steps = go (step_outcome p.question p.state st) refl says state
      where
        go : (o : Outcome) → first_of p (st ∷ []) ≡ taken_or st o None → accepted ≡ is_ok (answer o) → u.state ≡ after p.state o → TakesFirst p (st ∷ []) accepted u
        go (refused e) is f s = cc
        go (went n t) is f s = record { if_accepted = f ∙ sym (ap is_some is); progress = same_progress question steps s ∙ sym (ap (takes p) is) }

    -- A step was refused.
    pub one_refused : accepted ≡ false → u.steps ≡ p.steps → TakesFirst p (st ∷ []) accepted u
    unfolding first_of first_accepted takes
    one_refused h steps = go (step_outcome p.question p.state st) refl says state
      where
        go : (o : Outcome) → first_of p (st ∷ []) ≡ taken_or st o None → accepted ≡ is_ok (answer o) → u.state ≡ after p.state o → TakesFirst p (st ∷ []) accepted u
        go (refused e) is f s = record { if_accepted = f ∙ sym (ap is_some is); progress = same_progress question steps s ∙ sym (ap (takes p) is) }
        go (went n t) is f s = cc
