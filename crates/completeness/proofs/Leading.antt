-- Steps that lead to a state are all accepted and answer 0; those of a rebuild lead to its end, and its fetches are few.
use Rattle.std.proofs.Common.{◌≡◌, ℕ, zero, suc, ◌+◌, ◌*◌, ◌≤◌, List, [], ◌∷◌, map, length, replicate, Ok, refl, ap, ◌∙◌, arith}
use Rattle.std.specs.List.{range_with_len, flat_map}
use Rattle.std.proofs.lemmas.List.{length-append, length-map}
use Rattle.checker_laws.proofs.Built.{length_events}
use Rattle.events.specs.Sources.{events}
use Rattle.events.proofs.LoadCounts.{path_short}
use Rattle.machine.specs.State.{State}
use Rattle.machine.specs.Steps.{answer, after}
use Rattle.machine.specs.declared.step.Step.{Step}
use Rattle.question.specs.Litmus.{Litmus}
use Rattle.runs.specs.Records.{answers}
use Rattle.witness.specs.Execution.{Execution, Within}
use Rattle.witness.specs.declared.record.Access.{Access}
use Rattle.completeness.specs.Rebuilds.{Lead, Settles, CarriedOut}
use Rattle.completeness.specs.StepsFor.{fetches}
use Rattle.completeness.proofs.FetchPhase.{lead_append}
use Rattle.completeness.proofs.PathFetched.{fetch_of}

module _ (q : Litmus) where
  -- Each step answers that it removed nothing.
  pub lead_answers : {s t : State} (xs : List Step) → Lead q s xs t → answers q s xs ≡ replicate (length xs) (Ok 0)
  unfolding answers
  lead_answers [] Lead.nothing = refl
  lead_answers {s} (x ∷ xs) (Lead.next a r) = ap (λ o. answer o ∷ answers q (after s o) xs) a ∙ ap (λ z. Ok 0 ∷ z) (lead_answers xs r)

  -- Local steps lead to where they settle.
  settles_lead : {s t : State} {xs : List Step} → Settles q s xs t → Lead q s xs t
  settles_lead (Settles.settled h) = Lead.nothing
  settles_lead (Settles.next low a r) = Lead.next a (settles_lead r)

  -- What is carried out leads to its end.
  pub carried_lead : {order : List Access} {s t : State} {xs : List Step} → CarriedOut q order s xs t → Lead q s xs t
  carried_lead (CarriedOut.done r) = settles_lead r
  carried_lead (CarriedOut.next r c a rest) = lead_append q (settles_lead r) (Lead.next a (carried_lead rest))

-- Lists of at most c elements, joined.
joined_few : {A : Type 0} (f : ℕ → List A) (c : ℕ) → ((k : ℕ) → length (f k) ≤ c) → (a n : ℕ) → length (flat_map f (range_with_len a n)) ≤ n * c
joined_few f c h a zero = omega arith
joined_few f c h a (suc n) = omega (arith, length-append (f a) (flat_map f (range_with_len (a + 1) n)), h a, joined_few f c h (a + 1) n)

-- Sixteen fetches a processor at most.
pub fetches_few : (q : Litmus) (w : Execution) → Within w → length (fetches q w) ≤ length q.code * 16
fetches_few q w within =
    joined_few (λ p. map (fetch_of p) (events q w p)) 16 (λ p. omega (arith, length-map (events q w p) (fetch_of p), length_events q w p, path_short w p within)) 0 (length q.code)
