-- No two lists of steps rebuild one witness.
use Rattle.std.proofs.Common.{◌≡◌, List, [], ◌∷◌, ◌++◌, sym, refl, ap, ◌∙◌, subst, ap₂, inl, inr}
use Rattle.std.proofs.lemmas.Bool.{cases_order, both_ways}
use Rattle.machine.specs.Fires.{step, instruction}
use Rattle.machine.specs.State.{State}
use Rattle.machine.specs.Steps.{went, step_outcome}
use Rattle.machine.specs.declared.step.Step.{Step}
use Rattle.question.specs.Litmus.{Litmus}
use Rattle.reachable.proofs.Exclusive.{loads_no_store}
use Rattle.witness.specs.Execution.{Execution}
use Rattle.witness.specs.declared.record.Access.{Access}
use Rattle.completeness.specs.Rebuilds.{Leads, Lead, Local, Lower, Lowest, Settles, Carries, CarriedOut, Rebuilds}
use Rattle.completeness.specs.StepsFor.{fetches}

-- Of two steps one is lower, or they have the same processor, position and rule.
data Compared (a b : Step) : Type 0 where
  lower : Lower a b → Compared a b
  higher : Lower b a → Compared a b
  alike : a.processor ≡ b.processor → a.position ≡ b.position → a.rule ≡ b.rule → Compared a b

compared : (a b : Step) → Compared a b
compared a b = elim (cases_order a.processor b.processor) [
  | inr (inl l) ↦ lower (inl l)
  | inr (inr l) ↦ higher (inl l)
  | inl e ↦ elim (cases_order a.position b.position) [
    | inr (inl l) ↦ lower (inr (e, inl l))
    | inr (inr l) ↦ higher (inr (sym e, inl l))
    | inl f ↦ elim (cases_order a.rule b.rule) [
      | inr (inl l) ↦ lower (inr (e, inr (f, l)))
      | inr (inr l) ↦ higher (inr (sym e, inr (sym f, l)))
      | inl g ↦ alike e f g
    ]
  ]
]

-- A local step guesses nothing.
no_guess : (st : Step) → Local st → st.guess ≡ 0
no_guess _ (Local.arithmetic p i) = refl
no_guess _ (Local.branch p i) = refl
no_guess _ (Local.fence p i) = refl
no_guess _ (Local.store_data p i) = refl
no_guess _ (Local.address p i) = refl

same_step : (a b : Step) → a.rule ≡ b.rule → a.processor ≡ b.processor → a.position ≡ b.position → a.guess ≡ b.guess → a ≡ b
same_step a b e f g h = ap₂ (λ x y. step x y a.position a.guess) e f ∙ ap₂ (λ x y. step b.rule b.processor x y) g h

module _ (q : Litmus) where
  -- There is one lowest step.
  lowest_once : {s : State} {a b : Step} → Lowest q s a → Lowest q s b → a ≡ b
  lowest_once {s} {a} {b} x y = go (compared a b)
    where
      go : Compared a b → a ≡ b
      go (lower l) = absurd (y.none_lower a x.local x.acceptable l)
      go (higher l) = absurd (x.none_lower b y.local y.acceptable l)
      go (alike e f g) = same_step a b g e f (no_guess a x.local ∙ sym (no_guess b y.local))

  -- A step leads to one state.
  same_lead : (s t u : State) (a b : Step) → a ≡ b → Leads q s a t → Leads q s b u → t ≡ u
  same_lead s t u a b e x y = let z : went 0 t ≡ went 0 u = sym x ∙ ap (step_outcome q s) e ∙ y in cc

  settles_from : {s t u : State} {xs : List Step} → s ≡ t → Settles q s xs u → Settles q t xs u
  settles_from {s} {t} {u} {xs} e h = subst (λ x. Settles q x xs u) e h

  carries_from : {s t : State} {a : Access} {x : Step} → s ≡ t → Carries s a x → Carries t a x
  carries_from {s} {t} {a} {x} e h = subst (λ z. Carries z a x) e h

  leads_from : (s t u : State) (x : Step) → s ≡ t → Leads q s x u → Leads q t x u
  leads_from s t u x e h = subst (λ z. Leads q z x u) e h

  carried_from : {s t u : State} {xs : List Step} {order : List Access} → s ≡ t → CarriedOut q order s xs u → CarriedOut q order t xs u
  carried_from {s} {t} {u} {xs} {order} e h = subst (λ x. CarriedOut q order x xs u) e h

  lead_from : {s t u : State} {xs : List Step} → s ≡ t → Lead q s xs u → Lead q t xs u
  lead_from {s} {t} {u} {xs} e h = subst (λ x. Lead q x xs u) e h

  -- Local steps settle in one way.
  settles_once : {s u v : State} {xs ys : List Step} → Settles q s xs u → Settles q s ys v → (xs ≡ ys) × (u ≡ v)
  settles_once (Settles.settled h) (Settles.settled k) = (refl, refl)
  settles_once (Settles.settled h) (Settles.next low lead rest) = absurd (h _ low.local low.acceptable)
  settles_once (Settles.next low lead rest) (Settles.settled h) = absurd (h _ low.local low.acceptable)
  settles_once (Settles.next low lead rest) (Settles.next low' lead' rest') =
      let e = lowest_once low low' in
      let r = settles_once rest (settles_from (sym (same_lead _ _ _ _ _ e lead lead')) rest') in
      (ap₂ ◌∷◌ e r.0, r.1)

  -- An access is carried out by one step.
  carries_once : {s : State} {a : Access} {x y : Step} → Carries s a x → Carries s a y → x ≡ y
  carries_once (Carries.load l) (Carries.load m) = refl
  carries_once (Carries.store l) (Carries.store m) = refl
  carries_once {s} {a} (Carries.load l) (Carries.store m) = absurd (both_ways _ (loads_no_store (instruction s a.processor a.position) l) m)
  carries_once {s} {a} (Carries.store m) (Carries.load l) = absurd (both_ways _ (loads_no_store (instruction s a.processor a.position) l) m)

  -- The accesses are carried out in one way.
  carried_once : {s u v : State} {xs ys : List Step} (order : List Access) → CarriedOut q order s xs u → CarriedOut q order s ys v → (xs ≡ ys) × (u ≡ v)
  carried_once [] (CarriedOut.done x) (CarriedOut.done y) = settles_once x y
  carried_once (a ∷ order) (CarriedOut.next x c l r) (CarriedOut.next x' c' l' r') =
      let z = settles_once x x' in
      let d = carries_once c (carries_from (sym z.1) c') in
      let f = same_lead _ _ _ _ _ d l (leads_from _ _ _ _ (sym z.1) l') in
      let b = carried_once order r (carried_from (sym f) r') in
      (ap₂ ◌++◌ z.0 (ap₂ ◌∷◌ d b.0), b.1)

  -- The same steps lead to one state.
  leads_once : {s u v : State} (xs : List Step) → Lead q s xs u → Lead q s xs v → u ≡ v
  leads_once [] Lead.nothing Lead.nothing = refl
  leads_once (x ∷ xs) (Lead.next a r) (Lead.next b t) = leads_once xs r (lead_from (sym (same_lead _ _ _ x x refl a b)) t)

  -- One list of steps rebuilds a witness.
  pub rebuilds_once : (w : Execution) (xs ys : List Step) → Rebuilds q w xs → Rebuilds q w ys → xs ≡ ys
  rebuilds_once w xs ys a b =
      let e = leads_once (fetches q w) a.fetches_lead b.fetches_lead in
      let r = carried_once w.order a.accesses (carried_from (sym e) b.accesses) in
      a.parts ∙ ap (λ z. fetches q w ++ z) r.0 ∙ sym b.parts
