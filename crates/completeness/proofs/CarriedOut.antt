-- Local steps settle, and the accesses are carried out in their order with local steps between; every step but the fetches makes something known.
use Rattle.std.proofs.Common.{◌≡◌, ℕ, zero, suc, ◌+◌, ◌<◌, ◌≤◌, Bool, true, false, cond, List, [], ◌∷◌, ◌++◌, length, get_or, drop, Option, sym, ap, ◌∙◌, subst, arith}
use Rattle.std.proofs.lemmas.List.{length-append, drop_more}
use Rattle.checker.specs.Axioms.{Axioms}
use Rattle.checker.specs.Terms.{access_at}
use Rattle.instructions.specs.Kinds.{loads}
use Rattle.machine.specs.Fires.{instruction}
use Rattle.machine.specs.State.{State}
use Rattle.machine.specs.Steps.{went, after, step_outcome}
use Rattle.machine.specs.declared.step.Step.{Step}
use Rattle.machine_laws.proofs.GoneFires.{gone_fires}
use Rattle.ordering.specs.Rules.{gam}
use Rattle.question.specs.Litmus.{Litmus}
use Rattle.reachable.specs.Checked.{Checked}
use Rattle.witness.specs.Execution.{Execution, Within}
use Rattle.witness.specs.declared.record.Access.{Access}
use Rattle.completeness.specs.Rebuilds.{Local, Settles, Carries, CarriedOut}
use Rattle.completeness.specs.StepsFor.{Taken, Made, lowest, made_from, settle, most_steps, access_step, carry_out}
use Rattle.completeness.proofs.AccessStep.{access_goes}
use Rattle.completeness.proofs.FirstAccepted.{Chosen}
use Rattle.completeness.proofs.LocalStep.{local_goes}
use Rattle.completeness.proofs.LowestStep.{lowest_chosen, local_no_fetch}
use Rattle.completeness.proofs.Measure.{left, left_falls, left_bound}
use Rattle.completeness.proofs.Related.{Related}
use Rattle.completeness.proofs.Saturation.{Still}

-- An access step is no fetch.
access_no_fetch : (b : Bool) → ◌≡◌ {A = ℕ} (cond b 5 7) 1 → ⊥
access_no_fetch true e = omega arith
access_no_fetch false e = omega arith

module _ (q : Litmus) (checked : Checked q) (w : Execution) where
  -- At most 192 things are to be made known.
  small : (t : ℕ) (s : State) → Related q w t s → left s ≤ 192
  small t s r = omega (arith, left_bound q s r.invariant, r.invariant.processors, checked.few)

  -- Local steps were taken until none was left.
  pub record SettledFrom (t : ℕ) (s : State) (m : Made) : Type 0 where
    pub settles : Settles q s m.steps m.state
    pub related : Related q w t m.state
    pub still : Still q m.state
    pub cost : length m.steps + left m.state ≤ left s

  -- Where none was left from the start.
  stays : (t : ℕ) (s : State) → Related q w t s → Still q s → SettledFrom t s (record { steps = []; state = s })
  stays t s g h = record { settles = Settles.settled h; related = g; still = h; cost = omega arith }

  -- As many local steps as there are things to make known are enough.
  pub settled_from : (n t : ℕ) (s : State) → Related q w t s → left s ≤ n → SettledFrom t s (settle q n s)
  unfolding settle
  settled_from zero t s g l = go (lowest q s) (lowest_chosen q s g.invariant)
    where
      go : (o : Option Taken) → Chosen q s Local o → SettledFrom t s (record { steps = []; state = s })
      go _ (Chosen.none h) = stays t s g h
      go _ (Chosen.one st n u x e h) = absurd (omega (arith, left_falls q s st n u (gone_fires q s st n u e) (local_no_fetch st x)))
  settled_from (suc k) t s g l = go (lowest q s) (lowest_chosen q s g.invariant) (λ u. settled_from k t u)
    where
      go : (o : Option Taken) → Chosen q s Local o → ((u : State) → Related q w t u → left u ≤ k → SettledFrom t u (settle q k u)) → SettledFrom t s (made_from s o (settle q k))
      go _ (Chosen.none h) ih = stays t s g h
      go _ (Chosen.one st n u x e h) ih =
          let (z, g') = local_goes q checked w t s g st n u x e in
          let less : left u < left s = left_falls q s st n u (gone_fires q s st n u e) (local_no_fetch st x) in
          let r : SettledFrom t u (settle q k u) = ih u g' (omega arith) in
          record {
            settles = Settles.next (record { local = x; acceptable = (n, u, e); none_lower = h }) (e ∙ ap (λ y. went y u) z) r.settles;
            related = r.related;
            still = r.still;
            cost = omega (arith, r.cost);
          }

  module _ (within : Within w) (axioms : Axioms gam q w) where
    -- The accesses of the rest of the order were carried out.
    pub record RestCarried (s : State) (rest : List Access) (m : Made) : Type 0 where
      pub carried_out : CarriedOut q rest s m.steps m.state
      pub related : Related q w (length w.order) m.state
      pub still : Still q m.state
      pub cost : length m.steps + left m.state ≤ left s

    -- The rest of the order is carried out.
    pub carried : (rest : List Access) (t : ℕ) (s : State) → Related q w t s → t + length rest ≡ length w.order → drop t w.order ≡ rest → RestCarried s rest (carry_out q rest s)
    unfolding carry_out
    carried [] t s g n e =
        let r = settled_from most_steps t s g (omega (arith, small t s g)) in
        let z : t ≡ length w.order = omega arith in
        record { carried_out = CarriedOut.done r.settles; related = subst (λ k. Related q w k (settle q most_steps s).state) z r.related; still = r.still; cost = r.cost }
    carried (a ∷ rest) t s g n e =
        let m : Made = settle q most_steps s in
        let r : SettledFrom t s m = settled_from most_steps t s g (omega (arith, small t s g)) in
        let lt : t < length w.order = omega arith in
        let split : drop t w.order ≡ get_or w.order t (access_at 0 0) ∷ drop (t + 1) w.order = drop_more w.order t (access_at 0 0) lt in
        let here : get_or w.order t (access_at 0 0) ≡ a = cc in
        let behind : drop (t + 1) w.order ≡ rest = cc in
        let x = access_goes q checked w within axioms t m.state r.related r.still lt in
        let u : State = x.state in
        let st : Step = access_step m.state a in
        let goes : step_outcome q m.state st ≡ went 0 u = subst (λ b. step_outcome q m.state (access_step m.state b) ≡ went 0 u) here x.leads in
        let carries : Carries m.state a st = subst (λ b. Carries m.state b (access_step m.state b)) here x.carries in
        let less : left u < left m.state = left_falls q m.state st 0 u (gone_fires q m.state st 0 u goes) (access_no_fetch (loads (instruction m.state a.processor a.position))) in
        let on : suc t ≡ t + 1 = omega arith in
        let ih : RestCarried u rest (carry_out q rest u) = carried rest (suc t) u x.related (omega arith) (ap (λ k. drop k w.order) on ∙ behind) in
        subst (λ v. RestCarried s (a ∷ rest) (record { steps = m.steps ++ st ∷ (carry_out q rest v).steps; state = (carry_out q rest v).state })) (sym (ap (after m.state) goes))
        (record {
          carried_out = CarriedOut.next r.settles carries goes ih.carried_out;
          related = ih.related;
          still = ih.still;
          cost = omega (arith, length-append m.steps (st ∷ (carry_out q rest u).steps), r.cost, ih.cost);
        })
