-- What still stands of the memory order stays in its order, and at most one access joins it, at its end.
use Rattle.std.proofs.Common.{◌≡◌, ℕ, ◌<◌, ◌≤◌, false, ◌≢◌, ◌⊎◌, [], ◌∷◌, ◌++◌, length, sym, refl, ◌∙◌, subst, inl, inr, arith}
use Rattle.std.proofs.lemmas.Bool.{cases_lt, lt-ltb, le-ltb, le-leb, eq-eqb}
use Rattle.machine.specs.Fires.{buffer, entry}
use Rattle.machine.specs.State.{Core, State}
use Rattle.machine.specs.Steps.{only, stays}
use Rattle.question.specs.Litmus.{Litmus}
use Rattle.rules.specs.declared.entry.Entry.{Entry}
use Rattle.reachable.specs.Checked.{Checked}
use Rattle.reachable.specs.Invariant.{Invariant}
use Rattle.reachable.specs.Laws.{OrderGoesOn}
use Rattle.reachable.specs.Order.{event, event_at, standing, DoneAccess}
use Rattle.reachable.proofs.EachRule.{fires_ruled}
use Rattle.reachable.proofs.Fired.{Fired, Orders}
use Rattle.reachable.proofs.Orders.{others_stay, older_stay, all_stay, uncut}
use Rattle.reachable.proofs.Picked.{only_same}
use Rattle.reachable.proofs.Put.{by_processor}

-- An access of p from position n on does not stay.
younger_go : (p n j : ℕ) → n ≤ j → stays p n (event p j) ≡ false
younger_go p n j l = rw (eq-eqb p p refl, le-leb n j l)

module _ (q : Litmus) (s t : State) (p i n : ℕ) (e : Entry) (inv : Invariant q s) (fired : Fired q s t p i n e) where
  -- Of p, what stands afterwards is what stays.
  stands_here : (j : ℕ) → DoneAccess s p j → standing t (event p j) ≡ stays p n (event p j)
  stands_here j d = elim (cases_lt j n) [
    | inl h ↦ lt-ltb j (length (buffer t p)) (omega (arith, fired.put.size)) ∙ sym (older_stay p n p j h)
    | inr h ↦ le-ltb j (length (buffer t p)) (omega (arith, fired.put.size)) ∙ sym (younger_go p n j h)
  ]

  -- Of another processor, everything stands and stays.
  stands_elsewhere : (r : ℕ) → r ≢ p → (j : ℕ) → DoneAccess s r j → standing t (event r j) ≡ stays p n (event r j)
  stands_elsewhere r h j d =
      lt-ltb j (length (buffer t r)) (subst (λ (c : Core). j < length c.entries) (sym (fired.put.elsewhere r h)) d.stands) ∙ sym (others_stay p n r j h)

  -- What stands afterwards is what stays.
  standing_stays : only (standing t) s.order ≡ only (stays p n) s.order
  standing_stays = only_same (standing t) (stays p n) s.order (λ m l.
      by_processor (λ r. (j : ℕ) → DoneAccess s r j → standing t (event r j) ≡ stays p n (event r j)) p stands_here stands_elsewhere
      (event_at s.order m).processor (event_at s.order m).position (inv.listed.only_done m l))

  -- The order afterwards.
  fired_order : Checked q → Orders s t p i n e →
      (t.order ≡ only (standing t) s.order) ⊎ ((r j : ℕ) × (j < length (buffer s r)) × ((entry s r j).done ≡ false) × (t.order ≡ s.order ++ event r j ∷ []))
  fired_order checked (Orders.as_before quiet w z) = inl (z ∙ sym (all_stay s t p i n e fired.put fired.waits inv.listed w) ∙ sym standing_stays)
  fired_order checked (Orders.without_removed quiet z) = inl (z ∙ sym standing_stays)
  fired_order checked (Orders.joins l w x d z) = inr (p, i, l, fired.waits l, z ∙ uncut s t p i n e fired.put fired.room inv.room four fired.waits inv.listed l w x d)
    where
      four : length t.cores ≤ 4
      four = omega (arith, fired.processors, inv.processors, checked.few)

-- The order goes on.
pub order_goes_on : OrderGoesOn
order_goes_on q s st n t checked inv f =
    let r = fires_ruled q s inv f in
    fired_order q s t r.processor r.position r.left r.put inv r.fired checked r.fired.order
