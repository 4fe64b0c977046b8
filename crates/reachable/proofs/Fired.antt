-- What all rules have in common, and that it keeps the invariant, done stores and the order.
use Rattle.std.proofs.Common.{◌≡◌, ℕ, ◌<◌, ◌≤◌, true, false, length, sym, ap, ◌∙◌, subst, inl, inr, arith}
use Rattle.std.proofs.lemmas.Bool.{cases_lt}
use Rattle.instructions.specs.Kinds.{stores, access}
use Rattle.machine.specs.Fires.{buffer, entry, instruction}
use Rattle.machine.specs.State.{Core, State}
use Rattle.machine.specs.Steps.{only, stays, joined}
use Rattle.question.specs.Litmus.{Litmus}
use Rattle.rules.specs.Entries.{at}
use Rattle.rules.specs.declared.entry.Entry.{Entry}
use Rattle.reachable.specs.Checked.{Checked}
use Rattle.reachable.specs.Entries.{EntryKept}
use Rattle.reachable.specs.Invariant.{Invariant}
use Rattle.reachable.specs.Laws.{Onward}
use Rattle.reachable.specs.Order.{event, ListsDone}
use Rattle.reachable.specs.Places.{place_at, Chained}
use Rattle.reachable.proofs.Orders.{listed_quiet, all_stay, listed_joined, room_put, few_put, uncut}
use Rattle.reachable.proofs.Put.{Put, Leads, by_processor, entries_put, chained_put, put_onward}
use Rattle.reachable.proofs.Ways.{counter_within}

-- What becomes of the order: no access is done and nothing of it goes, or what was removed goes, or an access joins it.
pub data Orders (s t : State) (p i n : ℕ) (e : Entry) : Type 0 where
  as_before : (access e.instruction ≡ true → e.done ≡ false) → length (buffer s p) ≤ n → t.order ≡ s.order → Orders s t p i n e
  without_removed : (access e.instruction ≡ true → e.done ≡ false) → t.order ≡ only (stays p n) s.order → Orders s t p i n e
  joins : i < length (buffer s p) → length (buffer s p) ≡ n → access e.instruction ≡ true → e.done ≡ true → t.order ≡ joined s.order (event p i) → Orders s t p i n e

-- A rule leaves n entries of p, with e, which was not done before, at position i.
pub record Fired (q : Litmus) (s t : State) (p i n : ℕ) (e : Entry) : Type 0 where
  pub put : Put s t p i n e
  pub processors : length t.cores ≡ length s.cores
  pub cells : length t.cells ≡ length s.cells
  pub room : n ≤ 16
  pub place : e.place ≡ place_at s p i
  pub kept : EntryKept q s p i e
  pub waits : i < length (buffer s p) → (entry s p i).done ≡ false
  pub onward : i < length (buffer s p) → Onward (entry s p i) e
  pub leads : Leads s t p i n e
  pub spares : (j : ℕ) → n ≤ j → j < length (buffer s p) → stores (instruction s p j) ≡ true → (entry s p j).done ≡ true → ⊥
  pub order : Orders s t p i n e

module _ (q : Litmus) (s t : State) (p i n : ℕ) (e : Entry) (inv : Invariant q s) (fired : Fired q s t p i n e) where
  -- Every entry that stays went onward.
  pub fired_onward : (r j : ℕ) → j < length (buffer s r) → j < length (buffer t r) → Onward (entry s r j) (entry t r j)
  fired_onward = put_onward s t p i n e fired.put fired.onward

  -- A done store of p is neither removed nor changed.
  store_here : (j : ℕ) → j < length (buffer s p) → stores (instruction s p j) ≡ true → (entry s p j).done ≡ true → (j < length (buffer t p)) × (entry t p j ≡ entry s p j)
  store_here j l x d = elim (cases_lt j n) [
    | inl h ↦ (omega (arith, fired.put.size), (fired_onward p j l (omega (arith, fired.put.size))).finished d)
    | inr h ↦ absurd (fired.spares j h l x d)
  ]

  -- A done store is neither removed nor changed.
  pub fired_stores_stay : (r j : ℕ) → j < length (buffer s r) → stores (instruction s r j) ≡ true → (entry s r j).done ≡ true → (j < length (buffer t r)) × (entry t r j ≡ entry s r j)
  fired_stores_stay = by_processor (λ r. (j : ℕ) → j < length (buffer s r) → stores (instruction s r j) ≡ true → (entry s r j).done ≡ true → (j < length (buffer t r)) × (entry t r j ≡ entry s r j)) p
      store_here
      (λ r h j l x d. (subst (λ (c : Core). j < length c.entries) (sym (fired.put.elsewhere r h)) l, ap (λ (c : Core). at c.entries j) (fired.put.elsewhere r h)))

  module _ (checked : Checked q) where
    abbrev four : length t.cores ≤ 4
    four = omega (arith, fired.processors, inv.processors, checked.few)

    listed_after : Orders s t p i n e → ListsDone t t.order
    listed_after (Orders.as_before quiet w z) = subst (ListsDone t) (all_stay s t p i n e fired.put fired.waits inv.listed w ∙ sym z)
        (listed_quiet s t p i n e fired.put fired.waits inv.listed quiet)
    listed_after (Orders.without_removed quiet z) = subst (ListsDone t) (sym z) (listed_quiet s t p i n e fired.put fired.waits inv.listed quiet)
    listed_after (Orders.joins l w x d z) = subst (ListsDone t) (sym (z ∙ uncut s t p i n e fired.put fired.room inv.room four fired.waits inv.listed l w x d)) (listed_joined s t p i n e fired.put fired.waits inv.listed l w x d)

    entries_after : (r j : ℕ) → j < length (buffer t r) → EntryKept q t r j (entry t r j)
    entries_after = entries_put s t p i n e fired.put fired.onward q fired.kept inv.entries

    chained_after : (r : ℕ) → Chained t r
    chained_after = chained_put s t p i n e fired.put fired.place fired.leads inv.chained

    -- The rule keeps the invariant.
    pub fired_keeps : Invariant q t
    fired_keeps = record {
      processors = fired.processors ∙ inv.processors;
      sixteen = fired.cells ∙ inv.sixteen;
      room = room_put s t p i n e fired.put fired.room inv.room;
      chained = chained_after;
      within = λ r. counter_within q checked t r (chained_after r) (entries_after r);
      entries = entries_after;
      listed = listed_after fired.order;
      few = few_put s t p i n e fired.put fired.room inv.room four t.order (listed_after fired.order);
    }
