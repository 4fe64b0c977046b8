-- A state in which one entry changed is related again, if what is new of that entry is right.
use Rattle.std.proofs.Common.{◌≡◌, ℕ, ◌<◌, true, ◌≢◌, ◌↔◌, length, get_or, take, sym, ap, ◌∙◌, subst, inl, inr, arith}
use Rattle.std.proofs.lemmas.Bool.{cases_eq}
use Rattle.memory.specs.Cells.{zero_cell}
use Rattle.question.specs.Litmus.{Litmus}
use Rattle.witness.specs.Execution.{Execution}
use Rattle.events.specs.Sources.{path_at, source_at}
use Rattle.checker.specs.Terms.{event, AccessAt, LoadAt}
use Rattle.checker.specs.Tests.{rank}
use Rattle.machine.specs.Fires.{buffer, entry}
use Rattle.machine.specs.State.{Core, State}
use Rattle.reachable.specs.Invariant.{Invariant}
use Rattle.reachable.specs.Laws.{Onward}
use Rattle.reachable.proofs.Moved.{onward_available, onward_done}
use Rattle.reachable.proofs.Put.{Put, by_processor}
use Rattle.rules.specs.Entries.{at}
use Rattle.rules.specs.declared.entry.Entry.{Entry}
use Rattle.completeness.proofs.Related.{Related, Safe, SourcedAsStated, cell_after}

module _ (s u : State) (p i : ℕ) (e : Entry) (put : Put s u p i (length (buffer s p)) e) where
  -- Every buffer is as long as before.
  pub same_lengths : (r : ℕ) → length (buffer u r) ≡ length (buffer s r)
  same_lengths = by_processor (λ r. length (buffer u r) ≡ length (buffer s r)) p put.size (λ r h. ap (λ (c : Core). length c.entries) (put.elsewhere r h))

  -- What holds of the new entry and of all others before holds of all entries afterwards.
  pub each_entry : (P : ℕ → ℕ → Entry → Type 0) → P p i e → ((r j : ℕ) → (r ≡ p → j ≡ i → ⊥) → P r j (entry s r j)) → (r j : ℕ) → j < length (buffer s r) → P r j (entry u r j)
  each_entry P new old = by_processor (λ r. (j : ℕ) → j < length (buffer s r) → P r j (entry u r j)) p here there
    where
      here : (j : ℕ) → j < length (buffer s p) → P p j (entry u p j)
      here j l = elim (cases_eq j i) [
        | inl h ↦ subst (λ z. P p z (entry u p z)) (sym h) (subst (P p i) (sym put.here) new)
        | inr h ↦ subst (P p j) (sym (put.rest j l h)) (old p j (λ x y. h y))
      ]

      there : (r : ℕ) → r ≢ p → (j : ℕ) → j < length (buffer s r) → P r j (entry u r j)
      there r h j l = subst (P r j) (ap (λ (c : Core). at c.entries j) (sym (put.elsewhere r h))) (old r j (λ x y. h x))

  module _ (q : Litmus) (w : Execution) (t t' : ℕ) (R : Related q w t s) (inv : Invariant q u)
      (onward : (r j : ℕ) → j < length (buffer s r) → j < length (buffer u r) → Onward (entry s r j) (entry u r j))
      (place : e.place ≡ (entry s p i).place) (next : e.next ≡ (entry s p i).next) (on_path : i < length (path_at w p)) where
    within : (r j : ℕ) → j < length (path_at w r) → j < length (buffer s r)
    within r j l = omega (arith, R.whole r)

    gone_on : (r j : ℕ) → j < length (path_at w r) → Onward (entry s r j) (entry u r j)
    gone_on r j l = onward r j (within r j l) (omega (arith, within r j l, same_lengths r))

    -- What a load had settled it has settled still.
    safe_still : (r j : ℕ) → j < length (path_at w r) → Safe q w s r j → Safe q w u r j
    safe_still r j l x = record {
      store = λ m b. onward_available _ _ (gone_on r m (omega (arith, b.earlier))) (x.store m b);
      older_loads = λ m b. onward_done _ _ (gone_on r m (omega (arith, b.earlier))) (x.older_loads m b);
    }

    pub related_after :
        (LoadAt q w p i → e.done ≡ true → SourcedAsStated e (source_at q w p i)) →
        (AccessAt q w p i → (e.done ≡ true) ↔ (rank q w p i < t')) →
        ((r j : ℕ) → (r ≡ p → j ≡ i → ⊥) → AccessAt q w r j → ((entry s r j).done ≡ true) ↔ (rank q w r j < t')) →
        (u.order ≡ take t' w.order) →
        ((a : ℕ) → a < 16 → get_or u.cells a zero_cell ≡ cell_after q w t' a) →
        (LoadAt q w p i → e.done ≡ true → Safe q w s p i) →
        Related q w t' u
    related_after sourced done_here done_there order cells safe = record {
      invariant = inv;
      whole = λ r. same_lengths r ∙ R.whole r;
      places = λ r j l. each_entry (λ r j y. j < length (path_at w r) → y.place ≡ (event q w r j).place) (λ b. place ∙ R.places p i b) (λ r j n. R.places r j) r j (within r j l) l;
      nexts = λ r j l. each_entry (λ r j y. j < length (path_at w r) → y.next ≡ (event q w r j).next) (λ b. next ∙ R.nexts p i b) (λ r j n. R.nexts r j) r j (within r j l) l;
      sourced = λ r j x. each_entry (λ r j y. LoadAt q w r j → y.done ≡ true → SourcedAsStated y (source_at q w r j)) sourced (λ r j n. R.sourced r j) r j (within r j x.0) x;
      done_is = λ r j x. each_entry (λ r j y. AccessAt q w r j → (y.done ≡ true) ↔ (rank q w r j < t')) done_here done_there r j (within r j x.0) x;
      order = order;
      cells = cells;
      safe = λ r j x d. safe_still r j x.0
          (each_entry (λ r j y. LoadAt q w r j → y.done ≡ true → Safe q w s r j) safe (λ r j n. R.safe r j) r j (within r j x.0) x d);
    }
