-- A world shows a state: its rows are the buffers, with a moment for every done entry, and memory and order are the state's.
use Rattle.std.proofs.Common.{◌≡◌, ℕ, ◌<◌, ◌≤◌, true, false, cond, eqb, ltb, ◌≢◌, length, get_or, sym, refl, ap, ◌∙◌, subst, inl, inr, arith}
use Rattle.std.proofs.lemmas.Bool.{cases_eq, eq-eqb, ne_eqb, cond-true, cond-false, ltb-true, ltb-false, lt-ltb}
use Rattle.machine.specs.Fires.{entry}
use Rattle.machine.specs.State.{Core, State, core_at}
use Rattle.memory.specs.Cells.{zero_cell}
use Rattle.rules.specs.Entries.{at}
use Rattle.rules.specs.declared.entry.Entry.{Entry}
use Rattle.reachable.proofs.Put as reached
use Rattle.soundness.proofs.Worlds.{Row, World}
use Rattle.soundness.proofs.Moves.{Changed, Put, Upd}

-- The row shows the entry at position k; its moment is not 0 exactly if it is done.
pub record ShowsEntry (e : Entry) (x : Row) (k : ℕ) : Type 0 where
  pub instruction : x.instruction k ≡ e.instruction
  pub place : x.place k ≡ e.place
  pub address : x.address k ≡ e.address
  pub datum : x.datum k ≡ e.datum
  pub time : ltb 0 (x.time k) ≡ e.done
  pub value : x.value k ≡ e.value
  pub mark : x.mark k ≡ e.mark

-- The row shows the processor: every entry, and behind them the counter.
pub record Shows (c : Core) (x : Row) : Type 0 where
  pub size : x.size ≡ length c.entries
  pub counter : x.place (length c.entries) ≡ c.counter
  pub each : (k : ℕ) → k < length c.entries → ShowsEntry (at c.entries k) x k

-- The world shows the state.
pub record Seen (s : State) (w : World) : Type 0 where
  pub rows : (p : ℕ) → Shows (core_at s p) (w.rows p)
  pub value : (b : ℕ) → w.memory.value b ≡ (get_or s.cells b zero_cell).value
  pub mark : (b : ℕ) → w.memory.mark b ≡ (get_or s.cells b zero_cell).mark
  pub order : w.order ≡ s.order
  pub begun : 0 < w.clock

-- A function with another value at one place.
unfoldable pub put_at : {X : Type 0} → (ℕ → X) → ℕ → X → ℕ → X
put_at f i v j = cond (eqb j i) v (f j)

pub put_here : {X : Type 0} (f : ℕ → X) (i : ℕ) (v : X) (j : ℕ) → j ≡ i → put_at f i v j ≡ v
unfolding put_at
put_here f i v j h = cond-true (eqb j i) v (f j) (eq-eqb j i h)

pub put_there : {X : Type 0} (f : ℕ → X) (i : ℕ) (v : X) (j : ℕ) → j ≢ i → put_at f i v j ≡ f j
unfolding put_at
put_there f i v j h = cond-false (eqb j i) v (f j) (ne_eqb j i h)

pub put_changed : {X : Type 0} (f : ℕ → X) (i : ℕ) (v : X) → Changed f (put_at f i v) i v
put_changed f i v j = elim (cases_eq j i) [ inl h ↦ inl (h, put_here f i v j h) | inr h ↦ inr (h, put_there f i v j h) ]

pub put_upd : (f : ℕ → ℕ) (i v : ℕ) → f i ≡ 0 → Upd f (put_at f i v) i v
put_upd f i v z j = elim (cases_eq j i) [ inl h ↦ inl (h, ap f h ∙ z, put_here f i v j h) | inr h ↦ inr (h, put_there f i v j h) ]

pub put_row : (rows : ℕ → Row) (p : ℕ) (x : Row) → Put rows (put_at rows p x) p x
put_row rows p x = put_changed rows p x

-- Done is to have a moment, and not to be done is to have none.
pub done_time : (e : Entry) (x : Row) (k : ℕ) → ShowsEntry e x k → e.done ≡ true → 0 < x.time k
done_time e x k h d = ltb-true 0 (x.time k) (h.time ∙ d)

pub time_done : (e : Entry) (x : Row) (k : ℕ) → ShowsEntry e x k → 0 < x.time k → e.done ≡ true
time_done e x k h d = sym h.time ∙ lt-ltb 0 (x.time k) d

pub open_time : (e : Entry) (x : Row) (k : ℕ) → ShowsEntry e x k → e.done ≡ false → x.time k ≡ 0
open_time e x k h d = let z : x.time k ≤ 0 = ltb-false 0 (x.time k) (h.time ∙ d) in omega arith

-- Rows that hold the same at a position show the same entry there.
pub record SameAt (x y : Row) (k : ℕ) : Type 0 where
  pub instruction : y.instruction k ≡ x.instruction k
  pub place : y.place k ≡ x.place k
  pub address : y.address k ≡ x.address k
  pub datum : y.datum k ≡ x.datum k
  pub time : y.time k ≡ x.time k
  pub value : y.value k ≡ x.value k
  pub mark : y.mark k ≡ x.mark k

pub shown_same : (e : Entry) (x y : Row) (k : ℕ) → SameAt x y k → ShowsEntry e x k → ShowsEntry e y k
shown_same e x y k h z = record {
  instruction = h.instruction ∙ z.instruction;
  place = h.place ∙ z.place;
  address = h.address ∙ z.address;
  datum = h.datum ∙ z.datum;
  time = ap (ltb 0) h.time ∙ z.time;
  value = h.value ∙ z.value;
  mark = h.mark ∙ z.mark;
}

-- A rule puts an entry into one buffer: what is shown afterwards, if the new row shows that entry and holds what the old one did elsewhere.
module _ (s t : State) (p i n : ℕ) (e : Entry) (put : reached.Put s t p i n e) (w : World) (seen : Seen s w) (x : Row)
    (size : x.size ≡ n) (counter : x.place n ≡ (core_at t p).counter) (here : ShowsEntry e x i)
    (there : (j : ℕ) → j < n → j ≢ i → SameAt (w.rows p) x j) where
  shown_at : (j : ℕ) → j < n → ShowsEntry (entry t p j) x j
  shown_at j l = elim (cases_eq j i) [
    | inl h ↦ subst (λ k. ShowsEntry (entry t p k) x k) (sym h) (subst (λ f. ShowsEntry f x i) (sym put.here) here)
    | inr h ↦ subst (λ f. ShowsEntry f x j) (sym (put.rest j l h)) (shown_same (entry s p j) (w.rows p) x j (there j l h) ((seen.rows p).each j (put.before j l h)))
  ]

  shown_here : Shows (core_at t p) x
  shown_here = record {
    size = size ∙ sym put.size;
    counter = ap x.place put.size ∙ counter;
    each = λ j l. shown_at j (omega (arith, put.size));
  }

  -- Every processor is shown.
  pub rows_shown : (r : ℕ) → Shows (core_at t r) (put_at w.rows p x r)
  rows_shown r = elim (cases_eq r p) [
    | inl h ↦ subst (λ k. Shows (core_at t k) (put_at w.rows p x k)) (sym h) (subst (λ y. Shows (core_at t p) y) (sym (put_here w.rows p x p refl)) shown_here)
    | inr h ↦ subst (λ y. Shows (core_at t r) y) (sym (put_there w.rows p x r h)) (subst (λ c. Shows c (w.rows r)) (sym (put.elsewhere r h)) (seen.rows r))
  ]
