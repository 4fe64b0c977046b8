-- Rule 8 of a state that a world shows is a step of the world, whether entries go or not.
use Rattle.std.proofs.Common.{◌≡◌, ℕ, suc, ◌%◌, ◌<◌, true, false, ◌≢◌, length, is_some, Some, Option, sym, refl, ap, ◌∙◌, ap₂, arith}
use Rattle.instructions.specs.Effects.{address_sum}
use Rattle.instructions.specs.Kinds.{loads, access, first_operand}
use Rattle.machine.specs.Fires.{buffer, entry, instruction, Stands, Ready, FirstYounger}
use Rattle.machine.specs.State.{Core, State, core_at}
use Rattle.machine.specs.Steps.{changed, core_changed, stays}
use Rattle.machine.specs.Steps as steps
use Rattle.question.specs.Litmus.{Litmus}
use Rattle.rules.specs.Changes.{only}
use Rattle.rules.specs.Entries as entries
use Rattle.rules.specs.declared.change.Change.{Change}
use Rattle.rules.specs.declared.change.Effect.TheVariants.{Local}
use Rattle.rules.specs.declared.entry.Entry.{Entry}
use Rattle.reachable.proofs.Put as reached
use Rattle.reachable.proofs.Shapes as shapes
use Rattle.soundness.proofs.Worlds.{Row, World, celled, cell}
use Rattle.soundness.proofs.Moves.{FirstTo, Cut, Address, Reordered, addressed, Step}
use Rattle.soundness.proofs.Seen.{Shows, ShowsEntry, Seen, SameAt, done_time, time_done, put_at, put_here, put_there, put_changed, put_row, rows_shown}
use Rattle.soundness.proofs.SeenFetch.{Follows}
use Rattle.soundness.proofs.SeenGuards.{celled_same, same_celled, none_there, first_shown, first_ready}

module _ (q : Litmus) (s : State) (w : World) (seen : Seen s w) (p i : ℕ) (stands : Stands s p i) (v : ℕ)
    (h : access (instruction s p i) ≡ true) (wants : is_some (entry s p i).address ≡ false) (u : Ready s p i (first_operand (instruction s p i)) v) where
  abbrev x : Row
  x = w.rows p

  abbrev z : Shows (core_at s p) x
  z = seen.rows p

  abbrev l : i < length (buffer s p)
  l = stands.1

  abbrev a : ℕ
  a = address_sum (instruction s p i) v

  abbrev e : Entry
  e = entries.addressed (entry s p i) a

  abbrev A' : ℕ → Option ℕ
  A' = put_at x.address i (Some a)

  ins_is : x.instruction i ≡ instruction s p i
  ins_is = (z.each i l).instruction

  addressing : Address x i a A'
  addressing = record {
    within = omega (arith, z.size);
    is = ap access ins_is ∙ h;
    wanting = (z.each i l).address ∙ none_there (entry s p i).address wants;
    ready = first_ready s p x z i l u;
    comes_to = ap₂ address_sum (sym ins_is) (sym (first_shown s p x z i l u));
    now = put_changed x.address i (Some a);
  }

  now_shown : (n : ℕ) → ShowsEntry e (addressed x n A') i
  now_shown n = record {
    instruction = ins_is;
    place = (z.each i l).place;
    address = put_here x.address i (Some a) i refl;
    datum = (z.each i l).datum;
    time = (z.each i l).time;
    value = (z.each i l).value;
    mark = (z.each i l).mark;
  }

  others_same : (n j : ℕ) → j ≢ i → SameAt x (addressed x n A') j
  others_same n j k = record { instruction = refl; place = refl; address = put_there x.address i (Some a) j k; datum = refl; time = refl; value = refl; mark = refl }

  -- An access to the cell, in the row and in the buffer.
  cell_to : (k : ℕ) → k < length (buffer s p) → cell x k ≡ celled (entry s p k).address
  cell_to k b = ap celled (z.each k b).address

  first_from : (m : ℕ) → FirstTo x (suc (a % 16)) i m → FirstYounger s p i a m
  first_from m f =
      let b : m < length (buffer s p) = omega (arith, z.size, f.within) in
      record {
        younger = f.after;
        within = b;
        accesses = ap access (sym (z.each m b).instruction) ∙ f.is;
        same = celled_same a (entry s p m).address (sym (cell_to m b) ∙ f.same);
        none_between = λ k c d acc same. (let n : k < length (buffer s p) = omega arith in
            f.none k c d (ap access (z.each k n).instruction ∙ acc) (cell_to k n ∙ same_celled a (entry s p k).address same));
      }

  first_to : (m : ℕ) → FirstYounger s p i a m → FirstTo x (suc (a % 16)) i m
  first_to m f =
      let b : m < length (buffer s p) = f.within in
      record {
        after = f.younger;
        within = omega (arith, z.size);
        is = ap access (z.each m b).instruction ∙ f.accesses;
        same = cell_to m b ∙ same_celled a (entry s p m).address f.same;
        none = λ k c d acc same. (let n : k < length (buffer s p) = omega arith in
            f.none_between k c d (ap access (sym (z.each k n).instruction) ∙ acc) (celled_same a (entry s p k).address (sym (cell_to k n) ∙ same)));
      }

  -- Nothing goes.
  pub address_follows : ((m : ℕ) → FirstYounger s p i a m → loads (instruction s p m) ≡ true → (entry s p m).done ≡ true → ⊥) → Follows q w (changed s p i (only e))
  address_follows none = record {
    world = record { rows = put_at w.rows p x'; memory = w.memory; order = w.order; clock = w.clock };
    step = Step.address p i a x.size A' (put_row w.rows p x') addressing (Cut.keeps refl no_cut) refl (Reordered.whole refl refl) refl;
    seen = record {
      rows = rows_shown s t p i (length (buffer s p)) e put w seen x' z.size counter (now_shown x.size) (λ j b k. others_same x.size j k);
      value = seen.value;
      mark = seen.mark;
      order = seen.order;
      begun = seen.begun;
    };
  }
    where
      t : State
      t = changed s p i (only e)

      x' : Row
      x' = addressed x x.size A'

      put : reached.Put s t p i (length (buffer s p)) e
      put = shapes.put_whole s t p (core_changed (core_at s p) i (only e)) stands.0 refl i e l refl

      counter : x.place (length (buffer s p)) ≡ (core_at t p).counter
      counter = z.counter ∙ sym (ap (λ (c : Core). c.counter) (shapes.core_here s t p (core_changed (core_at s p) i (only e)) stands.0 refl))

      no_cut : (m : ℕ) → FirstTo x (suc (a % 16)) i m → loads (x.instruction m) ≡ true → 0 < x.time m → ⊥
      no_cut m f ld d =
          let g = first_from m f in
          let b : m < length (buffer s p) = g.within in
          none m g (ap loads (sym (z.each m b).instruction) ∙ ld) (time_done (entry s p m) x m (z.each m b) d)

  -- The first younger access to the cell, a done load, and all younger entries go.
  module _ (m : ℕ) (first : FirstYounger s p i a m) (ld : loads (instruction s p m) ≡ true) (d : (entry s p m).done ≡ true) where
    abbrev ch : Change
    ch = record { entry = e; cut = Some (record { keep = m; counter = (entry s p m).place }); effect = Local }

    pub removing_follows : Follows q w (changed s p i ch)
    removing_follows = record {
      world = record { rows = put_at w.rows p x'; memory = w.memory; order = steps.only (stays p m) w.order; clock = w.clock };
      step = Step.address p i a m A' (put_row w.rows p x') addressing
          (Cut.cuts (first_to m first) (ap loads (z.each m first.within).instruction ∙ ld) (done_time (entry s p m) x m (z.each m first.within) d))
          refl (Reordered.shortened refl) refl;
      seen = record {
        rows = rows_shown s t p i m e put w seen x' refl counter (now_shown m) (λ j b k. others_same m j k);
        value = seen.value;
        mark = seen.mark;
        order = ap (steps.only (stays p m)) seen.order;
        begun = seen.begun;
      };
    }
      where
        t : State
        t = changed s p i ch

        x' : Row
        x' = addressed x m A'

        put : reached.Put s t p i m e
        put = shapes.put_changed s t p (core_changed (core_at s p) i ch) stands.0 refl i m e first.younger (omega (arith, first.within)) refl

        counter : x.place m ≡ (core_at t p).counter
        counter = (z.each m first.within).place ∙ sym (ap (λ (c : Core). c.counter) (shapes.core_here s t p (core_changed (core_at s p) i ch) stands.0 refl))
