-- What a rule makes of a state that a world shows: the world makes a step and shows the state afterwards. Rule 1.
use Rattle.std.proofs.Common.{◌≡◌, ℕ, suc, ◌+◌, ◌<◌, ◌≤◌, Bool, cond, ltb, length, None, sym, refl, ap, ◌∙◌, ap₂, arith}
use Rattle.std.proofs.lemmas.Bool.{lt-ltb, le-ltb, cond-true, cond-false}
use Rattle.instructions.specs.Effects.{next_place}
use Rattle.instructions.specs.Kinds.{branches}
use Rattle.instructions.specs.declared.instruction.Instruction.{Instruction}
use Rattle.machine.specs.Fires.{buffer, fetched_entry}
use Rattle.machine.specs.State.{Core, State, core_at}
use Rattle.machine.specs.Steps.{with_core, core_fetched}
use Rattle.memory.specs.declared.cell.Mark.TheVariants.{Start}
use Rattle.question.specs.Litmus.{Litmus, code_at, instruction_at}
use Rattle.rules.specs.declared.entry.Entry.{Entry}
use Rattle.reachable.proofs.Put as reached
use Rattle.reachable.proofs.Shapes.{core_here, put_fetched}
use Rattle.soundness.proofs.KindFacts.{guess_is_next}
use Rattle.soundness.proofs.Worlds.{Row, World}
use Rattle.soundness.proofs.Moves.{Fetched, Step}
use Rattle.soundness.proofs.Seen.{ShowsEntry, Seen, SameAt, put_at, put_here, put_there, put_row, rows_shown}

-- The instructions of the question by processor and place, and where each processor's code ends.
abbrev pub code_of : Litmus → ℕ → ℕ → Instruction
code_of q p place = instruction_at (code_at q p) place

abbrev pub end_of : Litmus → ℕ → ℕ
end_of q p = length (code_at q p)

-- The world makes a step and shows the state.
pub record Follows (q : Litmus) (w : World) (t : State) : Type 0 where
  pub world : World
  pub step : Step (code_of q) (end_of q) w world
  pub seen : Seen t world

module _ (q : Litmus) (s : State) (w : World) (seen : Seen s w) (p : ℕ) (here : p < length s.cores)
    (inside : (core_at s p).counter < length (code_at q p)) (room : length (buffer s p) < 16) (taken : Bool) where
  abbrev x : Row
  x = w.rows p

  abbrev e : Entry
  e = fetched_entry q s p taken

  abbrev t : State
  t = with_core s p (core_fetched (core_at s p) e)

  put : reached.Put s t p (length (buffer s p)) (length (buffer s p) + 1) e
  put = put_fetched s t p (core_fetched (core_at s p) e) here refl e room refl

  size_is : x.size ≡ length (buffer s p)
  size_is = (seen.rows p).size

  counter_is : x.place x.size ≡ (core_at s p).counter
  counter_is = ap x.place size_is ∙ (seen.rows p).counter

  abbrev x' : Row
  x' = record {
    size = suc x.size;
    instruction = put_at x.instruction x.size e.instruction;
    place = put_at x.place (suc x.size) e.next;
    address = put_at x.address x.size None;
    datum = put_at x.datum x.size None;
    time = λ j. cond (ltb j x.size) (x.time j) 0;
    value = put_at x.value x.size 0;
    mark = put_at x.mark x.size Start;
  }

  older_same : (j : ℕ) → j < x.size → SameAt x x' j
  older_same j l = record {
    instruction = put_there x.instruction x.size e.instruction j (λ h. omega arith);
    place = put_there x.place (suc x.size) e.next j (λ h. omega arith);
    address = put_there x.address x.size None j (λ h. omega arith);
    datum = put_there x.datum x.size None j (λ h. omega arith);
    time = cond-true (ltb j x.size) (x.time j) 0 (lt-ltb j x.size l);
    value = put_there x.value x.size 0 j (λ h. omega arith);
    mark = put_there x.mark x.size Start j (λ h. omega arith);
  }

  no_time : (j : ℕ) → x.size ≤ j → x'.time j ≡ 0
  no_time j l = cond-false (ltb j x.size) (x.time j) 0 (le-ltb j x.size l)

  -- The new entry is shown.
  new_shown : ShowsEntry e x' (length (buffer s p))
  new_shown = record {
    instruction = put_here x.instruction x.size e.instruction _ (sym size_is);
    place = put_there x.place (suc x.size) e.next (length (buffer s p)) (λ h. omega (arith, size_is)) ∙ (seen.rows p).counter;
    address = put_here x.address x.size None _ (sym size_is);
    datum = put_here x.datum x.size None _ (sym size_is);
    time = ap (ltb 0) (no_time (length (buffer s p)) (omega (arith, size_is)));
    value = put_here x.value x.size 0 _ (sym size_is);
    mark = put_here x.mark x.size Start _ (sym size_is);
  }

  counter_put : x'.place (length (buffer s p) + 1) ≡ (core_at t p).counter
  counter_put =
      put_here x.place (suc x.size) e.next (length (buffer s p) + 1) (omega (arith, size_is))
      ∙ sym (ap (λ (c : Core). c.counter) (core_here s t p (core_fetched (core_at s p) e) here refl))

  fetched : Fetched (code_of q p) (end_of q p) x x'
  fetched = record {
    size = refl;
    instruction = λ j l. (older_same j l).instruction;
    place = λ j l. put_there x.place (suc x.size) e.next j (λ h. omega arith);
    address = λ j l. (older_same j l).address;
    datum = λ j l. (older_same j l).datum;
    time = λ j l. (older_same j l).time;
    value = λ j l. (older_same j l).value;
    mark = λ j l. (older_same j l).mark;
    rest = no_time;
    no_address = put_here x.address x.size None x.size refl;
    no_datum = put_here x.datum x.size None x.size refl;
    inside = rw counter_is inside;
    new = new_is ∙ ap (code_of q p) (sym counter_is);
    next = λ h v.
        put_here x.place (suc x.size) e.next (suc x.size) refl
        ∙ guess_is_next e.instruction (core_at s p).counter v taken (ap branches (sym new_is) ∙ h)
        ∙ ap₂ (λ c n. next_place c n v) (sym new_is) (sym counter_is);
  }
    where
      new_is : x'.instruction x.size ≡ e.instruction
      new_is = put_here x.instruction x.size e.instruction x.size refl

  -- Rule 1.
  pub fetch_follows : Follows q w t
  fetch_follows = record {
    world = record { rows = put_at w.rows p x'; memory = w.memory; order = w.order; clock = w.clock };
    step = Step.fetch p x' (put_row w.rows p x') fetched refl refl refl;
    seen = record {
      rows = rows_shown s t p (length (buffer s p)) (length (buffer s p) + 1) e put w seen x'
          (omega (arith, size_is)) counter_put new_shown (λ j l h. older_same j (omega (arith, size_is)));
      value = seen.value;
      mark = seen.mark;
      order = seen.order;
      begun = seen.begun;
    };
  }
