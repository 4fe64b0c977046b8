-- Rules 2, 3 and 4 of a state that a world shows are steps of the world.
use Rattle.std.proofs.Common.{◌≡◌, ℕ, suc, ◌+◌, ◌<◌, ◌≤◌, true, false, ltb, ◌≢◌, length, Some, sym, refl, ap, ◌∙◌, ap₂, inl, inr, arith}
use Rattle.std.proofs.lemmas.Bool.{both_ways, lt-ltb, cases_lt}
use Rattle.instructions.specs.Effects.{arithmetic_result, next_place}
use Rattle.instructions.specs.Kinds.{access, computes, branches, fences, of_type, fence_from, first_operand, second_operand}
use Rattle.instructions.specs.declared.instruction.AccessType.{AccessType}
use Rattle.machine.specs.Fires.{buffer, entry, instruction, Stands, Older, Ready}
use Rattle.machine.specs.State.{Core, State, core_at}
use Rattle.machine.specs.Steps.{changed, core_changed, stays}
use Rattle.machine.specs.Steps as steps
use Rattle.question.specs.Litmus.{Litmus}
use Rattle.rules.specs.Changes.{only}
use Rattle.rules.specs.Entries.{done_with, turned}
use Rattle.rules.specs.declared.change.Change.{Change}
use Rattle.rules.specs.declared.change.Effect.TheVariants.{Local}
use Rattle.rules.specs.declared.entry.Entry.{Entry}
use Rattle.ordering.specs.Constraints.{Depends}
use Rattle.reachable.specs.Places.{place_at}
use Rattle.reachable.specs.Invariant.{Invariant}
use Rattle.reachable.proofs.Exclusive.{computes_no_branch, fences_no_branch, branches_compute_nothing, fences_compute_nothing, computes_no_fence, branches_no_fence}
use Rattle.reachable.proofs.Put as reached
use Rattle.reachable.proofs.Put.{place_within, place_behind}
use Rattle.reachable.proofs.Shapes.{core_here, put_changed, put_whole}
use Rattle.soundness.proofs.KindFacts.{computes_no_access, branch_no_access, fence_no_access, branch_second, fence_operands, type_access}
use Rattle.soundness.proofs.Worlds.{Row, World, known_cells, cell}
use Rattle.soundness.proofs.Moves.{FencesDone, first_value, second_value, Turned, Plain, Reordered, plainly, Step}
use Rattle.soundness.proofs.Seen.{Shows, ShowsEntry, Seen, SameAt, open_time, put_at, put_here, put_there, put_upd, put_row, rows_shown}
use Rattle.soundness.proofs.SeenFetch.{Follows}
use Rattle.soundness.proofs.SeenGuards.{first_shown, second_shown, first_ready, second_ready, absent_first, absent_second, fences_shown}

-- The places of a row are those of the buffer, and behind it the counter.
pub place_shown : (s : State) (p : ℕ) (x : Row) → Shows (core_at s p) x → (k : ℕ) → k ≤ length (buffer s p) → x.place k ≡ place_at s p k
place_shown s p x z k l = elim (cases_lt k (length (buffer s p))) [
  | inl h ↦ (z.each k h).place ∙ sym (place_within s p k h)
  | inr h ↦ (let e : k ≡ length (buffer s p) = omega arith in ap x.place e ∙ z.counter ∙ sym (place_behind s p k h))
]

-- The entry done: all else of it is as it was, but for value and next place.
pub record DoneOf (f e : Entry) : Type 0 where
  pub place : e.place ≡ f.place
  pub instruction : e.instruction ≡ f.instruction
  pub address : e.address ≡ f.address
  pub datum : e.datum ≡ f.datum
  pub mark : e.mark ≡ f.mark
  pub done : e.done ≡ true

module _ (q : Litmus) (s : State) (inv : Invariant q s) (w : World) (seen : Seen s w) (p i : ℕ) (stands : Stands s p i) (waits : (entry s p i).done ≡ false) where
  abbrev x : Row
  x = w.rows p

  abbrev z : Shows (core_at s p) x
  z = seen.rows p

  abbrev l : i < length (buffer s p)
  l = stands.1

  ins_is : x.instruction i ≡ instruction s p i
  ins_is = (z.each i l).instruction

  -- Both operands are ready, the fences are done, and this is no access.
  module _ (e : Entry) (same : DoneOf (entry s p i) e) (quiet : access (instruction s p i) ≡ true → ⊥) (a b : ℕ)
      (first : Ready s p i (first_operand (instruction s p i)) a) (second : Ready s p i (second_operand (instruction s p i)) b)
      (fence : FencesDone x i) (comes_to : computes (instruction s p i) ≡ true → e.value ≡ arithmetic_result (instruction s p i) a b) where
    abbrev T' : ℕ → ℕ
    T' = put_at x.time i w.clock

    abbrev V' : ℕ → ℕ
    V' = put_at x.value i e.value

    depends_done : (j : ℕ) → Depends x.instruction (known_cells (cell x)) j i → 0 < x.time j
    depends_done j (inl f) = first_ready s p x z i l first j f
    depends_done j (inr f) = second_ready s p x z i l second j f

    -- The rule on the row, with what it leaves of size and places.
    plain : (n' : ℕ) (P' : ℕ → ℕ) → (branches (instruction s p i) ≡ true → P' (suc i) ≡ next_place (instruction s p i) (entry s p i).place a) →
        Turned x i n' P' → Plain x i w.clock n' P' T' V'
    plain n' P' next turns = record {
      within = omega (arith, z.size);
      quiet = λ h. quiet (ap access (sym ins_is) ∙ h);
      ready = depends_done;
      fence = fence;
      now = put_upd x.time i w.clock (open_time (entry s p i) x i (z.each i l) waits);
      others = λ j h. put_there x.value i e.value j h;
      comes_to = λ h.
          put_here x.value i e.value i refl
          ∙ comes_to (ap computes (sym ins_is) ∙ h)
          ∙ ap₂ (arithmetic_result (instruction s p i)) (sym (first_shown s p x z i l first)) (sym (second_shown s p x z i l second))
          ∙ ap (λ c. arithmetic_result c (first_value x i) (second_value x i)) (sym ins_is);
      next = λ h.
          next (ap branches (sym ins_is) ∙ h)
          ∙ ap (next_place (instruction s p i) (entry s p i).place) (sym (first_shown s p x z i l first))
          ∙ ap₂ (λ c n. next_place c n (first_value x i)) (sym ins_is) (sym (z.each i l).place);
      turned = turns;
    }

    -- The entry is shown as done now.
    now_shown : (n' : ℕ) (P' : ℕ → ℕ) → P' i ≡ x.place i → ShowsEntry e (plainly x n' P' T' V') i
    now_shown n' P' h = record {
      instruction = ins_is ∙ sym same.instruction;
      place = h ∙ (z.each i l).place ∙ sym same.place;
      address = (z.each i l).address ∙ sym same.address;
      datum = (z.each i l).datum ∙ sym same.datum;
      time = ap (ltb 0) (put_here x.time i w.clock i refl) ∙ lt-ltb 0 w.clock seen.begun ∙ sym same.done;
      value = put_here x.value i e.value i refl;
      mark = (z.each i l).mark ∙ sym same.mark;
    }

    others_same : (n' : ℕ) (P' : ℕ → ℕ) (j : ℕ) → j ≢ i → P' j ≡ x.place j → SameAt x (plainly x n' P' T' V') j
    others_same n' P' j h c = record {
      instruction = refl;
      place = c;
      address = refl;
      datum = refl;
      time = put_there x.time i w.clock j h;
      value = put_there x.value i e.value j h;
      mark = refl;
    }

    -- Nothing goes.
    whole_follows : (branches (instruction s p i) ≡ true → (entry s p i).next ≡ next_place (instruction s p i) (entry s p i).place a) → Follows q w (changed s p i (only e))
    whole_follows next = record {
      world = record { rows = put_at w.rows p x'; memory = w.memory; order = w.order; clock = suc w.clock };
      step = Step.plain p i x.size x.place T' V' (put_row w.rows p x')
          (plain x.size x.place goes (Turned.keeps refl (λ j. refl))) refl (Reordered.whole refl refl) refl;
      seen = record {
        rows = rows_shown s t p i (length (buffer s p)) e put w seen x' z.size counter (now_shown x.size x.place refl)
            (λ j c h. others_same x.size x.place j h refl);
        value = seen.value;
        mark = seen.mark;
        order = seen.order;
        begun = omega arith;
      };
    }
      where
        t : State
        t = changed s p i (only e)

        x' : Row
        x' = plainly x x.size x.place T' V'

        put : reached.Put s t p i (length (buffer s p)) e
        put = put_whole s t p (core_changed (core_at s p) i (only e)) stands.0 refl i e l refl

        counter : x.place (length (buffer s p)) ≡ (core_at t p).counter
        counter = z.counter ∙ sym (ap (λ (c : Core). c.counter) (core_here s t p (core_changed (core_at s p) i (only e)) stands.0 refl))

        goes : branches (instruction s p i) ≡ true → x.place (suc i) ≡ next_place (instruction s p i) (entry s p i).place a
        goes h =
            let k : suc i ≡ i + 1 = omega arith in
            ap x.place k ∙ place_shown s p x z (i + 1) (omega arith) ∙ sym ((inv.chained p).follows i l) ∙ next h

    -- All younger entries go, and the counter is set.
    module _ (c : ℕ) (branch : branches (instruction s p i) ≡ true) (next : c ≡ next_place (instruction s p i) (entry s p i).place a) where
      abbrev ch : Change
      ch = record { entry = e; cut = Some (record { keep = i + 1; counter = c }); effect = Local }

      abbrev P' : ℕ → ℕ
      P' = put_at x.place (i + 1) c

      older_place : (j : ℕ) → j ≤ i → P' j ≡ x.place j
      older_place j h = put_there x.place (i + 1) c j (λ k. omega arith)

      cut_follows : Follows q w (changed s p i ch)
      cut_follows = record {
        world = record { rows = put_at w.rows p x'; memory = w.memory; order = steps.only (stays p (i + 1)) w.order; clock = suc w.clock };
        step = Step.plain p i (i + 1) P' T' V' (put_row w.rows p x')
            (plain (i + 1) P' (λ h. put_here x.place (i + 1) c (suc i) (omega arith) ∙ next) (Turned.cuts (omega arith) (ap branches ins_is ∙ branch) older_place))
            refl (Reordered.shortened refl) refl;
        seen = record {
          rows = rows_shown s t p i (i + 1) e put w seen x' refl counter (now_shown (i + 1) P' (older_place i (omega arith)))
              (λ j b h. others_same (i + 1) P' j h (older_place j (omega arith)));
          value = seen.value;
          mark = seen.mark;
          order = ap (steps.only (stays p (i + 1))) seen.order;
          begun = omega arith;
        };
      }
        where
          t : State
          t = changed s p i ch

          x' : Row
          x' = plainly x (i + 1) P' T' V'

          put : reached.Put s t p i (i + 1) e
          put = put_changed s t p (core_changed (core_at s p) i ch) stands.0 refl i (i + 1) e (omega arith) (omega arith) refl

          counter : P' (i + 1) ≡ (core_at t p).counter
          counter = put_here x.place (i + 1) c (i + 1) refl ∙ sym (ap (λ (y : Core). y.counter) (core_here s t p (core_changed (core_at s p) i ch) stands.0 refl))

  -- What is neither a fence nor an access waits for no fence.
  no_fences : ((X : AccessType) → fence_from X (instruction s p i) ≡ false) → (access (instruction s p i) ≡ true → ⊥) → FencesDone x i
  no_fences from quiet = fences_shown s p x z i l
      (λ X h. absurd (both_ways (fence_from X (instruction s p i)) (from X) h)) (λ Y h. absurd (quiet (type_access Y (instruction s p i) h)))

  done_of : (v : ℕ) → DoneOf (entry s p i) (done_with (entry s p i) v)
  done_of v = record { place = refl; instruction = refl; address = refl; datum = refl; mark = refl; done = refl }

  turned_of : (n : ℕ) → DoneOf (entry s p i) (turned (entry s p i) n)
  turned_of n = record { place = refl; instruction = refl; address = refl; datum = refl; mark = refl; done = refl }

  -- Rule 2.
  pub arithmetic_follows : (a b : ℕ) → computes (instruction s p i) ≡ true →
      Ready s p i (first_operand (instruction s p i)) a → Ready s p i (second_operand (instruction s p i)) b →
      Follows q w (changed s p i (only (done_with (entry s p i) (arithmetic_result (instruction s p i) a b))))
  arithmetic_follows a b h u v =
      whole_follows (done_with (entry s p i) (arithmetic_result (instruction s p i) a b)) (done_of (arithmetic_result (instruction s p i) a b)) quiet a b u v
      (no_fences (λ X. computes_no_fence X (instruction s p i) h) quiet) (λ k. refl)
      (λ k. absurd (both_ways (branches (instruction s p i)) (computes_no_branch (instruction s p i) h) k))
    where
      quiet : access (instruction s p i) ≡ true → ⊥
      quiet = computes_no_access (instruction s p i) h

  -- Rule 3.
  module _ (a : ℕ) (h : branches (instruction s p i) ≡ true) (u : Ready s p i (first_operand (instruction s p i)) a) where
    abbrev true_place : ℕ
    true_place = next_place (instruction s p i) (entry s p i).place a

    branch_fences : FencesDone x i
    branch_fences = no_fences (λ X. branches_no_fence X (instruction s p i) h) (branch_no_access (instruction s p i) h)

    no_result : (v : ℕ) → computes (instruction s p i) ≡ true → v ≡ arithmetic_result (instruction s p i) a 0
    no_result v k = absurd (both_ways (computes (instruction s p i)) (branches_compute_nothing (instruction s p i) h) k)

    pub guessed_follows : (entry s p i).next ≡ true_place → Follows q w (changed s p i (only (turned (entry s p i) true_place)))
    guessed_follows g = whole_follows (turned (entry s p i) true_place) (turned_of true_place) (branch_no_access (instruction s p i) h) a 0 u
        (absent_second s p x z i l (branch_second (instruction s p i) h)) branch_fences (no_result (entry s p i).value) (λ k. g)

    pub otherwise_follows : Follows q w (changed s p i (record {
      entry = turned (entry s p i) true_place;
      cut = Some (record { keep = i + 1; counter = true_place });
      effect = Local;
    }))
    otherwise_follows = cut_follows (turned (entry s p i) true_place) (turned_of true_place) (branch_no_access (instruction s p i) h) a 0 u
        (absent_second s p x z i l (branch_second (instruction s p i) h)) branch_fences (no_result (entry s p i).value) true_place h refl

  -- Rule 4.
  pub fence_follows : fences (instruction s p i) ≡ true →
      ((X : AccessType) → fence_from X (instruction s p i) ≡ true → Older s p i (λ e. of_type X e.instruction ≡ true → e.done ≡ true)) →
      Follows q w (changed s p i (only (done_with (entry s p i) (entry s p i).value)))
  fence_follows h g =
      whole_follows (done_with (entry s p i) (entry s p i).value) (done_of (entry s p i).value) (fence_no_access (instruction s p i) h) 0 0
      (absent_first s p x z i l (fence_operands (instruction s p i) h).0) (absent_second s p x z i l (fence_operands (instruction s p i) h).1)
      (fences_shown s p x z i l g (λ Y k. absurd (fence_no_access (instruction s p i) h (type_access Y (instruction s p i) k))))
      (λ k. absurd (both_ways (computes (instruction s p i)) (fences_compute_nothing (instruction s p i) h) k))
      (λ k. absurd (both_ways (branches (instruction s p i)) (fences_no_branch (instruction s p i) h) k))
