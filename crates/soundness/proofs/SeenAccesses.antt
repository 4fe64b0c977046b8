-- Rules 5, 6 and 7 of a state that a world shows are steps of the world.
use Rattle.std.proofs.Common.{◌≡◌, ℕ, suc, ◌%◌, ◌<◌, ◌≤◌, true, false, ltb, ◌≢◌, [], ◌∷◌, ◌++◌, length, get_or, is_some, Some, None, Option, sym, refl, ap, ◌∙◌, subst, ap₂, inl, inr, arith}
use Rattle.std.proofs.lemmas.List.{get_or-set_same, get_or-set_other}
use Rattle.std.proofs.lemmas.Bool.{lt-ltb, cases_Bool}
use Rattle.instructions.specs.Effects.{data_sum}
use Rattle.instructions.specs.Kinds.{loads, stores, access, branches, of_type, fence_from, fence_to, second_operand}
use Rattle.instructions.specs.declared.instruction.AccessType.{AccessType}
use Rattle.instructions.specs.declared.instruction.AccessType.TheVariants as access_type
use Rattle.instructions.specs.declared.instruction.Instruction.{Instruction}
use Rattle.machine.specs.Fires.{buffer, entry, instruction, Stands, Older, Ready, OpenTo, NearestOpen}
use Rattle.machine.specs.State.{Core, State, core_at}
use Rattle.machine.specs.Steps.{changed, core_changed}
use Rattle.memory.specs.Cells.{cell_at, zero_cell}
use Rattle.memory.specs.declared.cell.Cell.{Cell}
use Rattle.memory.specs.declared.cell.Mark.{Mark}
use Rattle.memory.specs.declared.cell.Mark.TheVariants as marks
use Rattle.question.specs.Litmus.{Litmus}
use Rattle.rules.specs.Changes.{only, load_change}
use Rattle.rules.specs.Entries as entries
use Rattle.rules.specs.declared.change.Change.{Change}
use Rattle.rules.specs.declared.change.Effect.{Effect}
use Rattle.rules.specs.declared.change.Effect.TheVariants.{Local, Loaded, Stored}
use Rattle.rules.specs.declared.entry.Entry.{Entry}
use Rattle.reachable.specs.Checked.{Checked}
use Rattle.reachable.specs.Invariant.{Invariant}
use Rattle.reachable.specs.Order.{event}
use Rattle.reachable.proofs.Put as reached
use Rattle.reachable.proofs.Runs.{order_never_cut}
use Rattle.reachable.proofs.Shapes.{core_here, put_whole}
use Rattle.soundness.proofs.KindFacts.{load_access, store_access, load_no_store, fence_no_access, fence_from_fences, load_second}
use Rattle.soundness.proofs.Times.{celled_some, coded_some}
use Rattle.soundness.proofs.Worlds.{Row, Memory, World, celled, cell, word}
use Rattle.soundness.proofs.Moves.{FencesDone, Store, Load, OlderDone, Given, Written, loaded, supplied, stored, Step}
use Rattle.soundness.proofs.Seen.{Shows, ShowsEntry, Seen, SameAt, done_time, open_time, put_at, put_here, put_there, put_changed, put_upd, put_row, rows_shown}
use Rattle.soundness.proofs.SeenFetch.{Follows}
use Rattle.soundness.proofs.SeenGuards.{celled_same, same_celled, some_celled, none_there, second_shown, second_ready, absent_second, older_shown, fences_shown}

-- An access waits for no fence as a fence does.
access_no_from : (c : Instruction) (X : AccessType) → access c ≡ true → fence_from X c ≡ true → ⊥
access_no_from c X a f = fence_no_access c (fence_from_fences X c f) a

module _ (q : Litmus) (checked : Checked q) (s : State) (inv : Invariant q s) (w : World) (seen : Seen s w) (p i : ℕ) (stands : Stands s p i) where
  abbrev x : Row
  x = w.rows p

  abbrev z : Shows (core_at s p) x
  z = seen.rows p

  abbrev l : i < length (buffer s p)
  l = stands.1

  ins_is : x.instruction i ≡ instruction s p i
  ins_is = (z.each i l).instruction

  -- What the entry at i is afterwards, where nothing goes.
  module _ (e : Entry) (f : Effect) where
    abbrev change : Change
    change = record { entry = e; cut = None; effect = f }

    abbrev after : State
    after = changed s p i change

    put_after : reached.Put s after p i (length (buffer s p)) e
    put_after = put_whole s after p (core_changed (core_at s p) i change) stands.0 refl i e l refl

    counter_after : x.place (length (buffer s p)) ≡ (core_at after p).counter
    counter_after = z.counter ∙ sym (ap (λ (c : Core). c.counter) (core_here s after p (core_changed (core_at s p) i change) stands.0 refl))

    rows_after : (x' : Row) → x'.size ≡ x.size → x'.place (length (buffer s p)) ≡ x.place (length (buffer s p)) →
        ShowsEntry e x' i → ((j : ℕ) → j ≢ i → SameAt x x' j) → (r : ℕ) → Shows (core_at after r) (put_at w.rows p x' r)
    rows_after x' size place here there =
        rows_shown s after p i (length (buffer s p)) e put_after w seen x' (size ∙ z.size) (place ∙ counter_after) here (λ j b h. there j h)

  -- Older accesses to the cell that are not done, by the row.
  older_cell : (a : ℕ) → cell x i ≡ suc (a % 16) → (m : ℕ) → ((j : ℕ) → m ≤ j → j < i → OpenTo a (entry s p j) → ⊥) → OlderDone access x m i
  older_cell a c m h j b k acc same =
      let n : j < length (buffer s p) = omega arith in
      elim (cases_Bool (entry s p j).done) [
        | inl d ↦ done_time (entry s p j) x j (z.each j n) d
        | inr d ↦ absurd (h j b k (
          ap access (sym (z.each j n).instruction) ∙ acc,
          d,
          celled_same a (entry s p j).address (ap celled (sym (z.each j n).address) ∙ same ∙ c),
        ))
      ]

  -- Rule 6.
  pub data_follows : (y : ℕ) → stores (instruction s p i) ≡ true → is_some (entry s p i).datum ≡ false →
      Ready s p i (second_operand (instruction s p i)) y → Follows q w (changed s p i (only (entries.supplied (entry s p i) (data_sum (instruction s p i) y))))
  data_follows y h wants u = record {
    world = record { rows = put_at w.rows p x'; memory = w.memory; order = w.order; clock = w.clock };
    step = Step.datum p i d D' (put_row w.rows p x') (record {
      within = omega (arith, z.size);
      is = ap stores ins_is ∙ h;
      wanting = (z.each i l).datum ∙ none_there (entry s p i).datum wants;
      ready = second_ready s p x z i l u;
      comes_to = ap₂ data_sum (sym ins_is) (sym (second_shown s p x z i l u));
      now = put_changed x.datum i (Some d);
    }) refl refl refl;
    seen = record {
      rows = rows_after (entries.supplied (entry s p i) d) Local x' refl refl (record {
        instruction = ins_is;
        place = (z.each i l).place;
        address = (z.each i l).address;
        datum = put_here x.datum i (Some d) i refl;
        time = (z.each i l).time;
        value = (z.each i l).value;
        mark = (z.each i l).mark;
      }) (λ j n. record { instruction = refl; place = refl; address = refl; datum = put_there x.datum i (Some d) j n; time = refl; value = refl; mark = refl });
      value = seen.value;
      mark = seen.mark;
      order = seen.order;
      begun = seen.begun;
    };
  }
    where
      d : ℕ
      d = data_sum (instruction s p i) y

      D' : ℕ → Option ℕ
      D' = put_at x.datum i (Some d)

      x' : Row
      x' = supplied x D'

  -- An access is done now.
  module _ (waits : (entry s p i).done ≡ false) (a : ℕ) (located : (entry s p i).address ≡ Some a) where
    abbrev T' : ℕ → ℕ
    T' = put_at x.time i w.clock

    cell_is : cell x i ≡ suc (a % 16)
    cell_is = celled_some (x.address i) a ((z.each i l).address ∙ located)

    time_now : ltb 0 (T' i) ≡ true
    time_now = ap (ltb 0) (put_here x.time i w.clock i refl) ∙ lt-ltb 0 w.clock seen.begun

    order_joined : access (instruction s p i) ≡ true → (f : Effect) (e : Entry) → (after e f).order ≡ (after e Loaded).order → w.order ++ event p i ∷ [] ≡ (after e f).order
    order_joined h f e same = ap (λ o. o ++ event p i ∷ []) seen.order ∙ sym (same ∙ order_never_cut q s checked inv p i l h waits)

    -- Rule 5, from wherever.
    module _ (h : loads (instruction s p i) ≡ true) (waited : Older s p i (λ e. fence_to access_type.Load e.instruction ≡ true → e.done ≡ true)) where
      load_fences : FencesDone x i
      load_fences = fences_shown s p x z i l (λ X k. absurd (access_no_from (instruction s p i) X (load_access (instruction s p i) h) k)) to
        where
          to : (Y : AccessType) → of_type Y (instruction s p i) ≡ true → Older s p i (λ e. fence_to Y e.instruction ≡ true → e.done ≡ true)
          to access_type.Load k = waited
          to access_type.Store k = absurd (load_no_store (instruction s p i) h k)

      loading : Load x i w.clock T'
      loading = record {
        within = omega (arith, z.size);
        is = ap loads ins_is ∙ h;
        plain = λ k. load_no_store (instruction s p i) h (ap stores (sym ins_is) ∙ k);
        second = second_ready s p x z i l (absent_second s p x z i l (load_second (instruction s p i) h));
        known = omega (arith, cell_is);
        fence = load_fences;
        now = put_upd x.time i w.clock (open_time (entry s p i) x i (z.each i l) waits);
      }

      load_follows : (v : ℕ) (m : Mark) → Given access x w.memory p i v m → Follows q w (changed s p i (load_change (entry s p i) v m))
      load_follows v m given = record {
        world = record { rows = put_at w.rows p x'; memory = w.memory; order = w.order ++ event p i ∷ []; clock = suc w.clock };
        step = Step.load p i T' V' M' (put_row w.rows p x') loading (record {
          given = subst (λ k. Given access x w.memory p i k (M' i)) (sym v_is) (subst (λ k. Given access x w.memory p i v k) (sym m_is) given);
          others = λ j n. (put_there x.value i v j n, put_there x.mark i m j n);
        }) refl refl refl;
        seen = record {
          rows = rows_after (entries.loaded (entry s p i) v m) Loaded x' refl refl (record {
            instruction = ins_is;
            place = (z.each i l).place;
            address = (z.each i l).address;
            datum = (z.each i l).datum;
            time = time_now;
            value = v_is;
            mark = m_is;
          }) (λ j n. record { instruction = refl; place = refl; address = refl; datum = refl; time = put_there x.time i w.clock j n; value = put_there x.value i v j n; mark = put_there x.mark i m j n });
          value = seen.value;
          mark = seen.mark;
          order = order_joined (load_access (instruction s p i) h) Loaded (entries.loaded (entry s p i) v m) refl;
          begun = omega arith;
        };
      }
        where
          V' : ℕ → ℕ
          V' = put_at x.value i v

          M' : ℕ → Mark
          M' = put_at x.mark i m

          x' : Row
          x' = loaded x T' V' M'

          v_is : V' i ≡ v
          v_is = put_here x.value i v i refl

          m_is : M' i ≡ m
          m_is = put_here x.mark i m i refl

      -- From the memory.
      pub memory_follows : Older s p i (λ e. OpenTo a e → ⊥) →
          Follows q w (changed s p i (load_change (entry s p i) (cell_at s.cells a).value (cell_at s.cells a).mark))
      memory_follows none = load_follows _ _
          (Given.memory (a % 16) cell_is (older_cell a cell_is 0 (λ j b k. none j k)) (sym (seen.value (a % 16))) (sym (seen.mark (a % 16))))

      -- From an older store.
      pub forwarded_follows : (j v : ℕ) → NearestOpen s p i a j → stores (instruction s p j) ≡ true → (entry s p j).datum ≡ Some v →
          Follows q w (changed s p i (load_change (entry s p i) v (marks.Store p j)))
      forwarded_follows j v near st d =
          let n : j < length (buffer s p) = omega (arith, near.older) in
          load_follows v (marks.Store p j) (Given.bypass j near.older
          (ap stores (z.each j n).instruction ∙ st)
          (λ k. load_no_store (instruction s p j) (ap loads (sym (z.each j n).instruction) ∙ k) st)
          (ap celled (z.each j n).address ∙ same_celled a (entry s p j).address near.open_to_cell.2 ∙ sym cell_is)
          (open_time (entry s p j) x j (z.each j n) near.open_to_cell.1)
          (coded_some (x.datum j) v ((z.each j n).datum ∙ d))
          (older_cell a cell_is (suc j) (λ k b c. near.none_between k (omega arith) c)) refl)

    -- Rule 7.
    module _ (d : ℕ) (h : stores (instruction s p i) ≡ true) (given : (entry s p i).datum ≡ Some d)
        (older_branches : Older s p i (λ e. branches e.instruction ≡ true → e.done ≡ true))
        (older_addresses : Older s p i (λ e. access e.instruction ≡ true → is_some e.address ≡ true))
        (same_done : Older s p i (λ e. OpenTo a e → ⊥))
        (waited : Older s p i (λ e. fence_to access_type.Store e.instruction ≡ true → e.done ≡ true)) where
      abbrev e : Entry
      e = entries.done_with (entry s p i) (entry s p i).value

      abbrev new : Cell
      new = record { value = d; mark = marks.Store p i }

      abbrev t : State
      t = after e (Stored a new)

      store_fences : FencesDone x i
      store_fences = fences_shown s p x z i l (λ X k. absurd (access_no_from (instruction s p i) X (store_access (instruction s p i) h) k)) to
        where
          to : (Y : AccessType) → of_type Y (instruction s p i) ≡ true → Older s p i (λ o. fence_to Y o.instruction ≡ true → o.done ≡ true)
          to access_type.Load k = absurd (load_no_store (instruction s p i) k h)
          to access_type.Store k = waited

      word_is : word x i ≡ suc d
      word_is = coded_some (x.datum i) d ((z.each i l).datum ∙ given)

      storing : Store x i w.clock T'
      storing = record {
        within = omega (arith, z.size);
        is = ap stores ins_is ∙ h;
        plain = λ k. load_no_store (instruction s p i) (ap loads (sym ins_is) ∙ k) h;
        known = omega (arith, cell_is);
        given = omega (arith, word_is);
        branch = older_shown s p x z i l branches older_branches;
        located = λ j b k. (let n : j < length (buffer s p) = omega arith in
            some_celled (x.address j) (ap is_some (z.each j n).address ∙ older_addresses j b (ap access (sym (z.each j n).instruction) ∙ k)));
        same = λ j b k c. older_cell a cell_is 0 (λ m y u. same_done m u) j (omega arith) b k c;
        fence = store_fences;
        now = put_upd x.time i w.clock (open_time (entry s p i) x i (z.each i l) waits);
      }

      abbrev μ' : Memory
      μ' = record { value = λ b. (get_or t.cells b zero_cell).value; mark = λ b. (get_or t.cells b zero_cell).mark }

      cell_here : (b : ℕ) → cell x i ≡ suc b → get_or t.cells b zero_cell ≡ new
      cell_here b c =
          let same : b ≡ a % 16 = omega (arith, cell_is) in
          let few : a % 16 < length s.cells = omega (arith, inv.sixteen) in
          ap (λ k. get_or t.cells k zero_cell) same ∙ get_or-set_same s.cells (a % 16) new zero_cell few

      cell_there : (b : ℕ) → (cell x i ≡ suc b → ⊥) → get_or t.cells b zero_cell ≡ get_or s.cells b zero_cell
      cell_there b c = get_or-set_other s.cells (a % 16) b new zero_cell (λ k. c (cell_is ∙ ap suc (sym k)))

      written : Written x w.memory μ' p i
      written = record {
        here = λ b c. (ap (λ (y : Cell). y.mark) (cell_here b c), word_is ∙ ap (λ (y : Cell). suc y.value) (sym (cell_here b c)));
        others = λ b c. (ap (λ (y : Cell). y.mark) (cell_there b c) ∙ sym (seen.mark b), ap (λ (y : Cell). y.value) (cell_there b c) ∙ sym (seen.value b));
      }

      pub store_follows : Follows q w (changed s p i (record { entry = e; cut = None; effect = Stored a new }))
      store_follows = record {
        world = record { rows = put_at w.rows p x'; memory = μ'; order = w.order ++ event p i ∷ []; clock = suc w.clock };
        step = Step.store p i T' (put_row w.rows p x') storing written refl refl;
        seen = record {
          rows = rows_after e (Stored a new) x' refl refl (record {
            instruction = ins_is;
            place = (z.each i l).place;
            address = (z.each i l).address;
            datum = (z.each i l).datum;
            time = time_now;
            value = (z.each i l).value;
            mark = (z.each i l).mark;
          }) (λ j n. record { instruction = refl; place = refl; address = refl; datum = refl; time = put_there x.time i w.clock j n; value = refl; mark = refl });
          value = λ b. refl;
          mark = λ b. refl;
          order = order_joined (store_access (instruction s p i) h) (Stored a new) e refl;
          begun = omega arith;
        };
      }
        where
          x' : Row
          x' = stored x T'
