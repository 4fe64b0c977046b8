-- Each rule, as it fires, does what all rules have in common.
use Rattle.std.proofs.Common.{◌≡◌, ℕ, ◌+◌, ◌<◌, ◌≤◌, Bool, true, false, length, is_some, Some, None, sym, refl, ap, ◌∙◌, inl, inr, arith}
use Rattle.std.proofs.lemmas.Bool.{both_ways, cases_Bool}
use Rattle.instructions.specs.Effects.{arithmetic_result, address_sum, data_sum, next_place}
use Rattle.instructions.specs.Kinds.{loads, stores, access, computes, branches, fences, first_operand, second_operand}
use Rattle.machine.specs.declared.step.Step.{Step}
use Rattle.machine.specs.Fires.{buffer, entry, instruction, Stands, Ready, fetched_entry, Fires}
use Rattle.machine.specs.State.{Core, State, core_at}
use Rattle.machine.specs.Steps.{with_core, core_fetched, changed}
use Rattle.memory.specs.declared.cell.Cell.{Cell}
use Rattle.memory.specs.declared.cell.Mark.{Mark}
use Rattle.question.specs.Litmus.{Litmus, code_at}
use Rattle.rules.specs.Changes.{only, load_change}
use Rattle.rules.specs.Entries.{done_with, turned, loaded, addressed, supplied}
use Rattle.rules.specs.declared.change.Effect.TheVariants.{Local, Loaded, Stored}
use Rattle.rules.specs.declared.entry.Entry.{Entry}
use Rattle.reachable.specs.Entries.{DataKnown, AddressKnown, FenceWaited, LoadWaited, Finished, EntryKept}
use Rattle.reachable.specs.Invariant.{Invariant}
use Rattle.reachable.specs.Laws.{Onward}
use Rattle.reachable.proofs.Changed.{Alike, open_onward, done_kept, open_kept}
use Rattle.reachable.proofs.Exclusive.{Quiet, computes_quiet, branches_quiet, fences_quiet, load_accesses, store_accesses, straight_guess}
use Rattle.reachable.proofs.FinishedEntries.{computed_finished, branch_finished, fence_finished, load_finished, store_finished}
use Rattle.reachable.proofs.Fired.{Fired, Orders}
use Rattle.reachable.proofs.Put.{Leads, place_within, place_behind}
use Rattle.reachable.proofs.Rules.{fired_access, fired_quiet, fired_cut}
use Rattle.reachable.proofs.Shapes.{core_here, processors_same, put_fetched}

-- Some entry of some processor was put, as all rules do it.
pub record Ruled (q : Litmus) (s t : State) : Type 0 where
  pub processor : ℕ
  pub position : ℕ
  pub left : ℕ
  pub put : Entry
  pub fired : Fired q s t processor position left put

pub ruled : (q : Litmus) (s t : State) (p i n : ℕ) (e : Entry) → Fired q s t p i n e → Ruled q s t
ruled q s t p i n e f = record { processor = p; position = i; left = n; put = e; fired = f }

-- What is no access is no access that is done.
not_access : (f : Entry) → Quiet f.instruction → access f.instruction ≡ true → f.done ≡ false
not_access f z h = absurd (both_ways (access f.instruction) z.no_access h)

-- Rule 1.
module _ (q : Litmus) (s : State) (p : ℕ) (here : p < length s.cores) (inside : (core_at s p).counter < length (code_at q p)) (room : length (buffer s p) < 16) (taken : Bool) where
  abbrev new : Entry
  new = fetched_entry q s p taken

  abbrev fetching : State
  fetching = with_core s p (core_fetched (core_at s p) new)

  new_kept : EntryKept q s p (length (buffer s p)) new
  new_kept = record {
    in_code = record { within = inside; there = refl };
    straight = λ h. straight_guess new.instruction (core_at s p).counter taken h;
    guessed = λ h. (taken, refl);
    address = λ a h. absurd (let z : ◌≡◌ {A = ℕ} 0 1 = cc in omega arith);
    datum = λ d h. absurd (let z : ◌≡◌ {A = ℕ} 0 1 = cc in omega arith);
    finished = λ h. absurd (both_ways false refl h);
  }

  fetch_fired : Ruled q s fetching
  fetch_fired = ruled q s fetching p (length (buffer s p)) (length (buffer s p) + 1) new (record {
    put = put_fetched s fetching p (core_fetched (core_at s p) new) here refl new room refl;
    processors = processors_same s fetching p (core_fetched (core_at s p) new) here refl;
    cells = refl;
    room = omega arith;
    place = sym (place_behind s p (length (buffer s p)) (omega arith));
    kept = new_kept;
    waits = λ l. absurd (omega arith);
    onward = λ l. absurd (omega arith);
    leads = Leads.ends refl (ap (λ (c : Core). c.counter) (core_here s fetching p (core_fetched (core_at s p) new) here refl));
    spares = λ j a b x d. omega arith;
    order = Orders.as_before (λ h. refl) (omega arith) refl;
  })

module _ (q : Litmus) (s : State) (inv : Invariant q s) (p i : ℕ) (stands : Stands s p i) where
  abbrev e : Entry
  e = entry s p i

  k : EntryKept q s p i e
  k = inv.entries p i stands.1

  -- The entry done, with everything but its result, its next place and its source as before.
  module _ (waits : e.done ≡ false) (f : Entry) (place : f.place ≡ e.place) (same : f.instruction ≡ e.instruction) (address : f.address ≡ e.address) (datum : f.datum ≡ e.datum) where
    alike : Alike e f
    alike = record { place = place; instruction = same }

    onward : Onward e f
    onward = open_onward e f waits alike (λ a h. address ∙ h) (λ d h. datum ∙ h)

    kept : f.done ≡ true → (branches e.instruction ≡ false → f.next ≡ e.next) → Finished s p i f → EntryKept q s p i f
    kept d n w = done_kept q s p i e f alike k d address datum n w

  -- Rule 2.
  arithmetic_fired : (x y : ℕ) → computes e.instruction ≡ true → e.done ≡ false → Ready s p i (first_operand e.instruction) x → Ready s p i (second_operand e.instruction) y →
      Ruled q s (changed s p i (only (done_with e (arithmetic_result e.instruction x y))))
  arithmetic_fired x y h w u v =
      let f : Entry = done_with e (arithmetic_result e.instruction x y) in
      ruled q s _ p i _ f (fired_quiet q s inv p i stands f
      (kept w f refl refl refl refl refl (λ b. refl) (computed_finished q s p i e k h x y u v)) w (onward w f refl refl refl refl)
      refl (not_access f (computes_quiet e.instruction h)))

  -- Rule 4.
  fence_fired : fences e.instruction ≡ true → e.done ≡ false → FenceWaited s p i e → Ruled q s (changed s p i (only (done_with e e.value)))
  fence_fired h w z =
      let f : Entry = done_with e e.value in
      ruled q s _ p i _ f (fired_quiet q s inv p i stands f
      (kept w f refl refl refl refl refl (λ b. refl) (fence_finished q s p i e k h z)) w (onward w f refl refl refl refl)
      refl (not_access f (fences_quiet e.instruction h)))

  -- Rule 5, wherever the value is from.
  load_fired : (a v : ℕ) (m : Mark) → loads e.instruction ≡ true → e.done ≡ false → e.address ≡ Some a → LoadWaited s p i →
      Ruled q s (changed s p i (load_change e v m))
  load_fired a v m h w z fences_done =
      let f : Entry = loaded e v m in
      ruled q s _ p i _ f (fired_access q s inv p i stands f
      (kept w f refl refl refl refl refl (λ b. refl) (load_finished q s p i e k a z h v m fences_done)) w (onward w f refl refl refl refl)
      Loaded refl (load_accesses e.instruction h) refl refl)

  -- Rule 7.
  store_fired : (a d : ℕ) (c : Cell) → stores e.instruction ≡ true → e.done ≡ false → e.address ≡ Some a → Finished s p i (done_with e e.value) →
      Ruled q s (changed s p i (record { entry = done_with e e.value; cut = None; effect = Stored a c }))
  store_fired a d c h w z finished =
      let f : Entry = done_with e e.value in
      ruled q s _ p i _ f (fired_access q s inv p i stands f
      (kept w f refl refl refl refl refl (λ b. refl) finished) w (onward w f refl refl refl refl)
      (Stored a c) refl (store_accesses e.instruction h) refl refl)

  -- Rule 3.
  module _ (x : ℕ) (h : branches e.instruction ≡ true) (w : e.done ≡ false) (u : Ready s p i (first_operand e.instruction) x) where
    abbrev next : ℕ
    next = next_place e.instruction e.place x

    abbrev f : Entry
    f = turned e next

    turned_kept : EntryKept q s p i f
    turned_kept = kept w f refl refl refl refl refl (λ b. absurd (both_ways (branches e.instruction) b h)) (branch_finished q s p i e k h x u)

    -- As guessed.
    guessed_fired : e.next ≡ next → Ruled q s (changed s p i (only f))
    guessed_fired z = ruled q s _ p i _ f (fired_quiet q s inv p i stands f turned_kept w (onward w f refl refl refl refl) (sym z) (not_access f (branches_quiet e.instruction h)))

    -- No younger store is done, since this branch is not.
    spares_stores : (j : ℕ) → i + 1 ≤ j → j < length (buffer s p) → stores (instruction s p j) ≡ true → (entry s p j).done ≡ true → ⊥
    spares_stores j b l y d = both_ways e.done w ((((inv.entries p j l).finished d).store y).older_branches i (omega arith) h)

    -- Not as guessed.
    otherwise_fired : Ruled q s (changed s p i (record { entry = f; cut = Some (record { keep = i + 1; counter = next }); effect = Local }))
    otherwise_fired = ruled q s _ p i (i + 1) f (fired_cut q s inv p i stands f turned_kept w (onward w f refl refl refl refl) (i + 1) next
        (omega arith) (omega (arith, stands.1)) (not_access f (branches_quiet e.instruction h)) (λ c. Leads.ends refl c) spares_stores)

  -- Rule 6.
  data_fired : (y : ℕ) → stores e.instruction ≡ true → is_some e.datum ≡ false → Ready s p i (second_operand e.instruction) y →
      Ruled q s (changed s p i (only (supplied e (data_sum e.instruction y))))
  data_fired y h w u = ruled q s _ p i _ f (fired_quiet q s inv p i stands f
      (open_kept q s p i e f data_alike k unfinished unfinished refl (λ a z old. old z) known)
      unfinished (open_onward e f unfinished data_alike (λ a z. z) (λ d z. absurd (both_ways (is_some e.datum) w (ap is_some z)))) refl (λ z. unfinished))
    where
      f : Entry
      f = supplied e (data_sum e.instruction y)

      unfinished : e.done ≡ false
      unfinished = elim (cases_Bool e.done) [ inl d ↦ absurd (both_ways (is_some e.datum) w ((k.finished d).has_data h)) | inr d ↦ d ]

      data_alike : Alike e f
      data_alike = record { place = refl; instruction = refl }

      known : (d : ℕ) → f.datum ≡ Some d → (e.datum ≡ Some d → DataKnown s p i f d) → DataKnown s p i f d
      known d z old = record { is_store = h; operand = y; ready = u; sum = (cc) }

  -- Rule 8.
  module _ (x : ℕ) (h : access e.instruction ≡ true) (w : is_some e.address ≡ false) (u : Ready s p i (first_operand e.instruction) x) where
    abbrev sum : ℕ
    sum = address_sum e.instruction x

    abbrev g : Entry
    g = addressed e sum

    not_done : e.done ≡ false
    not_done = elim (cases_Bool e.done) [ inl d ↦ absurd (both_ways (is_some e.address) w ((k.finished d).has_address h)) | inr d ↦ d ]

    address_alike : Alike e g
    address_alike = record { place = refl; instruction = refl }

    address_now : (a : ℕ) → g.address ≡ Some a → (e.address ≡ Some a → AddressKnown s p i g a) → AddressKnown s p i g a
    address_now a z old = record { accesses = h; operand = x; ready = u; sum = (cc) }

    addressed_kept : EntryKept q s p i g
    addressed_kept = open_kept q s p i e g address_alike k not_done not_done refl address_now (λ d z old. old z)

    addressed_onward : Onward e g
    addressed_onward = open_onward e g not_done address_alike (λ a z. absurd (both_ways (is_some e.address) w (ap is_some z))) (λ d z. z)

    -- Nothing goes.
    address_fired : Ruled q s (changed s p i (only g))
    address_fired = ruled q s _ p i _ g (fired_quiet q s inv p i stands g addressed_kept not_done addressed_onward refl (λ z. not_done))

    -- No younger store is done, since this access had no address.
    younger_stores : (m : ℕ) → i < m → (j : ℕ) → m ≤ j → j < length (buffer s p) → stores (instruction s p j) ≡ true → (entry s p j).done ≡ true → ⊥
    younger_stores m b j c l y d = both_ways (is_some e.address) w ((((inv.entries p j l).finished d).store y).older_addresses i (omega arith) h)

    -- The first younger access to the cell and all younger entries go.
    removing_fired : (m : ℕ) → i < m → m < length (buffer s p) →
        Ruled q s (changed s p i (record { entry = g; cut = Some (record { keep = m; counter = (entry s p m).place }); effect = Local }))
    removing_fired m b l = ruled q s _ p i m g (fired_cut q s inv p i stands g addressed_kept not_done addressed_onward m (entry s p m).place
        b (omega arith) (λ z. not_done) (λ c. Leads.on refl stands.1 (c ∙ sym (place_within s p m l))) (younger_stores m b))

-- Each rule.
pub fires_ruled : (q : Litmus) (s : State) → Invariant q s → {st : Step} {n : ℕ} {t : State} → Fires q s st n t → Ruled q s t
fires_ruled q s inv (Fires.fetch_taken p h c r b) = fetch_fired q s p h c r true
fires_ruled q s inv (Fires.fetch p h c r) = fetch_fired q s p h c r false
fires_ruled q s inv (Fires.arithmetic p i x y l h w u v) = arithmetic_fired q s inv p i l x y h w u v
fires_ruled q s inv (Fires.branch_as_guessed p i x l h w u z) = guessed_fired q s inv p i l x h w u z
fires_ruled q s inv (Fires.branch_otherwise p i x l h w u z) = otherwise_fired q s inv p i l x h w u
fires_ruled q s inv (Fires.fence p i l h w z) = fence_fired q s inv p i l h w z
fires_ruled q s inv (Fires.load_forwarded p i a j v l h w z f near st d) = load_fired q s inv p i l a v _ h w z f
fires_ruled q s inv (Fires.load_from_memory p i a l h w z f none) = load_fired q s inv p i l a _ _ h w z f
fires_ruled q s inv (Fires.store_data p i y l h w u) = data_fired q s inv p i l y h w u
fires_ruled q s inv (Fires.store p i a d l h w z v b o c f) =
    store_fired q s inv p i l a d _ h w z (store_finished q s p i (entry s p i) (inv.entries p i l.1) a z h d v b o c f)
fires_ruled q s inv (Fires.address p i x l h w u z) = address_fired q s inv p i l x h w u
fires_ruled q s inv (Fires.address_removes p i x m l h w u first ld d) = removing_fired q s inv p i l x h w u m first.younger first.within
