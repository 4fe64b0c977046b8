-- Every rule that changes an entry does what all rules have in common: rules 2 to 8, with and without a removal.
use Rattle.std.proofs.Common.{◌≡◌, ℕ, ◌<◌, ◌≤◌, true, false, length, Some, None, sym, refl, ap, ◌∙◌, arith}
use Rattle.std.proofs.lemmas.List.{length-set}
use Rattle.instructions.specs.Kinds.{stores, access}
use Rattle.machine.specs.Fires.{buffer, entry, instruction, Stands}
use Rattle.machine.specs.State.{Core, State, core_at}
use Rattle.machine.specs.Steps.{changed, core_changed, cells_after}
use Rattle.question.specs.Litmus.{Litmus}
use Rattle.rules.specs.declared.change.Change.{Change}
use Rattle.rules.specs.declared.change.Effect.{Effect}
use Rattle.rules.specs.declared.change.Effect.TheVariants.{Local, Loaded, Stored}
use Rattle.rules.specs.declared.entry.Entry.{Entry}
use Rattle.reachable.specs.Entries.{EntryKept}
use Rattle.reachable.specs.Invariant.{Invariant}
use Rattle.reachable.specs.Laws.{Onward}
use Rattle.reachable.specs.Places.{place_at}
use Rattle.reachable.proofs.Fired.{Fired, Orders}
use Rattle.reachable.proofs.Put.{Leads, place_within, place_behind}
use Rattle.reachable.proofs.Shapes.{core_here, processors_same, put_changed, put_whole}

-- The cells stay sixteen.
cells_same : (s : State) (f : Effect) → length (cells_after f s.cells) ≡ length s.cells
cells_same s Local = refl
cells_same s Loaded = refl
cells_same s (Stored a c) = length-set s.cells _ c

module _ (q : Litmus) (s : State) (inv : Invariant q s) (p i : ℕ) (stands : Stands s p i) (e : Entry)
    (kept : EntryKept q s p i e) (waits : (entry s p i).done ≡ false) (onward : Onward (entry s p i) e) where
  -- The entry changed and nothing removed.
  abbrev pub whole : Effect → State
  whole f = changed s p i (record { entry = e; cut = None; effect = f })

  -- The place of the entry.
  same_place : e.place ≡ place_at s p i
  same_place = onward.place ∙ sym (place_within s p i stands.1)

  -- The processor afterwards.
  abbrev core_whole : Core
  core_whole = core_changed (core_at s p) i (record { entry = e; cut = None; effect = Local })

  -- Rules 2 to 7, and 3 and 8 without a removal.
  pub fired_whole : (f : Effect) → e.next ≡ (entry s p i).next → Orders s (whole f) p i (length (buffer s p)) e → Fired q s (whole f) p i (length (buffer s p)) e
  fired_whole f next order = record {
    put = put_whole s (whole f) p core_whole stands.0 refl i e stands.1 refl;
    processors = processors_same s (whole f) p core_whole stands.0 refl;
    cells = cells_same s f;
    room = inv.room p;
    place = same_place;
    kept = kept;
    waits = λ l. waits;
    onward = λ l. onward;
    leads = Leads.on next stands.1 (ap (λ (c : Core). c.counter) (core_here s (whole f) p core_whole stands.0 refl) ∙ sym (place_behind s p (length (buffer s p)) (omega arith)));
    spares = λ j a b x d. omega arith;
    order = order;
  }

  -- An access is done.
  pub fired_access : (f : Effect) → e.next ≡ (entry s p i).next → access e.instruction ≡ true → e.done ≡ true →
      (whole f).order ≡ (whole Loaded).order → Fired q s (whole f) p i (length (buffer s p)) e
  fired_access f next a d same = fired_whole f next (Orders.joins stands.1 refl a d same)

  -- No access is done.
  pub fired_quiet : e.next ≡ (entry s p i).next → (access e.instruction ≡ true → e.done ≡ false) → Fired q s (whole Local) p i (length (buffer s p)) e
  fired_quiet next quiet = fired_whole Local next (Orders.as_before quiet (omega arith) refl)

  module _ (n c : ℕ) where
    -- The entry changed, n entries left and the counter set.
    abbrev pub shortened : Change
    shortened = record { entry = e; cut = Some (record { keep = n; counter = c }); effect = Local }

    -- Rules 3 and 8 with a removal.
    pub fired_cut : i < n → n ≤ length (buffer s p) → (access e.instruction ≡ true → e.done ≡ false) →
        ((core_at (changed s p i shortened) p).counter ≡ c → Leads s (changed s p i shortened) p i n e) →
        ((j : ℕ) → n ≤ j → j < length (buffer s p) → stores (instruction s p j) ≡ true → (entry s p j).done ≡ true → ⊥) →
        Fired q s (changed s p i shortened) p i n e
    fired_cut l m quiet leads spares = record {
      put = put_changed s (changed s p i shortened) p (core_changed (core_at s p) i shortened) stands.0 refl i n e l m refl;
      processors = processors_same s (changed s p i shortened) p (core_changed (core_at s p) i shortened) stands.0 refl;
      cells = refl;
      room = omega (arith, inv.room p);
      place = same_place;
      kept = kept;
      waits = λ b. waits;
      onward = λ b. onward;
      leads = leads (ap (λ (x : Core). x.counter) (core_here s (changed s p i shortened) p (core_changed (core_at s p) i shortened) stands.0 refl));
      spares = spares;
      order = Orders.without_removed quiet refl;
    }
