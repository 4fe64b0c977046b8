-- Every rule keeps the invariant but for same-address load-load order: sources and cells, the memory order, the paths.
-- Rule 5 is asked for a search over stores only, rule 8 that it leaves no done load that would have to look at a newly addressed store.
use Rattle.std.proofs.Common.{◌≡◌, ℕ, suc, ◌<◌, ◌≤◌, true, ◌≢◌, [], ◌∷◌, ◌++◌, Option, refl, arith}
use Rattle.instructions.specs.Kinds.{stores}
use Rattle.instructions.specs.declared.instruction.Instruction.{Instruction}
use Rattle.memory.specs.declared.cell.Mark.{Mark}
use Rattle.checker.specs.Terms.{access_at}
use Rattle.soundness.proofs.Worlds.{Row, World, begin}
use Rattle.soundness.proofs.Moves.{Put, Fetched, Plain, plainly, Datum, supplied, Load, loaded, Given, Store, stored, Written, Address, addressed, Reordered}
use Rattle.soundness.proofs.Ends.{Path}
use Rattle.soundness.proofs.KindFacts.{load_access, store_access}
use Rattle.soundness.proofs.Invariant.{Ok}
use Rattle.soundness.proofs.Sources.{Last, Good, put_each}
use Rattle.soundness.proofs.StoreWorld.{store_good}
use Rattle.soundness.proofs.LoadWorld.{load_good}
use Rattle.soundness.proofs.QuietWorld.{quiet_good}
use Rattle.soundness.proofs.LocalSteps.{plain_less, plain_same}
use Rattle.soundness.proofs.AddressStep.{NoneLeft}
use Rattle.soundness.proofs.QuietSteps.{plain_quiet, datum_quiet, fetch_quiet, address_quiet}
use Rattle.soundness.proofs.Listing.{Lists}
use Rattle.soundness.proofs.ListingSteps.{lists_done, lists_cut, lists_fetched}
use Rattle.soundness.proofs.Paths.{load_path, store_path, plain_path, datum_path, address_path, fetch_path}

-- What holds of every world of a run, but for same-address load-load order.
pub record Base (code : ℕ → ℕ → Instruction) (end : ℕ → ℕ) (init : ℕ → ℕ) (w : World) : Type 0 where
  pub good : Good init w.rows w.memory w.clock
  pub lists : Lists w.rows w.order
  pub paths : (p : ℕ) → Path (code p) (end p) (w.rows p)
  pub begun : 0 < w.clock

-- A fact of each row that a step keeps of the one that it replaces.
pub kept_each : (P : ℕ → Row → Type 0) (s s' : ℕ → Row) (p : ℕ) (x' : Row) → Put s s' p x' → ((q : ℕ) → P q (s q)) → P p x' → (q : ℕ) → P q (s' q)
kept_each P s s' p x' put old new = put_each P s s' p x' put new (λ q e. old q)

module _ (code : ℕ → ℕ → Instruction) (end : ℕ → ℕ) (init : ℕ → ℕ) (w w' : World) (h : Base code end init w) where
  ok : (p : ℕ) → Ok (w.rows p) w.clock
  ok = h.good.each

  paths' : (p : ℕ) (x' : Row) → Put w.rows w'.rows p x' → Path (code p) (end p) x' → (q : ℕ) → Path (code q) (end q) (w'.rows q)
  paths' p x' put new = kept_each (λ q x. Path (code q) (end q) x) w.rows w'.rows p x' put h.paths new

  clocks : (q j : ℕ) → (w.rows q).time j < w.clock
  clocks q j = (ok q).clock j

  -- Rule 1.
  pub fetch_base : (p : ℕ) (x' : Row) → Put w.rows w'.rows p x' → Fetched (code p) (end p) (w.rows p) x' →
      w'.memory ≡ w.memory → w'.order ≡ w.order → w'.clock ≡ w.clock → Base code end init w'
  fetch_base p x' put f em eo ec = record {
    good = rw (em, ec) (quiet_good init w.rows w'.rows w.memory w.clock w.clock p x' h.good put (fetch_quiet (code p) (end p) (w.rows p) x' w.clock h.begun (ok p) f));
    lists = rw eo (lists_fetched (code p) (end p) w.rows w'.rows w.order p x' put f h.lists);
    paths = paths' p x' put (fetch_path (code p) (end p) (w.rows p) x' (h.paths p) f);
    begun = omega (arith, ec, h.begun);
  }

  -- Rules 2, 3 and 4.
  pub plain_base : (p i n' : ℕ) (P' T' V' : ℕ → ℕ) → Put w.rows w'.rows p (plainly (w.rows p) n' P' T' V') → Plain (w.rows p) i w.clock n' P' T' V' →
      w'.memory ≡ w.memory → Reordered p (w.rows p).size n' w.order w'.order → w'.clock ≡ suc w.clock → Base code end init w'
  plain_base p i n' P' T' V' put r em eo ec = record {
    good = rw (em, ec) (quiet_good init w.rows w'.rows w.memory w.clock (suc w.clock) p _ h.good put (plain_quiet (w.rows p) i w.clock n' P' T' V' (ok p) r));
    lists = lists_cut w.rows w'.rows w.order w'.order p n' _ put refl (plain_less (w.rows p) i w.clock n' P' T' V' (ok p) r) (λ j. refl)
        (λ j a. (plain_same (w.rows p) i w.clock n' P' T' V' (ok p) r j a).1) eo h.lists;
    paths = paths' p _ put (plain_path (code p) (end p) (w.rows p) i w.clock n' P' T' V' (ok p) (h.paths p) r);
    begun = omega (arith, ec);
  }

  -- Rule 5, from a search over stores.
  pub load_base : (p i : ℕ) (T' V' : ℕ → ℕ) (M' : ℕ → Mark) → Put w.rows w'.rows p (loaded (w.rows p) T' V' M') → Load (w.rows p) i w.clock T' →
      Given stores (w.rows p) w.memory p i (V' i) (M' i) → ((j : ℕ) → j ≢ i → (V' j ≡ (w.rows p).value j) × (M' j ≡ (w.rows p).mark j)) →
      w'.memory ≡ w.memory → w'.order ≡ w.order ++ access_at p i ∷ [] → w'.clock ≡ suc w.clock → Base code end init w'
  load_base p i T' V' M' put r given others em eo ec = record {
    good = rw (em, ec) (load_good init w.rows w'.rows w.memory w.clock p i T' V' M' h.good put r given others);
    lists = rw eo (lists_done w.rows w'.rows w.order p i w.clock T' V' M' put r.now clocks r.within (load_access ((w.rows p).instruction i) r.is) h.lists);
    paths = paths' p _ put (load_path (code p) (end p) (w.rows p) w.clock i T' V' M' (ok p) (h.paths p) r (λ j e. (others j e).0));
    begun = omega (arith, ec);
  }

  -- Rule 6.
  pub datum_base : (p i d : ℕ) (D' : ℕ → Option ℕ) → Put w.rows w'.rows p (supplied (w.rows p) D') → Datum (w.rows p) i d D' →
      w'.memory ≡ w.memory → w'.order ≡ w.order → w'.clock ≡ w.clock → Base code end init w'
  datum_base p i d D' put r em eo ec = record {
    good = rw (em, ec) (quiet_good init w.rows w'.rows w.memory w.clock w.clock p _ h.good put (datum_quiet (w.rows p) i d w.clock D' (ok p) r));
    lists = lists_cut w.rows w'.rows w.order w'.order p (w.rows p).size _ put refl (omega arith) (λ j. refl) (λ j a. refl) (Reordered.whole refl eo) h.lists;
    paths = paths' p _ put (datum_path (code p) (end p) (w.rows p) i d D' (h.paths p) r);
    begun = omega (arith, ec, h.begun);
  }

  -- Rule 7.
  pub store_base : (p i : ℕ) (T' : ℕ → ℕ) → Put w.rows w'.rows p (stored (w.rows p) T') → Store (w.rows p) i w.clock T' →
      Written (w.rows p) w.memory w'.memory p i → w'.order ≡ w.order ++ access_at p i ∷ [] → w'.clock ≡ suc w.clock → Base code end init w'
  store_base p i T' put r wr eo ec = record {
    good = rw ec (store_good init w.rows w'.rows w.memory w'.memory w.clock p i T' h.good put r wr);
    lists = rw eo (lists_done w.rows w'.rows w.order p i w.clock T' (w.rows p).value (w.rows p).mark put r.now clocks r.within (store_access ((w.rows p).instruction i) r.is) h.lists);
    paths = paths' p _ put (store_path (code p) (end p) (w.rows p) w.clock i T' (ok p) (h.paths p) r);
    begun = omega (arith, ec);
  }

  -- Rule 8, whatever it removes behind i.
  pub address_base : (p i a n' : ℕ) (A' : ℕ → Option ℕ) → Put w.rows w'.rows p (addressed (w.rows p) n' A') → (r : Address (w.rows p) i a A') →
      n' ≤ (w.rows p).size → i < n' → (stores ((w.rows p).instruction i) ≡ true → NoneLeft (w.rows p) i a n') →
      w'.memory ≡ w.memory → Reordered p (w.rows p).size n' w.order w'.order → w'.clock ≡ w.clock → Base code end init w'
  address_base p i a n' A' put r less past left em eo ec = record {
    good = rw (em, ec) (quiet_good init w.rows w'.rows w.memory w.clock w.clock p _ h.good put (address_quiet (w.rows p) w.clock i a n' A' (ok p) r less past left));
    lists = lists_cut w.rows w'.rows w.order w'.order p n' _ put refl less (λ j. refl) (λ j _. refl) eo h.lists;
    paths = paths' p _ put (address_path (code p) (end p) (w.rows p) i a n' A' less (h.paths p) r);
    begun = omega (arith, ec, h.begun);
  }

pub begin_base : (code : ℕ → ℕ → Instruction) (end : ℕ → ℕ) (ins : ℕ → ℕ → Instruction) (init : ℕ → ℕ) → Base code end init (begin ins init)
begin_base code end ins init = record {
  good = record {
    each = λ p. record {
      clock = λ k. omega arith;
      order = λ j k kn d e. absurd (omega arith);
      addr = λ j k kn a d. absurd (omega arith);
      datum = λ j k kn a d. absurd (omega arith);
      located = λ k kn d a. absurd (omega arith);
      given = λ k kn d a. absurd (omega arith);
      older = λ k kn d st j b a. absurd (omega arith);
    };
    sourced = λ p k kn. absurd (omega arith);
    valued = λ p k b kn. absurd (omega arith);
    cells = λ b. Last.initial (λ q j st. omega (arith, st.within));
    words = λ b. refl;
  };
  lists = record { rises = tt; sound = λ e i. absurd i; complete = λ p i b. absurd (omega arith) };
  paths = λ p. record {
    from = refl;
    inside = λ k kn. absurd (omega arith);
    coded_at = λ k kn. absurd (omega arith);
    goes = λ k kn. absurd (omega arith);
    turns = λ k kn. absurd (omega arith);
    computed = λ k kn. absurd (omega arith);
    addressed = λ k a kn. absurd (omega arith);
    supplied = λ k d kn. absurd (omega arith);
  };
  begun = omega arith;
}
