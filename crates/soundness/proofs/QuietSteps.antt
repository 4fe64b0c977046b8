-- Rules 1 to 4, 6 and 8 leave done stores and done loads as they were.
use Rattle.std.proofs.Common.{◌≡◌, ℕ, suc, ◌<◌, ◌≤◌, true, ◌≢◌, Option, sym, refl, ap, ◌∙◌, inl, inr, arith}
use Rattle.std.proofs.lemmas.Bool.{cases_lt}
use Rattle.instructions.specs.Kinds.{loads, stores, access}
use Rattle.instructions.specs.declared.instruction.Instruction.{Instruction}
use Rattle.soundness.proofs.Worlds.{Row, celled, cell}
use Rattle.soundness.proofs.Moves.{Fetched, Plain, plainly, Datum, supplied, Address, addressed}
use Rattle.soundness.proofs.KindFacts.{load_access, store_access}
use Rattle.soundness.proofs.Constrained.{Near}
use Rattle.soundness.proofs.Invariant.{Ok}
use Rattle.soundness.proofs.Sources.{DoneStore}
use Rattle.soundness.proofs.QuietWorld.{Quiet}
use Rattle.soundness.proofs.LocalSteps.{plain_less, plain_keeps, plain_same, plain_store_stays, datum_keeps, word_stays, fetch_keeps, cell_same, word_same, old_done}
use Rattle.soundness.proofs.AddressStep.{same_if_done, NoneLeft, near_on, near_back, address_keeps, no_store_lost}

-- Rules 2, 3 and 4.
pub plain_quiet : (x : Row) (i c n' : ℕ) (P' T' V' : ℕ → ℕ) → Ok x c → Plain x i c n' P' T' V' → Quiet x (plainly x n' P' T' V') c (suc c)
plain_quiet x i c n' P' T' V' v r = record {
  ok = plain_keeps x i c n' P' T' V' v r;
  up = omega arith;
  kin = λ t b. record {
    onto = λ j a st. let e = same j (store_access (x.instruction j) st.store) in
        record { within = plain_store_stays x i c n' P' T' V' v r j st.within st.store st.done; store = st.store; to = st.to; done = omega (arith, e.1, st.done); by_then = omega (arith, e.1, st.by_then) };
    from = λ j a st. let e = same j (store_access (x.instruction j) st.store) in
        record { within = omega (arith, st.within, less); store = st.store; to = st.to; done = omega (arith, e.1, st.done); by_then = omega (arith, e.1, st.by_then) };
    times = λ j a st. (same j (store_access (x.instruction j) st.store)).1;
    words = λ j a st. refl;
  };
  fresh = λ j a st. omega (arith, (same j (store_access (x.instruction j) st.store)).1, v.clock j);
  load = λ k kn d l. let e = same k (load_access (x.instruction k) l) in
      record {
        within = omega (arith, less);
        done = omega (arith, e.1);
        is = l;
        cells = refl;
        times = e.1;
        values = r.others k e.0;
        marked = refl;
        near = λ j near. (near, (same j (store_access (x.instruction j) near.store)).1);
        back = λ j near. near;
        words = λ j b z. refl;
      };
}
  where
    same : (k : ℕ) → access (x.instruction k) ≡ true → (k ≢ i) × (T' k ≡ x.time k)
    same = plain_same x i c n' P' T' V' v r

    less : n' ≤ x.size
    less = plain_less x i c n' P' T' V' v r

-- Rule 6.
pub datum_quiet : (x : Row) (i d c : ℕ) (D' : ℕ → Option ℕ) → Ok x c → Datum x i d D' → Quiet x (supplied x D') c c
datum_quiet x i d c D' v r = record {
  ok = datum_keeps x i d c D' v r;
  up = omega arith;
  kin = λ t b. record {
    onto = λ j a st. record { within = st.within; store = st.store; to = st.to; done = st.done; by_then = st.by_then };
    from = λ j a st. record { within = st.within; store = st.store; to = st.to; done = st.done; by_then = st.by_then };
    times = λ j a st. refl;
    words = λ j a st. word_stays x i d c D' v r j (v.given j st.within st.done st.store);
  };
  fresh = λ j a st. v.clock j;
  load = λ k kn t l. record {
    within = kn;
    done = t;
    is = l;
    cells = refl;
    times = refl;
    values = refl;
    marked = refl;
    near = λ j near. (near, refl);
    back = λ j near. near;
    words = λ j b z. word_stays x i d c D' v r j z;
  };
}

-- Rule 8, where no done load is left that would have to look at a newly addressed store.
pub address_quiet : (x : Row) (c i a n' : ℕ) (A' : ℕ → Option ℕ) (v : Ok x c) (r : Address x i a A') → n' ≤ x.size → i < n'
    → (stores (x.instruction i) ≡ true → NoneLeft x i a n') → Quiet x (addressed x n' A') c c
address_quiet x c i a n' A' v r less past left = record {
  ok = address_keeps x c i a A' v r n' less past left;
  up = omega arith;
  kin = λ t b. record {
    onto = λ j a' st. record { within = kept j a' t st; store = st.store; to = same j st.done ∙ st.to; done = st.done; by_then = st.by_then };
    from = λ j a' st. record { within = omega (arith, st.within, less); store = st.store; to = sym (same j st.done) ∙ st.to; done = st.done; by_then = st.by_then };
    times = λ j a' st. refl;
    words = λ j a' st. refl;
  };
  fresh = λ j a' st. v.clock j;
  load = λ k kn t l. record {
    within = omega (arith, less);
    done = t;
    is = l;
    cells = same k t;
    times = refl;
    values = refl;
    marked = refl;
    near = λ j near. (near_on x c i a A' v r n' less past left j k kn t l near, refl);
    back = λ j near. near_back x c i a A' v r n' less past left j k kn t l near;
    words = λ j b z. refl;
  };
}
  where
    same : (k : ℕ) → 0 < x.time k → celled (A' k) ≡ cell x k
    same = same_if_done x c i a A' v r

    kept : (j a' t : ℕ) → DoneStore x j a' t → j < n'
    kept j a' t st = elim (cases_lt j n') [ inl h ↦ h | inr h ↦ absurd (no_store_lost x c i a A' v r n' less past left j h st.within st.store st.done) ]

-- Rule 1.
module _ (code : ℕ → Instruction) (end : ℕ) (x x' : Row) (c : ℕ) (cp : 0 < c) (v : Ok x c) (f : Fetched code end x x') where
  cells_same : (j : ℕ) → j < x.size → cell x' j ≡ cell x j
  cells_same = cell_same code end x x' c cp v f

  near_fetched : (j k : ℕ) → k < x.size → Near x.instruction (cell x) j k → Near x'.instruction (cell x') j k
  near_fetched j k kn near =
      let jn : j < x.size = omega (arith, near.before) in
      record {
        before = near.before;
        store = ap stores (f.instruction j jn) ∙ near.store;
        known = omega (arith, cells_same k kn, near.known);
        same = omega (arith, cells_same k kn, cells_same j jn, near.same);
        none = λ m p q st e. let mn : m < x.size = omega arith in
            near.none m p q (ap stores (sym (f.instruction m mn)) ∙ st) (omega (arith, cells_same k kn, cells_same m mn));
      }

  near_before : (j k : ℕ) → k < x.size → Near x'.instruction (cell x') j k → Near x.instruction (cell x) j k
  near_before j k kn near =
      let jn : j < x.size = omega (arith, near.before) in
      record {
        before = near.before;
        store = ap stores (sym (f.instruction j jn)) ∙ near.store;
        known = omega (arith, cells_same k kn, near.known);
        same = omega (arith, cells_same k kn, cells_same j jn, near.same);
        none = λ m p q st e. let mn : m < x.size = omega arith in
            near.none m p q (ap stores (f.instruction m mn) ∙ st) (omega (arith, cells_same k kn, cells_same m mn));
      }

  old : (k : ℕ) → 0 < x'.time k → k < x.size
  old = old_done code end x x' c cp v f

  pub fetch_quiet : Quiet x x' c c
  fetch_quiet = record {
    ok = fetch_keeps code end x x' c cp v f;
    up = omega arith;
    kin = λ t b. record {
      onto = λ j a st. let w = st.within in record {
        within = omega (arith, f.size);
        store = ap stores (f.instruction j w) ∙ st.store;
        to = cells_same j w ∙ st.to;
        done = omega (arith, f.time j w, st.done);
        by_then = omega (arith, f.time j w, st.by_then);
      };
      from = λ j a st. let w = old j st.done in record {
        within = w;
        store = ap stores (sym (f.instruction j w)) ∙ st.store;
        to = sym (cells_same j w) ∙ st.to;
        done = omega (arith, f.time j w, st.done);
        by_then = omega (arith, f.time j w, st.by_then);
      };
      times = λ j a st. f.time j st.within;
      words = λ j a st. word_same code end x x' c cp v f j st.within;
    };
    fresh = λ j a st. omega (arith, f.time j (old j st.done), v.clock j);
    load = λ k kn d l. let w = old k d in
        record {
          within = w;
          done = omega (arith, f.time k w);
          is = ap loads (sym (f.instruction k w)) ∙ l;
          cells = cells_same k w;
          times = f.time k w;
          values = f.value k w;
          marked = f.mark k w;
          near = λ j near. (near_fetched j k w near, f.time j (omega (arith, near.before)));
          back = λ j near. near_before j k w near;
          words = λ j b z. word_same code end x x' c cp v f j (omega arith);
        };
  }
