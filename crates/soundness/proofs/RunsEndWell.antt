-- Every finished run ends well: what the invariant says when everything is done.
use Rattle.std.proofs.Common.{◌≡◌, ℕ, suc, ◌<◌, List, sym, ◌∙◌, arith}
use Rattle.instructions.specs.declared.instruction.Instruction.{Instruction}
use Rattle.memory.specs.declared.cell.Mark.{Mark}
use Rattle.witness.specs.declared.record.Access.{Access}
use Rattle.checker.specs.Terms.{access_at}
use Rattle.soundness.proofs.Worlds.{Row, Memory, World, cell, begin}
use Rattle.soundness.proofs.Ends.{Finished, Marked, StoreTo, LastStore, Ended, RunsEndWell}
use Rattle.soundness.proofs.KindFacts.{store_access}
use Rattle.soundness.proofs.Times.{some_coded}
use Rattle.soundness.proofs.Sources.{DoneStore, Last, Sourced, at_mark, Good}
use Rattle.soundness.proofs.Listing.{Lists, lists_listed}
use Rattle.soundness.proofs.Held.{Held, begin_held, run_held}
use Rattle.soundness.proofs.InstOrder.{inst_order}
use Rattle.soundness.proofs.LoadValue.{load_value, not_later}

-- The value at the mark of a last store.
last_marked : (init : ℕ → ℕ) (s : ℕ → Row) (b t v : ℕ) {m : Mark} → Last s (suc b) t m → suc v ≡ at_mark init s b m → Marked init s b m v
last_marked init s b t v (Last.initial h) e = let z : v ≡ init b = omega arith in rw z Marked.start
last_marked init s b t v (Last.latest q j st h) e = Marked.store q j v st.within st.store st.to (some_coded ((s q).datum j) v (sym e))

-- The value at the mark of a done load.
load_marked : (init : ℕ → ℕ) (s : ℕ → Row) (p k b : ℕ) → k < (s p).size → cell (s p) k ≡ suc b → suc ((s p).value k) ≡ at_mark init s b ((s p).mark k) → Sourced (s p) s p k
    → Marked init s b ((s p).mark k) ((s p).value k)
load_marked init s p k b kn eb ev (Sourced.own m near g h e) =
    rw e (Marked.store p m ((s p).value k) (omega (arith, near.before)) near.store (near.same ∙ eb) (some_coded ((s p).datum m) ((s p).value k) (sym (rw e at ev))))
load_marked init s p k b kn eb ev (Sourced.memory h l) = last_marked init s b ((s p).time k) ((s p).value k) (rw eb at l) ev

module _ (init : ℕ → ℕ) (s : ℕ → Row) (μ : Memory) (c : ℕ) (l : List Access) (g : Good init s μ c) (li : Lists s l) (fin : (p k : ℕ) → k < (s p).size → 0 < (s p).time k) where
  stands : (b : ℕ) (a : Access) → StoreTo s l b a → DoneStore (s a.processor) a.position (suc b) c
  stands b a st = record { within = st.within; store = st.store; to = st.same; done = fin a.processor a.position st.within; by_then = (g.each a.processor).clock a.position }

  last_store : (b : ℕ) {m : Mark} → Last s (suc b) c m → LastStore s l b m
  last_store b (Last.initial h) = LastStore.start (λ a st. h a.processor a.position (stands b a st))
  last_store b (Last.latest q j d h) = LastStore.store q j (record { within = d.within; store = d.store; same = d.to })
      (λ a st. not_later init s μ c l g li fin a (access_at q j)
      (li.complete a.processor a.position st.within (store_access ((s a.processor).instruction a.position) st.store) (fin a.processor a.position st.within))
      (li.complete q j d.within (store_access ((s q).instruction j) d.store) d.done)
      (h a.processor a.position (stands b a st)))

-- A finished world of which the invariant holds.
pub held_ended : (code : ℕ → ℕ → Instruction) (end : ℕ → ℕ) (init : ℕ → ℕ) (w : World) → Held code end init w → Finished w → Ended code end init w
held_ended code end init w h fin = record {
  paths = h.paths;
  located = λ p k kn a. (h.good.each p).located k kn (fin p k kn) a;
  given = λ p k kn st. (h.good.each p).given k kn (fin p k kn) st;
  listed = lists_listed w.rows w.order h.lists;
  inst_order = inst_order init w.rows w.memory w.clock w.order h.good h.ordered h.lists fin;
  load_value = load_value init w.rows w.memory w.clock w.order h.good h.lists fin;
  sourced = λ p k b kn l e. load_marked init w.rows p k b kn e (h.good.valued p k b kn (fin p k kn) l e) (h.good.sourced p k kn (fin p k kn) l);
  cells = λ b. (
    last_store init w.rows w.memory w.clock w.order h.good h.lists fin b (h.good.cells b),
    last_marked init w.rows b w.clock (w.memory.value b) (h.good.cells b) (h.good.words b),
  );
}

pub runs_end_well : RunsEndWell
runs_end_well code end ins init w r fin = held_ended code end init w (run_held code end init (begin ins init) (begin_held code end ins init) r) fin
