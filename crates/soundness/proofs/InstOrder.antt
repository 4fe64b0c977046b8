-- InstOrder from the invariant: when all is done, kept pairs rise in time, so do their closures, so accesses kept precede.
use Rattle.std.proofs.Common.{◌≡◌, ℕ, ◌<◌, true, List, inl, inr, arith}
use Rattle.instructions.specs.Kinds.{access}
use Rattle.witness.specs.declared.record.Access.{Access}
use Rattle.ordering.specs.Closure.{Closure}
use Rattle.ordering.specs.Constraints.{GAM}
use Rattle.checker.specs.Terms.{access_at, Precedes}
use Rattle.soundness.proofs.Worlds.{Row, Memory, known_cells, cell}
use Rattle.soundness.proofs.Ends.{moment, InstOrder}
use Rattle.soundness.proofs.Constrained.{Six, gam_split, six_earlier}
use Rattle.soundness.proofs.Invariant.{Before, Ok, Ordered}
use Rattle.soundness.proofs.Sources.{Good}
use Rattle.soundness.proofs.Orders.{earlier_precedes}
use Rattle.soundness.proofs.Listing.{Lists}

-- A relation whose pairs run forward and rise in time, as far as entries are done.
abbrev pub Rising : Row → (ℕ → ℕ → Type 0) → Type 0
Rising x R = (j k : ℕ) → k < x.size → 0 < x.time k → R j k → (j < k) × Before x.time j k

-- So does its transitive closure, when all is done.
pub closure_rises : (x : Row) (R : ℕ → ℕ → Type 0) → Rising x R → ((k : ℕ) → k < x.size → 0 < x.time k) → (i : ℕ) {j : ℕ} → j < x.size → Closure R i j
    → (i < j) × (0 < x.time i) × (x.time i < x.time j)
closure_rises x R rise fin i {j} jn (Closure.one g) = let b = rise i j jn (fin j jn) g in (b.0, b.1.done, b.1.first)
closure_rises x R rise fin i {j} jn (Closure.then {k} r g) =
    let b = rise k j jn (fin j jn) g in
    let q = closure_rises x R rise fin i {j = k} (omega arith) r in
    (omega arith, q.1, omega (arith, b.1.first))

-- Accesses that the closure keeps precede each other in the memory order.
pub kept_precede : (s : ℕ → Row) (l : List Access) → Lists s l → ((p k : ℕ) → k < (s p).size → 0 < (s p).time k) → (p : ℕ) (R : ℕ → ℕ → Type 0) → Rising (s p) R
    → (j k : ℕ) → k < (s p).size → access ((s p).instruction j) ≡ true → access ((s p).instruction k) ≡ true → Closure R j k → Precedes l (access_at p j) (access_at p k)
kept_precede s l li fin p R rise j k kn a b h =
    let q = closure_rises (s p) R rise (fin p) j kn h in
    earlier_precedes (moment s) l (access_at p j) (access_at p k) li.rises
    (li.complete p j (omega arith) a q.1) (li.complete p k kn b (fin p k kn)) q.2

-- The six constraints rise, and with same-address load-load order GAM does.
pub six_rises : (x : Row) (c : ℕ) → Ok x c → Rising x (Six x.instruction (known_cells (cell x)))
six_rises x c v j k kn d h = (six_earlier x.instruction (known_cells (cell x)) j k h, v.order j k kn d h)

pub gam_rises : (x : Row) (c : ℕ) → Ok x c → Ordered x → Rising x (GAM x.instruction (known_cells (cell x)))
gam_rises x c v o j k kn d g = elim (gam_split x.instruction (known_cells (cell x)) j k g) [
  | inl h ↦ six_rises x c v j k kn d h
  | inr h ↦ (h.earlier, o j k kn d h)
]

pub inst_order : (init : ℕ → ℕ) (s : ℕ → Row) (μ : Memory) (c : ℕ) (l : List Access) → Good init s μ c → ((p : ℕ) → Ordered (s p)) → Lists s l → ((p k : ℕ) → k < (s p).size → 0 < (s p).time k) → InstOrder s l
inst_order init s μ c l g o li fin p j k kn a b h = kept_precede s l li fin p (GAM (s p).instruction (known_cells (cell (s p)))) (gam_rises (s p) c (g.each p) (o p)) j k kn a b h
