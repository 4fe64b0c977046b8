-- Every step of a run keeps the invariant, same-address load-load order among it.
use Rattle.std.proofs.Common.{ℕ, ◌<◌, arith}
use Rattle.instructions.specs.Kinds.{access}
use Rattle.instructions.specs.declared.instruction.Instruction.{Instruction}
use Rattle.soundness.proofs.Worlds.{Row, World, begin}
use Rattle.soundness.proofs.Moves.{Put, Step}
use Rattle.soundness.proofs.Ends.{Path, Run}
use Rattle.soundness.proofs.KindFacts.{store_access}
use Rattle.soundness.proofs.Invariant.{Ok, Ordered}
use Rattle.soundness.proofs.Sources.{Good}
use Rattle.soundness.proofs.LoadStep.{given_stores}
use Rattle.soundness.proofs.LoadsInOrder.{given_loads, load_ordered, store_ordered, plain_ordered, fetch_ordered, address_ordered, cut_less, cut_past, cut_left}
use Rattle.soundness.proofs.Listing.{Lists}
use Rattle.soundness.proofs.BaseSteps.{Base, kept_each, fetch_base, plain_base, load_base, datum_base, store_base, address_base, begin_base}

-- What holds of every world of a run.
pub record Held (code : ℕ → ℕ → Instruction) (end : ℕ → ℕ) (init : ℕ → ℕ) (w : World) : Type 0 where
  pub good : Good init w.rows w.memory w.clock
  pub ordered : (p : ℕ) → Ordered (w.rows p)
  pub lists : Lists w.rows w.order
  pub paths : (p : ℕ) → Path (code p) (end p) (w.rows p)
  pub begun : 0 < w.clock

pub held_base : (code : ℕ → ℕ → Instruction) (end : ℕ → ℕ) (init : ℕ → ℕ) (w : World) → Held code end init w → Base code end init w
held_base code end init w h = record { good = h.good; lists = h.lists; paths = h.paths; begun = h.begun }

pub base_held : (code : ℕ → ℕ → Instruction) (end : ℕ → ℕ) (init : ℕ → ℕ) (w : World) → Base code end init w → ((p : ℕ) → Ordered (w.rows p)) → Held code end init w
base_held code end init w h o = record { good = h.good; ordered = o; lists = h.lists; paths = h.paths; begun = h.begun }

module _ (code : ℕ → ℕ → Instruction) (end : ℕ → ℕ) (init : ℕ → ℕ) (w w' : World) (h : Held code end init w) where
  base : Base code end init w
  base = held_base code end init w h

  ok : (p : ℕ) → Ok (w.rows p) w.clock
  ok = h.good.each

  both : Base code end init w' → (p : ℕ) (x' : Row) → Put w.rows w'.rows p x' → Ordered x' → Held code end init w'
  both b p x' put o = base_held code end init w' b (kept_each (λ q x. Ordered x) w.rows w'.rows p x' put h.ordered o)

  pub step_held : Step code end w w' → Held code end init w'
  step_held (Step.fetch p x' put f em eo ec) =
      both (fetch_base code end init w w' base p x' put f em eo ec) p x' put
      (fetch_ordered (code p) (end p) (w.rows p) x' w.clock h.begun (ok p) f (h.ordered p))
  step_held (Step.plain p i n' P' T' V' put r em eo ec) =
      both (plain_base code end init w w' base p i n' P' T' V' put r em eo ec) p _ put
      (plain_ordered (w.rows p) i w.clock n' P' T' V' (ok p) r (h.ordered p))
  step_held (Step.datum p i d D' put r em eo ec) =
      both (datum_base code end init w w' base p i d D' put r em eo ec) p _ put (h.ordered p)
  step_held (Step.load p i T' V' M' put r t em eo ec) =
      both (load_base code end init w w' base p i T' V' M' put r (given_stores access store_access (w.rows p) w.memory p i (V' i) (M' i) t.given) t.others em eo ec) p _ put
      (load_ordered (w.rows p) w.clock i T' V' M' (ok p) r (given_loads (w.rows p) w.memory p i (V' i) (M' i) t.given) (h.ordered p))
  step_held (Step.store p i T' put r wr eo ec) =
      both (store_base code end init w w' base p i T' put r wr eo ec) p _ put (store_ordered (w.rows p) w.clock i T' (ok p) r (h.ordered p))
  step_held (Step.address p i a n' A' put r cut em eo ec) =
      let less = cut_less (w.rows p) w.clock i a n' A' (ok p) (h.ordered p) r cut in
      let past = cut_past (w.rows p) w.clock i a n' A' (ok p) (h.ordered p) r cut in
      let left = cut_left (w.rows p) w.clock i a n' A' (ok p) (h.ordered p) r cut in
      both (address_base code end init w w' base p i a n' A' put r less past (λ _. left) em eo ec) p _ put
      (address_ordered (w.rows p) w.clock i a n' A' (ok p) r less left (h.ordered p))

pub begin_held : (code : ℕ → ℕ → Instruction) (end : ℕ → ℕ) (ins : ℕ → ℕ → Instruction) (init : ℕ → ℕ) → Held code end init (begin ins init)
begin_held code end ins init = base_held code end init (begin ins init) (begin_base code end ins init) (λ p j k kn. absurd (omega arith))

pub run_held : (code : ℕ → ℕ → Instruction) (end : ℕ → ℕ) (init : ℕ → ℕ) (w : World) {w' : World} → Held code end init w → Run code end w w' → Held code end init w'
run_held code end init w h Run.begun = h
run_held code end init w h (Run.then {w'} {w''} r st) = step_held code end init w' w'' (run_held code end init w h r) st
