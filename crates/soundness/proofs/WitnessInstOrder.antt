-- The witness of a finished run satisfies InstOrder.
use Rattle.std.proofs.Common.{◌≡◌, ◌<◌, true, sym, subst}
use Rattle.instructions.specs.Kinds.{access}
use Rattle.machine.specs.Results.{closed}
use Rattle.machine.specs.State.{State}
use Rattle.question.specs.Litmus.{Litmus}
use Rattle.events.specs.Sources.{events}
use Rattle.ordering.specs.Rules.{gam, instruction_of, cell_of}
use Rattle.checker.specs.Axioms.{InstOrder}
use Rattle.checker.specs.Terms as terms
use Rattle.soundness.proofs.Agreeing.{closure_local}
use Rattle.soundness.proofs.Constrained.{some_known}
use Rattle.soundness.proofs.Ends as ends
use Rattle.soundness.proofs.SeenRuns.{Shown}
use Rattle.soundness.proofs.WitnessShown.{execution, rows, ended, path_row, row_path, event_row, kind_row, row_kind, cell_row}
use Rattle.soundness.proofs.Worlds.{cell, known_cells}

module _ (q : Litmus) (s : State) (shown : Shown q s) (finished : (closed q s).finished ≡ true) where
  row_order : ends.InstOrder (rows q s shown finished) s.order
  row_order = subst (λ l. ends.InstOrder (rows q s shown finished) l) shown.seen.order (ended q s shown finished).inst_order

  pub inst_order_holds : InstOrder q (execution q s shown finished) gam
  inst_order_holds p i j a b c =
      let w = execution q s shown finished in
      let x = rows q s shown finished p in
      let l : j < x.size = path_row q s shown finished p j b.0 in
      row_order p i j l (kind_row q s shown finished p i a.0 access a.1) (kind_row q s shown finished p j b.0 access b.1)
      (closure_local x.size x.instruction (instruction_of (events q w p)) (known_cells (cell x)) (cell_of (events q w p))
      (λ k h. event_row q s shown finished p k (row_path q s shown finished p k h))
      (λ k h acc.
      let on = row_path q s shown finished p k h in
      sym (some_known (cell x k) (terms.cell q w p k) (cell_row q s shown finished p k on (row_kind q s shown finished p k on access acc))))
      i l c)
