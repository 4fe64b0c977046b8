-- The witness of a finished run satisfies Source.
use Rattle.std.proofs.Common.{◌≡◌, ℕ, suc, true, sym, ap, ◌∙◌, subst, ap₂, arith}
use Rattle.instructions.specs.Kinds.{loads, stores}
use Rattle.machine.specs.Results.{closed, source_record}
use Rattle.machine.specs.State.{State}
use Rattle.memory.specs.declared.cell.Mark.{Mark}
use Rattle.question.specs.Litmus.{Litmus}
use Rattle.witness.specs.Execution.{Execution}
use Rattle.witness.specs.declared.record.Source.{Source}
use Rattle.events.specs.Sources.{source_at}
use Rattle.checker.specs.Axioms.{Sourced, SourceAxiom}
use Rattle.checker.specs.Terms.{event, OnPath, StoreAt}
use Rattle.checker.specs.Terms as terms
use Rattle.soundness.proofs.Ends.{Marked}
use Rattle.soundness.proofs.KindFacts.{load_access, store_access}
use Rattle.soundness.proofs.SeenRuns.{start_of, Shown}
use Rattle.soundness.proofs.WitnessRows.{source_is}
use Rattle.soundness.proofs.WitnessShown.{execution, rows, ended, path_row, row_path, path_buffer, kind_row, row_kind, cell_row, datum_row}
use Rattle.soundness.proofs.Worlds.{cell}

module _ (q : Litmus) (s : State) (shown : Shown q s) (finished : (closed q s).finished ≡ true) (p i : ℕ)
    (on : OnPath q (execution q s shown finished) p i) (load : loads (terms.instruction q (execution q s shown finished) p i) ≡ true) where
  abbrev w : Execution
  w = execution q s shown finished

  -- The source record of the load has the mark and the value of its row.
  pub record_is : source_at q w p i ≡ source_record ((rows q s shown finished p).mark i) ((rows q s shown finished p).value i)
  record_is =
      let b = path_buffer q s shown finished p i on in
      let z = (shown.seen.rows p).each i b in
      source_is q s shown.invariant p i b (ap loads (sym z.instruction) ∙ kind_row q s shown finished p i on loads load)
      ∙ ap₂ source_record (sym z.mark) (sym z.value)

  -- Its cell.
  pub load_cell : cell (rows q s shown finished p) i ≡ suc (terms.cell q w p i)
  load_cell = cell_row q s shown finished p i on (load_access (terms.instruction q w p i) load)

  sourced_from : (m : Mark) (v : ℕ) → source_at q w p i ≡ source_record m v → Marked (start_of q) (rows q s shown finished) (terms.cell q w p i) m v → Sourced q w p i
  sourced_from m v h Marked.start =
      Sourced.from_start (ap (λ (r : Source). r.processor) h, ap (λ (r : Source). r.position) h) (ap (λ (r : Source). r.value) h)
  sourced_from m v h (Marked.store r j u l st c d) =
      let at_j : OnPath q w r j = row_path q s shown finished r j l in
      let store : stores (terms.instruction q w r j) ≡ true = row_kind q s shown finished r j at_j stores st in
      let same : suc (terms.cell q w r j) ≡ suc (terms.cell q w p i) = sym (cell_row q s shown finished r j at_j (store_access _ store)) ∙ c in
      let one : terms.cell q w r j ≡ terms.cell q w p i = omega arith in
      Sourced.from_store
      (subst (λ (y : Source). StoreAt q w y.processor y.position) (sym h) (at_j, store))
      (subst (λ (y : Source). terms.cell q w y.processor y.position ≡ terms.cell q w p i) (sym h) one)
      (subst (λ (y : Source). y.value ≡ (event q w y.processor y.position).datum) (sym h) (sym (datum_row q s shown finished r j at_j v d)))

  pub load_sourced : Sourced q w p i
  load_sourced = sourced_from _ _ record_is
      ((ended q s shown finished).sourced p i (terms.cell q w p i) (path_row q s shown finished p i on) (kind_row q s shown finished p i on loads load) load_cell)

pub source_holds : (q : Litmus) (s : State) (shown : Shown q s) (finished : (closed q s).finished ≡ true) → SourceAxiom q (execution q s shown finished)
source_holds q s shown finished p i l = load_sourced q s shown finished p i l.0 l.1
