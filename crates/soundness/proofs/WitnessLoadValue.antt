-- The witness of a finished run satisfies LoadValue.
use Rattle.std.proofs.Common.{◌≡◌, ℕ, suc, true, sym, refl, ap, ◌∙◌, subst, arith}
use Rattle.instructions.specs.Kinds.{loads, stores}
use Rattle.machine.specs.Results.{closed, source_record}
use Rattle.machine.specs.State.{State}
use Rattle.memory.specs.declared.cell.Mark.{Mark}
use Rattle.question.specs.Litmus.{Litmus}
use Rattle.witness.specs.Execution.{Execution}
use Rattle.witness.specs.declared.record.Access.{Access}
use Rattle.events.specs.Sources.{source_at}
use Rattle.checker.specs.Axioms.{Candidate, Youngest, LoadValue}
use Rattle.checker.specs.Terms.{access_at, OnPath}
use Rattle.checker.specs.Terms as terms
use Rattle.soundness.proofs.Ends as ends
use Rattle.soundness.proofs.KindFacts.{store_access}
use Rattle.soundness.proofs.SeenRuns.{Shown}
use Rattle.soundness.proofs.WitnessShown.{execution, rows, ended, path_row, row_path, kind_row, row_kind, cell_row}
use Rattle.soundness.proofs.WitnessSource.{record_is, load_cell}
use Rattle.soundness.proofs.Worlds.{cell}

module _ (q : Litmus) (s : State) (shown : Shown q s) (finished : (closed q s).finished ≡ true) (p i : ℕ)
    (on : OnPath q (execution q s shown finished) p i) (load : loads (terms.instruction q (execution q s shown finished) p i) ≡ true) where
  abbrev w : Execution
  w = execution q s shown finished

  -- The cell of the load.
  cell_is : cell (rows q s shown finished p) i ≡ suc (terms.cell q w p i)
  cell_is = load_cell q s shown finished p i on load

  -- A candidate of the witness is one of the rows, and the other way round.
  candidate_row : (a : Access) → Candidate q w p i a → ends.Candidate (rows q s shown finished) s.order p i a
  candidate_row a c =
      let at_a = c.store.0 in
      record {
        within = path_row q s shown finished a.processor a.position at_a;
        store = kind_row q s shown finished a.processor a.position at_a stores c.store.1;
        same = cell_row q s shown finished a.processor a.position at_a (store_access _ c.store.1) ∙ ap suc c.same ∙ sym cell_is;
        sooner = c.sooner;
      }

  row_candidate : (a : Access) → ends.Candidate (rows q s shown finished) s.order p i a → Candidate q w p i a
  row_candidate a c =
      let at_a : OnPath q w a.processor a.position = row_path q s shown finished a.processor a.position c.within in
      let store : stores (terms.instruction q w a.processor a.position) ≡ true =
      row_kind q s shown finished a.processor a.position at_a stores c.store in
      let one : suc (terms.cell q w a.processor a.position) ≡ suc (terms.cell q w p i) =
      sym (cell_row q s shown finished a.processor a.position at_a (store_access _ store)) ∙ c.same ∙ cell_is in
      record { store = (at_a, store); same = omega arith; sooner = c.sooner }

  youngest_from : (m : Mark) (v : ℕ) → ends.Youngest (rows q s shown finished) s.order p i m → Youngest q w p i (source_record m v)
  youngest_from m v (ends.Youngest.start none) = Youngest.start (refl, refl) (λ a c. none a (candidate_row a c))
  youngest_from m v (ends.Youngest.store r j c all) = Youngest.store (row_candidate (access_at r j) c) (λ a d. all a (candidate_row a d))

  pub load_youngest : Youngest q w p i (source_at q w p i)
  load_youngest = subst (λ r. Youngest q w p i r) (sym (record_is q s shown finished p i on load))
      (youngest_from _ _ (subst (λ o. ends.LoadValue (rows q s shown finished) o) shown.seen.order (ended q s shown finished).load_value p i
      (path_row q s shown finished p i on) (kind_row q s shown finished p i on loads load)))

pub load_value_holds : (q : Litmus) (s : State) (shown : Shown q s) (finished : (closed q s).finished ≡ true) → LoadValue q (execution q s shown finished)
load_value_holds q s shown finished p i l = load_youngest q s shown finished p i l.0 l.1
