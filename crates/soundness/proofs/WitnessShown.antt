-- A finished run: the rows that show it and the events of its witness have the same instructions, cells and data.
use Rattle.std.proofs.Common.{◌≡◌, ℕ, suc, ◌%◌, ◌<◌, Bool, true, length, Some, sym, ap, ◌∙◌, arith}
use Rattle.instructions.specs.Kinds.{access}
use Rattle.instructions.specs.declared.instruction.Instruction.{Instruction}
use Rattle.machine.specs.Fires.{buffer, entry}
use Rattle.machine.specs.Fires as machine
use Rattle.machine.specs.Results.{closed, witness_of_state}
use Rattle.machine.specs.State.{State}
use Rattle.question.specs.Litmus.{Litmus}
use Rattle.witness.specs.Execution.{Execution}
use Rattle.checker.specs.Terms.{event, instruction, OnPath}
use Rattle.checker.specs.Terms as terms
use Rattle.reachable.proofs.Facts.{done_has_address}
use Rattle.soundness.proofs.Ends.{Finished, Ended}
use Rattle.soundness.proofs.RunsEndWell.{held_ended}
use Rattle.soundness.proofs.Seen.{done_time}
use Rattle.soundness.proofs.SeenFetch.{code_of, end_of}
use Rattle.soundness.proofs.SeenRuns.{start_of, Shown}
use Rattle.soundness.proofs.Times.{celled_some}
use Rattle.soundness.proofs.WitnessEvents.{event_instruction, event_address, event_datum}
use Rattle.soundness.proofs.WitnessPath.{all_done}
use Rattle.soundness.proofs.WitnessRows.{path_length}
use Rattle.soundness.proofs.Worlds.{Row, cell}

module _ (q : Litmus) (s : State) (shown : Shown q s) (finished : (closed q s).finished ≡ true) where
  -- The witness and the rows.
  abbrev pub execution : Execution
  execution = witness_of_state s

  abbrev pub rows : ℕ → Row
  rows = shown.world.rows

  pub rows_done : Finished shown.world
  rows_done p k l =
      let z = shown.seen.rows p in
      let b : k < length (buffer s p) = omega (arith, z.size) in
      done_time (entry s p k) (rows p) k (z.each k b) (all_done q s shown.invariant finished p k b)

  -- All that holds of a finished world.
  pub ended : Ended (code_of q) (end_of q) (start_of q) shown.world
  ended = held_ended (code_of q) (end_of q) (start_of q) shown.world shown.held rows_done

  module _ (p : ℕ) where
    -- A position of the path is one of the row, and the other way round.
    pub path_row : (i : ℕ) → OnPath q execution p i → i < (rows p).size
    path_row i l = omega (arith, (shown.seen.rows p).size, path_length q s shown.invariant p)

    pub row_path : (i : ℕ) → i < (rows p).size → OnPath q execution p i
    row_path i l = omega (arith, (shown.seen.rows p).size, path_length q s shown.invariant p)

    pub path_buffer : (i : ℕ) → OnPath q execution p i → i < length (buffer s p)
    path_buffer i l = omega (arith, path_length q s shown.invariant p)

    module _ (i : ℕ) (l : OnPath q execution p i) where
      abbrev b : i < length (buffer s p)
      b = path_buffer i l

      event_buffer : instruction q execution p i ≡ machine.instruction s p i
      event_buffer = event_instruction q s shown.invariant (all_done q s shown.invariant finished) p i b

      -- The same instruction.
      pub event_row : instruction q execution p i ≡ (rows p).instruction i
      event_row = event_buffer ∙ sym ((shown.seen.rows p).each i b).instruction

      -- What the instruction does.
      pub kind_row : (kind : Instruction → Bool) → kind (instruction q execution p i) ≡ true → kind ((rows p).instruction i) ≡ true
      kind_row kind h = ap kind (sym event_row) ∙ h

      pub row_kind : (kind : Instruction → Bool) → kind ((rows p).instruction i) ≡ true → kind (instruction q execution p i) ≡ true
      row_kind kind h = ap kind event_row ∙ h

      -- The same cell, of an access.
      pub cell_row : access (instruction q execution p i) ≡ true → cell (rows p) i ≡ suc (terms.cell q execution p i)
      cell_row h =
          let done = all_done q s shown.invariant finished in
          let (a, e) = done_has_address q s shown.invariant p i (record { stands = b; accesses = ap access (sym event_buffer) ∙ h; done = done p i b }) in
          celled_some ((rows p).address i) a (((shown.seen.rows p).each i b).address ∙ e)
          ∙ ap (λ n. suc (n % 16)) (sym (event_address q s shown.invariant done p i a b e))

      -- The same data.
      pub datum_row : (d : ℕ) → (rows p).datum i ≡ Some d → (event q execution p i).datum ≡ d
      datum_row d h = event_datum q s shown.invariant (all_done q s shown.invariant finished) p i d b (sym ((shown.seen.rows p).each i b).datum ∙ h)
