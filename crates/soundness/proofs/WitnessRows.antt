-- The witness of a state that keeps the invariant: its paths are the places of the entries, its source records those of the loads, in their order.
use Rattle.std.proofs.Common.{◌≡◌, ℕ, zero, suc, ◌+◌, ◌<◌, ◌≤◌, Bool, true, false, cond, [], ◌∷◌, length, get_or, sym, refl, ap, ◌∙◌, ap₂, arith}
use lib.ListN.{get_or-map}
use Rattle.std.proofs.lemmas.List.{length-map}
use Rattle.std.proofs.lemmas.Bool.{cond-true}
use Rattle.instructions.specs.Kinds.{loads}
use Rattle.machine.specs.Fires.{buffer, entry, instruction}
use Rattle.machine.specs.Results.{source_record, entry_sources, core_sources, core_path, witness_of_state}
use Rattle.machine.specs.State.{State, core_at, empty_core}
use Rattle.question.specs.Litmus.{Litmus, code_at}
use Rattle.rules.specs.Entries.{blank}
use Rattle.rules.specs.declared.entry.Entry.{Entry}
use Rattle.witness.specs.Execution.{Execution}
use Rattle.witness.specs.declared.record.Source.{Source}
use Rattle.events.specs.Sources.{path_at, loads_upto, loads_before, no_source, source_at}
use Rattle.checker_laws.proofs.Built.{instruction_run}
use Rattle.reachable.specs.Invariant.{Invariant}
use Rattle.reachable.proofs.Orders.{stands_there}
use Rattle.soundness.proofs.JoinedRows.{counted, counted_none, counted_more, counted_all, counted_within, joined_at}

-- One record for a load, none for another entry.
sources_counted : (b : Bool) (r : Source) → length (cond b (r ∷ []) []) ≡ cond b 1 0
sources_counted true r = refl
sources_counted false r = refl

module _ (q : Litmus) (s : State) (inv : Invariant q s) where
  abbrev w : Execution
  w = witness_of_state s

  module _ (p : ℕ) where
    pub path_is : path_at w p ≡ core_path (core_at s p)
    path_is = get_or-map core_path s.cores p empty_core

    -- The path is as long as the buffer.
    pub path_length : length (path_at w p) ≡ length (buffer s p)
    path_length = ap length path_is ∙ length-map (buffer s p) (λ e. e.place)

    -- The place at a position of the path is the entry's.
    pub place_run : (i : ℕ) → get_or (path_at w p) i 0 ≡ (entry s p i).place
    place_run i = ap (λ ps. get_or ps i 0) path_is ∙ get_or-map (λ (e : Entry). e.place) (buffer s p) i blank

    -- And so is the instruction that stands there.
    pub instruction_run_is : (i : ℕ) → i < length (buffer s p) → instruction_run q w p i ≡ instruction s p i
    instruction_run_is i l = ap (λ n. get_or (code_at q p) n blank.instruction) (place_run i) ∙ sym (inv.entries p i l).in_code.there

    -- The loads among the first n places are those among the first n entries.
    pub loads_counted : (n : ℕ) → n ≤ length (buffer s p) → loads_upto (code_at q p) (path_at w p) n ≡ counted entry_sources (buffer s p) n
    unfolding loads_upto
    loads_counted zero l = sym (counted_none entry_sources (buffer s p))
    loads_counted (suc n) l =
        ap₂ (λ a b. a + b) (loads_counted n (omega arith))
        (ap (λ i. cond (loads i) 1 0) (instruction_run_is n (omega arith)) ∙ sym (sources_counted (loads (instruction s p n)) _))
        ∙ sym (counted_more entry_sources (buffer s p) n blank (omega arith))

    loads_all : loads_upto (code_at q p) (path_at w p) (length (path_at w p)) ≡ length (core_sources (core_at s p))
    loads_all =
        ap (loads_upto (code_at q p) (path_at w p)) path_length
        ∙ loads_counted (length (buffer s p)) (omega arith)
        ∙ sym (counted_all entry_sources (buffer s p))

  -- The loads of the first p paths are those of the first p buffers.
  pub loads_before_counted : (p : ℕ) → p ≤ length s.cores → loads_before q w p ≡ counted core_sources s.cores p
  unfolding loads_before
  loads_before_counted zero l = sym (counted_none core_sources s.cores)
  loads_before_counted (suc p) l =
      ap₂ (λ a b. a + b) (loads_before_counted p (omega arith)) (loads_all p)
      ∙ sym (counted_more core_sources s.cores p empty_core (omega arith))

  -- There are as many source records as loads.
  pub records_counted : length w.sources ≡ loads_before q w (length q.code)
  records_counted =
      counted_all core_sources s.cores
      ∙ sym (loads_before_counted (length s.cores) (omega arith))
      ∙ ap (loads_before q w) inv.processors

  -- The source record of a load is its value with its mark.
  pub source_is : (p i : ℕ) → i < length (buffer s p) → loads (instruction s p i) ≡ true → source_at q w p i ≡ source_record (entry s p i).mark (entry s p i).value
  source_is p i l h =
      let here : p < length s.cores = stands_there s p i l in
      let one : length (entry_sources (entry s p i)) ≡ 1 = sources_counted (loads (instruction s p i)) _ ∙ cond-true _ _ _ h in
      let at_p : ℕ = counted core_sources s.cores p in
      let at_i : ℕ = counted entry_sources (buffer s p) i in
      let index : loads_before q w p + loads_upto (code_at q p) (path_at w p) i ≡ at_p + (at_i + 0) =
      omega (arith, loads_before_counted p (omega arith), loads_counted p i (omega arith)) in
      ap (λ k. get_or w.sources k no_source) index
      ∙ joined_at core_sources s.cores p (at_i + 0) empty_core no_source here (omega (arith, counted_within entry_sources (buffer s p) i blank l))
      ∙ joined_at entry_sources (buffer s p) i 0 blank no_source l (omega arith)
      ∙ ap (λ b. get_or (cond b (source_record (entry s p i).mark (entry s p i).value ∷ []) []) 0 no_source) h
