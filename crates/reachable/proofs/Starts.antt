-- A run starts in the invariant: its buffers and its order are empty.
use Rattle.std.proofs.Common.{◌≡◌, ℕ, List, length, ap, ◌∙◌, arith}
use lib.ListN.{get_or-map}
use Rattle.std.proofs.lemmas.List.{length-map}
use Rattle.instructions.specs.declared.instruction.Instruction.{Instruction}
use Rattle.machine.specs.Fires.{buffer}
use Rattle.machine.specs.State.{Core, core_at, empty_core, start_cell, started}
use Rattle.question.specs.Litmus.{Litmus, code_at}
use Rattle.reachable.specs.Checked.{Checked}
use Rattle.reachable.specs.Invariant.{Invariant}
use Rattle.reachable.specs.Places.{Chained}
use Rattle.reachable.proofs.Put.{place_behind}

module _ (q : Litmus) where
  -- Every processor is at place 0 with an empty buffer.
  core_started : (p : ℕ) → core_at (started q) p ≡ empty_core
  core_started p = get_or-map (λ (is : List Instruction). empty_core) q.code p (code_at q p)

  no_entries : (p : ℕ) → length (buffer (started q) p) ≡ 0
  no_entries p = ap (λ (c : Core). length c.entries) (core_started p)

  at_zero : (p : ℕ) → (core_at (started q) p).counter ≡ 0
  at_zero p = ap (λ (c : Core). c.counter) (core_started p)

  chained_start : (p : ℕ) → Chained (started q) p
  chained_start p = record {
    starts = place_behind (started q) p 0 (omega (arith, no_entries p)) ∙ at_zero p;
    follows = λ i l. absurd (omega (arith, no_entries p));
  }

  -- The start keeps the invariant.
  pub started_keeps : Checked q → Invariant q (started q)
  started_keeps checked = record {
    processors = length-map q.code (λ _. empty_core);
    sixteen = length-map q.start start_cell ∙ checked.sixteen;
    room = λ p. omega (arith, no_entries p);
    chained = chained_start;
    within = λ p. omega (arith, at_zero p);
    entries = λ p i l. absurd (omega (arith, no_entries p));
    listed = record {
      only_done = λ k l. absurd (omega arith);
      each_done = λ p i d. absurd (omega (arith, no_entries p, d.stands));
      once = λ k m b l h. omega arith;
    };
    few = omega arith;
  }
