-- The witness of every run is within the bounds of a witness.
use Rattle.std.proofs.Common.{ℕ, suc, ◌*◌, ◌≤◌, Bool, true, false, cond, List, [], ◌∷◌, map, length, get_or, arith}
use Rattle.std.specs.List.{flat_map, AllByRecursion}
use Rattle.std.proofs.lemmas.List.{length-append, length-map}
use Rattle.instructions.specs.Kinds.{loads}
use Rattle.machine.specs.Results.{closed, entry_sources, core_sources, core_path, source_record}
use Rattle.machine.specs.State.{Core, State, empty_core}
use Rattle.question.specs.Litmus.{Litmus}
use Rattle.reachable.specs.Checked.{Checked}
use Rattle.reachable.specs.Invariant.{Invariant}
use Rattle.rules.specs.declared.entry.Entry.{Entry}
use Rattle.witness.specs.Execution.{Within}

-- An entry has at most one source.
at_most_one : (e : Entry) → length (entry_sources e) ≤ 1
at_most_one e = go (loads e.instruction)
  where
    go : (b : Bool) → length (cond b (source_record e.mark e.value ∷ []) []) ≤ 1
    go true = omega arith
    go false = omega arith

-- There are at most as many sources as entries.
sources_of_entries : (es : List Entry) → length (flat_map entry_sources es) ≤ length es
sources_of_entries [] = omega arith
sources_of_entries (e ∷ es) = omega (arith, length-append (entry_sources e) (flat_map entry_sources es), at_most_one e, sources_of_entries es)

-- Processors of at most sixteen entries have at most sixteen sources each.
sources_of_cores : (cs : List Core) → ((p : ℕ) → length (get_or cs p empty_core).entries ≤ 16) → length (flat_map core_sources cs) ≤ 16 * length cs
sources_of_cores [] room = omega arith
sources_of_cores (c ∷ cs) room =
    let here : length c.entries ≤ 16 = room 0 in
    omega (arith, length-append (core_sources c) (flat_map core_sources cs), sources_of_entries c.entries, sources_of_cores cs (λ p. room (suc p)))

-- Their paths have at most sixteen places.
paths_of_cores : (cs : List Core) → ((p : ℕ) → length (get_or cs p empty_core).entries ≤ 16) → AllByRecursion (λ p. length p ≤ 16) (map core_path cs)
paths_of_cores [] room = tt
paths_of_cores (c ∷ cs) room =
    let here : length c.entries ≤ 16 = room 0 in
    (omega (arith, length-map c.entries (λ e. e.place)), paths_of_cores cs (λ p. room (suc p)))

-- So the witness of a state that keeps the invariant is within the bounds.
pub runs_within : (q : Litmus) (s : State) → Checked q → Invariant q s → Within (closed q s).execution
runs_within q s checked inv =
    let paths = length-map s.cores core_path in
    record {
      some_path = omega (arith, checked.some, inv.processors);
      few_paths = omega (arith, checked.few, inv.processors);
      short_paths = paths_of_cores s.cores inv.room;
      few_sources = omega (arith, checked.few, inv.processors, sources_of_cores s.cores inv.room);
      few_accesses = inv.few;
    }
