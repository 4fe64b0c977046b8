-- The fetches of evaluated rows, and the steps of a witness.
use Rattle.std.proofs.Common.{◌≡◌, ℕ, zero, suc, ◌+◌, ◌-◌, ◌<◌, ◌≤◌, ◌⊎◌, min, List, [], ◌++◌, length, get_or, take, drop, sym, ap, ◌∙◌, inl, inr, zero-add, arith}
use Rattle.std.specs.List.{range_with_len, flat_map, zip}
use Rattle.std.proofs.lemmas.List.FromFn.{get_or-range_with_len, get_or-map-range_with_len, length-range_with_len, length-map-range_with_len}
use Rattle.std.proofs.lemmas.List.{get_or_past, get_or-map, length-map}
use Rattle.std.proofs.lemmas.Slice.Zip.{length-zip, get_or-zip}
use Rattle.bounded.specs.Items.{items}
use Rattle.std.proofs.lemmas.Bool.{cases_lt}
use Rattle.question.specs.Litmus.{Litmus}
use Rattle.witness.specs.Execution.{Execution}
use Rattle.events.specs.Sources.{events}
use Rattle.events.specs.Views.{all_events, events_of}
use Rattle.events.specs.declared.path.PathEvents.{PathEvents}
use Rattle.checker.specs.Rows.{Evaluation}
use Rattle.checker.proofs.Evaluations.{rows_are_paths, no_row_no_events}
use Rattle.machine.specs.State.{started}
use Rattle.machine.specs.Steps.{run_all}
use Rattle.completeness.specs.StepsFor.{most_steps, fetches, carry_out, steps_for}
use Rattle.rebuilder.specs.Progress.{begun, processors_of, goes_on, runs, carried}
use Rattle.rebuilder.specs.Views.{path_fetches, row_fetches}
use Rattle.rebuilder.proofs.Counts.{left_more, left_none}
use Rattle.bounded.proofs.Takes.{take_append_take}

module _ (q : Litmus) (w : Execution) (rows : List PathEvents) (e : Evaluation q w rows) where
  -- The rows have the events of each processor.
  events_of_row : (p : ℕ) → get_or (events_of rows) p [] ≡ events q w p
  events_of_row p = ap (λ xs. get_or xs p []) e.runs ∙ go (cases_lt p (length w.paths))
    where
      go : (p < length w.paths) ⊎ (length w.paths ≤ p) → get_or (all_events q w) p [] ≡ events q w p
      go (inl l) = get_or-map-range_with_len (events q w) 0 (length w.paths) p p [] l (omega arith)
      go (inr l) =
          get_or_past (all_events q w) p [] (omega (arith, length-map-range_with_len (events q w) 0 (length w.paths)))
          ∙ no_row_no_events q w rows e p (omega (arith, rows_are_paths q w rows e))

  -- The fetches by rows are those of the witness.
  pub fetches_by_rows : flat_map (row_fetches rows) (range_with_len 0 (processors_of (begun q))) ≡ fetches q w
  unfolding processors_of begun
  fetches_by_rows = λ i. flat_map (λ p. path_fetches p (events_of_row p i)) (range_with_len 0 (length q.code))

module _ (rows : List PathEvents) (n : ℕ) where
  -- A row with its number comes next.
  pub next_row : (k : ℕ) (x : ℕ × PathEvents) → (k < length (zip (range_with_len 0 n) rows)) × (x ≡ get_or (zip (range_with_len 0 n) rows) k x) →
      flat_map (row_fetches rows) (drop k (range_with_len 0 n)) ≡ path_fetches x.0 (items x.1.events) ++ flat_map (row_fetches rows) (drop (k + 1) (range_with_len 0 n))
  next_row k x h =
      let few : k < n = omega (arith, h.0, length-zip (range_with_len 0 n) rows, length-range_with_len 0 n) in
      let within : k < length rows = omega (arith, h.0, length-zip (range_with_len 0 n) rows) in
      let is : x ≡ (get_or (range_with_len 0 n) k x.0, get_or rows k x.1) = h.1 ∙ get_or-zip (range_with_len 0 n) rows k x (omega (arith, length-range_with_len 0 n)) within in
      let number : k ≡ x.0 = sym (ap (λ (y : ℕ × PathEvents). y.0) is ∙ get_or-range_with_len 0 n k x.0 few ∙ zero-add k) in
      let row : get_or (events_of rows) k [] ≡ items x.1.events =
      get_or-map (λ (y : PathEvents). items y.events) rows k x.1 [] within ∙ sym (ap (λ (y : ℕ × PathEvents). items y.1.events) is) in
      left_more (row_fetches rows) n k few
      ∙ (λ i. path_fetches (number i) (row i) ++ flat_map (row_fetches rows) (drop (k + 1) (range_with_len 0 n)))

  -- There are no fetches past the last row.
  none_past : (d k : ℕ) → n ≡ k + d → length rows ≤ k → flat_map (row_fetches rows) (drop k (range_with_len 0 n)) ≡ []
  none_past zero k e l = left_none (row_fetches rows) n k (omega arith)
  none_past (suc d) k e l =
      left_more (row_fetches rows) n k (omega arith)
      ∙ ap (λ es. path_fetches k es ++ flat_map (row_fetches rows) (drop (k + 1) (range_with_len 0 n)))
      (get_or_past (events_of rows) k [] (omega (arith, length-map rows (λ (x : PathEvents). items x.events))))
      ∙ none_past d (k + 1) (omega arith) (omega arith)

  pub no_row : (k : ℕ) → k ≡ length (zip (range_with_len 0 n) rows) → flat_map (row_fetches rows) (drop k (range_with_len 0 n)) ≡ []
  no_row k e = go (cases_lt k n)
    where
      short : k ≡ min n (length rows)
      short = e ∙ length-zip (range_with_len 0 n) rows ∙ ap (λ m. min m (length rows)) (length-range_with_len 0 n)

      go : (k < n) ⊎ (n ≤ k) → flat_map (row_fetches rows) (drop k (range_with_len 0 n)) ≡ []
      go (inl l) = none_past (n - k) k (omega arith) (omega (arith, short))
      go (inr l) = left_none (row_fetches rows) n k l

-- Fetches, then accesses, are the steps of the witness.
pub steps_are : (q : Litmus) (w : Execution) → (carried (runs (begun q) (fetches q w)) w.order).steps ≡ take most_steps (steps_for q w)
unfolding carried runs goes_on begun steps_for
steps_are q w = take_append_take most_steps (fetches q w) (carry_out q w.order (run_all q (started q) (fetches q w))).steps
