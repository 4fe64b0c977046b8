-- What the evaluation of a witness has at each processor and position.
use Rattle.std.proofs.Common.{◌≡◌, ℕ, true, map, ◌<◌, ◌≤◌, ◌⊎◌, List, [], length, get_or, sym, ap, ◌∙◌, inl, inr, arith}
use Rattle.std.proofs.lemmas.List.{length-map, get_or-map, get_or_past}
use Rattle.std.proofs.lemmas.Bool.{cases_lt, false≢true}
use Rattle.std.proofs.lemmas.List.FromFn.{length-map-range_with_len, get_or-map-range_with_len}
use Rattle.std.specs.List.{range_with_len}
use Rattle.instructions.specs.Kinds.{loads}
use Rattle.question.specs.Litmus.{Litmus, code_at}
use Rattle.witness.specs.Execution.{Execution}
use Rattle.witness.specs.declared.record.Source.{Source}
use Rattle.events.specs.declared.path.PathEvents.{PathEvents}
use Rattle.events.specs.Events.{at, no_event, events_upto}
use Rattle.events.specs.Sources.{path_at, source_at, events}
use Rattle.events.specs.Views.{path_sources}
use Rattle.events.proofs.Evaluations.{events_none, events_length}
use Rattle.bounded.specs.Items.{items}
use Rattle.checker.specs.Rows.{Evaluation}
use Rattle.checker.specs.Terms.{instruction}

-- A path has as many events as places.
pub length_events : (q : Litmus) (w : Execution) (p : ℕ) → length (events q w p) ≡ length (path_at w p)
length_events q w p = events_length (code_at q p) (path_at w p) (λ i. (source_at q w p i).value) (length (path_at w p))

module _ (q : Litmus) (w : Execution) (rows : List PathEvents) (e : Evaluation q w rows) where
  -- There are as many rows as paths.
  pub rows_are_paths : length rows ≡ length w.paths
  rows_are_paths = sym (length-map rows (λ (x : PathEvents). items x.events)) ∙ ap length e.runs ∙ length-map-range_with_len (events q w) 0 (length w.paths)

  -- Each row has the events of its path.
  pub row_has_events : (p : ℕ) (d : PathEvents) → p < length rows → items (get_or rows p d).events ≡ events q w p
  row_has_events p d l =
      sym (get_or-map (λ (x : PathEvents). items x.events) rows p d [] l) ∙ ap (λ xs. get_or xs p []) e.runs
      ∙ get_or-map-range_with_len (events q w) 0 (length w.paths) p p [] (omega (arith, rows_are_paths)) (omega arith)

  -- Past the last path there are no events.
  pub no_row_no_events : (p : ℕ) → length rows ≤ p → [] ≡ events q w p
  no_row_no_events p l =
      let none : path_at w p ≡ [] = get_or_past w.paths p [] (omega (arith, rows_are_paths)) in
      sym (events_none (code_at q p) (path_at w p) (λ i. (source_at q w p i).value))
      ∙ ap (λ n. events_upto (code_at q p) (path_at w p) (λ i. (source_at q w p i).value) n) (sym (ap length none))

  -- Each row has the source records of its path.
  pub row_has_records : (p : ℕ) (d : PathEvents) → p < length rows → items (get_or rows p d).sources ≡ path_sources q w p
  row_has_records p d l =
      sym (get_or-map (λ (x : PathEvents). items x.sources) rows p d [] l) ∙ ap (λ xs. get_or xs p []) e.records
      ∙ get_or-map-range_with_len (path_sources q w) 0 (length w.paths) p p [] (omega (arith, rows_are_paths)) (omega arith)

  -- Past the last path there are no source records.
  pub no_row_no_records : (p : ℕ) → length rows ≤ p → [] ≡ path_sources q w p
  no_row_no_records p l =
      let none : path_at w p ≡ [] = get_or_past w.paths p [] (omega (arith, rows_are_paths)) in
      ap (λ n. map (source_at q w p) (range_with_len 0 n)) (sym (ap length none))

  -- Each row has the source record of each position.
  pub row_has_sources : (p i : ℕ) (d : PathEvents) (s : Source) → p < length rows → i < length (path_at w p) →
      get_or (items (get_or rows p d).sources) i s ≡ source_at q w p i
  row_has_sources p i d s l m =
      ap (λ xs. get_or xs i s) (row_has_records p d l) ∙ get_or-map-range_with_len (source_at q w p) 0 (length (path_at w p)) i i s m (omega arith)

  -- A row has as many source records as its path has places.
  pub row_has_as_many_sources : (p : ℕ) (d : PathEvents) → p < length rows → length (items (get_or rows p d).sources) ≡ length (path_at w p)
  row_has_as_many_sources p d l = ap length (row_has_records p d l) ∙ length-map-range_with_len (source_at q w p) 0 (length (path_at w p))

  -- A position of a path has a row.
  pub position_has_row : (p i : ℕ) → i < length (path_at w p) → p < length rows
  position_has_row p i l = go (cases_lt p (length rows))
    where
      go : (p < length rows) ⊎ (length rows ≤ p) → p < length rows
      go (inl h) = h
      go (inr h) = let none : length (path_at w p) ≡ 0 = ap length (get_or_past w.paths p [] (omega (arith, rows_are_paths))) in absurd (omega arith)

-- A path has as many source records as places.
pub length_sources : (q : Litmus) (w : Execution) (p : ℕ) → length (path_sources q w p) ≡ length (path_at w p)
length_sources q w p = length-map-range_with_len (source_at q w p) 0 (length (path_at w p))

-- The source record of a position of a path.
pub sources_at : (q : Litmus) (w : Execution) (p i : ℕ) (s : Source) → i < length (path_at w p) → get_or (path_sources q w p) i s ≡ source_at q w p i
sources_at q w p i s l = get_or-map-range_with_len (source_at q w p) 0 (length (path_at w p)) i i s l (omega arith)

-- A load stands on its path.
pub load_on_path : (q : Litmus) (w : Execution) (p i : ℕ) → loads (instruction q w p i) ≡ true → i < length (path_at w p)
load_on_path q w p i h = elim (cases_lt i (length (path_at w p))) [
  | inl l ↦ l
  | inr l ↦ (
      let past : at (events q w p) i ≡ no_event = get_or_past (events q w p) i no_event (omega (arith, length_events q w p)) in
      absurd (false≢true (sym (ap (λ e. loads e.instruction) past) ∙ h)))
]
