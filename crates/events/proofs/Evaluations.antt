-- The events of a path, place by place.
use Rattle.std.proofs.Common.{◌≡◌, ℕ, zero, suc, ◌+◌, ◌<◌, List, [], ◌∷◌, ◌++◌, map, length, get_or, take, sym, refl, ap, ◌∙◌, add-one, arith}
use Rattle.std.specs.List.{range_with_len}
use Rattle.std.proofs.lemmas.List.FromFn.{get_or-map-range_with_len}
use Rattle.std.proofs.lemmas.List.{length_push}
use Rattle.instructions.specs.declared.instruction.Instruction.{Instruction}
use Rattle.question.specs.Litmus.{Litmus, code_at}
use Rattle.witness.specs.Execution.{Execution}
use Rattle.witness.specs.declared.record.Source.{Source}
use Rattle.events.specs.declared.event.Event.{Event}
use Rattle.events.specs.Events.{next_event, events_upto}
use Rattle.events.specs.Sources.{path_at, loads_upto, loads_before, no_source, source_at, events}
use Rattle.events.specs.Views.{path_sources}
use Rattle.events.proofs.Rows.{push_room}

module _ (code : List Instruction) (places : List ℕ) where
  -- No place, no event.
  pub events_none : (stated : ℕ → ℕ) → events_upto code places stated 0 ≡ []
  unfolding events_upto
  events_none stated = refl

  -- One event more.
  pub events_next : (stated : ℕ → ℕ) (n : ℕ) →
      events_upto code places stated (n + 1)
      ≡ events_upto code places stated n ++ next_event code (events_upto code places stated n) (get_or places n 0) (stated n) ∷ []
  unfolding events_upto
  events_next stated n = rw add-one refl

  -- One event a place.
  pub events_length : (stated : ℕ → ℕ) (n : ℕ) → length (events_upto code places stated n) ≡ n
  unfolding events_upto
  events_length stated zero = refl
  events_length stated (suc n) =
      let es = events_upto code places stated n in
      length_push es (next_event code es (get_or places n 0) (stated n)) ∙ omega (arith, events_length stated n)

  -- Only the values stated for the places count.
  pub events_same : (s t : ℕ → ℕ) (n : ℕ) → ((i : ℕ) → i < n → s i ≡ t i) → events_upto code places s n ≡ events_upto code places t n
  unfolding events_upto
  events_same s t zero h = refl
  events_same s t (suc n) h =
      let e = events_same s t n (λ i l. h i (omega arith)) in
      ap (λ es. es ++ next_event code es (get_or places n 0) (s n) ∷ []) e
      ∙ ap (λ v. events_upto code places t n ++ next_event code (events_upto code places t n) (get_or places n 0) v ∷ []) (h n (omega arith))

-- The value stated for each position of a path is that of its source record.
pub stated_values : (q : Litmus) (w : Execution) (p : ℕ) →
    events_upto (code_at q p) (path_at w p) (λ k. (get_or (path_sources q w p) k no_source).value) (length (path_at w p)) ≡ events q w p
stated_values q w p =
    let n = length (path_at w p) in
    events_same (code_at q p) (path_at w p) (λ k. (get_or (path_sources q w p) k no_source).value) (λ k. (source_at q w p k).value) n
    (λ k l. ap (λ s. s.value) (get_or-map-range_with_len (source_at q w p) 0 n k k no_source l (omega arith)))

module _ (q : Litmus) (w : Execution) (p : ℕ) {code : List Instruction} {places : List ℕ} (a : code ≡ code_at q p) (b : places ≡ path_at w p) where
  -- The records from the first of a path on are those of the path.
  pub path_sourced : {records sources : List Source} {first : ℕ} → records ≡ w.sources → first ≡ loads_before q w p →
      sources ≡ map (λ k. get_or records (first + loads_upto code places k) no_source) (range_with_len 0 (length places)) → sources ≡ path_sources q w p
  path_sourced c d e = e ∙ (λ i. map (λ k. get_or (c i) (d i + loads_upto (a i) (b i) k) no_source) (range_with_len 0 (length (b i))))

  -- The events with those records are those of the path.
  pub path_evaluated : {sources : List Source} {es : List Event} → sources ≡ path_sources q w p →
      es ≡ events_upto code places (λ k. (get_or sources k no_source).value) (length places) → es ≡ events q w p
  path_evaluated s e = e ∙ (λ i. events_upto (a i) (b i) (λ k. (get_or (s i) k no_source).value) (length (b i))) ∙ stated_values q w p

-- The next event is added.
pub events_push : (code : List Instruction) (places : List ℕ) (stated : ℕ → ℕ) (n value : ℕ) {held more es : List Event} {e : Event} → n < 16 →
    held ≡ events_upto code places stated n → es ≡ held → value ≡ stated n → e ≡ next_event code es (get_or places n 0) value → more ≡ take 16 (held ++ e ∷ []) →
    more ≡ events_upto code places stated (n + 1)
events_push code places stated n value {held = held} {e = e} l h s v x m =
    let room : length held < 16 = omega (arith, ap length h, events_length code places stated n) in
    m ∙ push_room 16 held e room
    ∙ (λ i. h i ++ (x ∙ (λ j. next_event code ((s ∙ h) j) (get_or places n 0) (v j))) i ∷ [])
    ∙ sym (events_next code places stated n)
