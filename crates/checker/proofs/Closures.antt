-- The rows of the closure, built left to right.
use Rattle.std.proofs.Common.{◌≡◌, ℕ, zero, suc, ◌+◌, ◌<◌, Bool, false, ◌&&◌, ◌||◌, List, [], ◌∷◌, ◌++◌, length, get_or, take, sym, refl, ap, ◌∙◌, add-one, arith}
use Rattle.std.proofs.lemmas.List.{length_push}
use Rattle.question.specs.Litmus.{Litmus}
use Rattle.witness.specs.Execution.{Execution}
use Rattle.events.specs.declared.event.Event.{Event}
use Rattle.events.specs.Sources.{path_at, events}
use Rattle.events.proofs.Rows.{push_room}
use Rattle.ordering.specs.Tests.{some_below}
use Rattle.checker.specs.Tests.{all_below, reached, is_kept_in_order}
use Rattle.checker.specs.Views.{kept_by_row}
use Rattle.checker.proofs.Evaluations.{length_events}

-- Before the first event nothing is reached.
pub reached_none : (R : ℕ → ℕ → Bool) (i : ℕ) → [] ≡ reached R i 0
unfolding reached
reached_none R i = refl

-- A row has as many answers as events.
pub length_reached : (R : ℕ → ℕ → Bool) (i n : ℕ) → length (reached R i n) ≡ n
unfolding reached
length_reached R i zero = refl
length_reached R i (suc n) = length_push (reached R i n) _ ∙ rw add-one (ap suc (length_reached R i n))

-- The answer for one more event.
pub reached_next : (R : ℕ → ℕ → Bool) (i n : ℕ) →
    reached R i (n + 1) ≡ reached R i n ++ (R i n || some_below (λ k. get_or (reached R i n) k false && R k n) n) ∷ []
unfolding reached
reached_next R i n = rw add-one refl

-- What a vector holds after the answer for one more event was added.
pub reached_push : (R : ℕ → ℕ → Bool) (i n : ℕ) (row row' more : List Bool) (b : Bool) → n < 16 → row ≡ reached R i n → row' ≡ row →
    b ≡ (R i n || some_below (λ k. get_or row' k false && R k n) n) → more ≡ take 16 (row ++ b ∷ []) → more ≡ reached R i (n + 1)
reached_push R i n row row' more b l e f h m =
    let same : row' ≡ reached R i n = f ∙ e in
    let hit : b ≡ (R i n || some_below (λ k. get_or (reached R i n) k false && R k n) n) = h ∙ ap (λ xs. R i n || some_below (λ k. get_or xs k false && R k n) n) same in
    m ∙ push_room 16 row b (omega (arith, ap length e, length_reached R i n)) ∙ ap (λ xs. xs ++ b ∷ []) e ∙ ap (λ x. reached R i n ++ x ∷ []) hit ∙ sym (reached_next R i n)

-- What is reached through the events of a path is reached through its positions.
pub reached_on_path : (keeps : List Event → ℕ → ℕ → Bool) (q : Litmus) (w : Execution) (p i : ℕ) (es : List Event) → es ≡ events q w p →
    reached (keeps es) i (length es) ≡ reached (keeps (events q w p)) i (length (path_at w p))
reached_on_path keeps q w p i es d = ap (λ xs. reached (keeps xs) i (length xs)) d ∙ ap (reached (keeps (events q w p)) i) (length_events q w p)

-- The test of a row is the test of what is kept.
pub row_is_what_is_kept : (keeps : List Event → ℕ → ℕ → Bool) (q : Litmus) (w : Execution) (p i : ℕ) (row : List Bool) →
    row ≡ reached (keeps (events q w p)) i (length (path_at w p)) →
    all_below (kept_by_row q w row p i) (length row) ≡ all_below (is_kept_in_order q w keeps p i) (length (path_at w p))
row_is_what_is_kept keeps q w p i row same =
    ap (λ xs. all_below (kept_by_row q w xs p i) (length xs)) same
    ∙ ap (all_below (is_kept_in_order q w keeps p i)) (length_reached (keeps (events q w p)) i (length (path_at w p)))
