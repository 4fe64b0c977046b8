-- All fetches are accepted one by one, remove nothing, and leave every path in its buffer.
use Rattle.std.proofs.Common.{◌≡◌, ℕ, zero, suc, ◌+◌, ◌<◌, ◌≤◌, List, [], ◌∷◌, ◌++◌, map, length, get_or, drop, set, sym, refl, ap, ◌∙◌, subst, arith}
use Rattle.std.specs.List.{range_with_len, flat_map}
use Rattle.std.proofs.lemmas.List.FromFn.{length-map-range_with_len, map-range_with_len_more}
use Rattle.std.proofs.lemmas.List.{append-nil, append_assoc, length-append, length-map, length-drop, drop_more, drop_all, set_at, get_or_at}
use Rattle.checker.specs.Axioms.{RunsThrough}
use Rattle.events.specs.Sources.{path_at, events}
use Rattle.machine.specs.State.{Core, State, empty_core, start_cell, started}
use Rattle.machine.specs.Steps.{after, with_core, run_all}
use Rattle.machine.specs.declared.step.Step.{Step}
use Rattle.question.specs.Litmus.{Litmus, code_at}
use Rattle.witness.specs.Execution.{Execution}
use Rattle.completeness.specs.Rebuilds.{Lead}
use Rattle.completeness.specs.StepsFor.{fetches}
use Rattle.completeness.proofs.PathFetched.{fetch_of, fetched_core, path_fetched}

-- One list of steps after another.
pub lead_append : (q : Litmus) {s t u : State} {xs ys : List Step} → Lead q s xs t → Lead q t ys u → Lead q s (xs ++ ys) u
lead_append q Lead.nothing b = b
lead_append q (Lead.next a r) b = Lead.next a (lead_append q r b)

-- Steps that lead to a state run to it.
pub lead_runs : (q : Litmus) {s t : State} (xs : List Step) → Lead q s xs t → run_all q s xs ≡ t
unfolding run_all
lead_runs q [] Lead.nothing = refl
lead_runs q {s} (x ∷ xs) (Lead.next a r) = ap (λ o. run_all q (after s o) xs) a ∙ lead_runs q xs r

-- The state in which every path is fetched.
abbrev pub fetched_state : Litmus → Execution → State
fetched_state q w = record { cores = map (fetched_core q w) (range_with_len 0 (length q.code)); order = []; cells = map start_cell q.start }

module _ (q : Litmus) (w : Execution) (runs : (p : ℕ) → p < length q.code → RunsThrough (code_at q p) (events q w p))
    (short : (p : ℕ) → length (path_at w p) ≤ 16) where
  -- The cores where the paths of the first n processors are fetched.
  abbrev first_cores : ℕ → List Core
  first_cores n = map (fetched_core q w) (range_with_len 0 n) ++ map (λ _. empty_core) (drop n q.code)

  abbrev first_fetched : ℕ → State
  first_fetched n = record { cores = first_cores n; order = []; cells = map start_cell q.start }

  module _ (n : ℕ) (l : n < length q.code) where
    fetched_size : length (map (fetched_core q w) (range_with_len 0 n)) ≡ n
    fetched_size = length-map-range_with_len (fetched_core q w) 0 n

    -- The next processor is empty.
    split : first_cores n ≡ map (fetched_core q w) (range_with_len 0 n) ++ empty_core ∷ map (λ _. empty_core) (drop (n + 1) q.code)
    split = ap (λ x. map (fetched_core q w) (range_with_len 0 n) ++ map (λ _. empty_core) x) (drop_more q.code n [] l)

    filled : with_core (first_fetched n) n (fetched_core q w n) ≡ first_fetched (n + 1)
    filled = ap (λ x. record { cores = x; order = []; cells = map start_cell q.start })
        (ap (λ x. set x n (fetched_core q w n)) split
        ∙ set_at (map (fetched_core q w) (range_with_len 0 n)) empty_core _ (fetched_core q w n) n fetched_size
        ∙ sym (append_assoc (map (fetched_core q w) (range_with_len 0 n)) (fetched_core q w n ∷ []) _)
        ∙ ap (λ x. x ++ map (λ _. empty_core) (drop (n + 1) q.code)) (sym (map-range_with_len_more (fetched_core q w) 0 n n (omega arith))))

    one_fetched : Lead q (first_fetched n) (map (fetch_of n) (events q w n)) (first_fetched (n + 1))
    one_fetched = subst (λ t. Lead q (first_fetched n) (map (fetch_of n) (events q w n)) t) filled
        (path_fetched q w n (runs n l) (short n) (first_fetched n)
        (omega (arith, length-append (map (fetched_core q w) (range_with_len 0 n)) (map (λ _. empty_core) (drop n q.code)), fetched_size, length-map (drop n q.code) (λ _. empty_core), length-drop n q.code))
        (ap (λ x. get_or x n empty_core) split ∙ get_or_at (map (fetched_core q w) (range_with_len 0 n)) empty_core _ empty_core n fetched_size))

  fetched_from : (k n : ℕ) → n + k ≡ length q.code → Lead q (first_fetched n) (flat_map (λ p. map (fetch_of p) (events q w p)) (range_with_len n k)) (first_fetched (length q.code))
  fetched_from zero n e =
      let z : n ≡ length q.code = omega arith in
      subst (λ t. Lead q (first_fetched n) [] t) (ap first_fetched z) Lead.nothing
  fetched_from (suc k) n e = lead_append q (one_fetched n (omega arith)) (fetched_from k (n + 1) (omega arith))

  -- The fetches lead there.
  pub all_fetched : Lead q (started q) (fetches q w) (fetched_state q w)
  all_fetched =
      let end : first_fetched (length q.code) ≡ fetched_state q w =
      ap (λ x. record { cores = x; order = []; cells = map start_cell q.start })
      (ap (λ x. map (fetched_core q w) (range_with_len 0 (length q.code)) ++ map (λ _. empty_core) x) (drop_all (length q.code) q.code (omega arith)) ∙ append-nil _) in
      subst (λ t. Lead q (started q) (fetches q w) t) end (fetched_from (length q.code) 0 (omega arith))
