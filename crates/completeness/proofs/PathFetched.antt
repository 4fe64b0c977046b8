-- The fetches of one path are accepted one by one, remove nothing, and leave its entries as fetched.
use Rattle.std.proofs.Common.{◌≡◌, ℕ, zero, suc, ◌+◌, ◌<◌, ◌≤◌, Bool, true, false, cond, eqb, List, [], map, length, get_or, take, drop, sym, refl, ap, ◌∙◌, subst, ap₂, arith}
use Rattle.std.proofs.lemmas.List.{length-take-le, length-map, length-set, take_all, map_more, drop_more, drop_all, set-set, set-get_or, get_or-set_same}
use Rattle.std.proofs.lemmas.Bool.{eqb-true, eqb-false}
use Rattle.checker.specs.Axioms.{leads_to, RunsThrough}
use Rattle.checker_laws.proofs.Built.{length_events, path_event_is}
use Rattle.events.specs.declared.event.Event.{Event}
use Rattle.events.specs.Events.{at, no_event, operand}
use Rattle.events.specs.Sources.{path_at, events}
use Rattle.instructions.specs.Effects.{next_place, guessed_place}
use Rattle.instructions.specs.Kinds.{branches, first_operand}
use Rattle.instructions.specs.declared.instruction.Instruction.{Instruction}
use Rattle.instructions.specs.declared.instruction.Instruction.TheVariants.{Add, Subtract, Load, Store, Branch, Fence}
use Rattle.machine.specs.Fires.{step, buffer, fetched_entry}
use Rattle.machine.specs.State.{Core, State, empty_core, core_at}
use Rattle.machine.specs.Steps.{went, with_core, core_fetched, step_outcome}
use Rattle.machine.specs.declared.step.Step.{Step}
use Rattle.machine_laws.proofs.FiresFetch.{fetch_goes, fetch_taken_goes}
use Rattle.question.specs.Litmus.{Litmus, code_at, instruction_at}
use Rattle.rules.specs.Entries.{fresh}
use Rattle.rules.specs.declared.entry.Entry.{Entry}
use Rattle.witness.specs.Execution.{Execution}
use Rattle.completeness.specs.Rebuilds.{Leads, Lead}
use Rattle.completeness.specs.StepsFor.{guess_of}

-- The guess and where it leads.
data Guess (e : Event) : Type 0 where
  straight : guess_of e ≡ 0 → guessed_place e.instruction e.place false ≡ e.next → Guess e
  taken : guess_of e ≡ 1 → branches e.instruction ≡ true → guessed_place e.instruction e.place true ≡ e.next → Guess e

-- The guess leads where the event does.
leads_as_guessed : (e : Event) (x : ℕ) → e.next ≡ next_place e.instruction e.place x → Guess e
leads_as_guessed e x h = go e.instruction refl h
  where
    go : (i : Instruction) → e.instruction ≡ i → e.next ≡ next_place i e.place x → Guess e
    go (Add d s1 s2 k) z n = straight (rw z refl) (rw z (sym n))
    go (Subtract d s1 s2 k) z n = straight (rw z refl) (rw z (sym n))
    go (Load d s1 k) z n = straight (rw z refl) (rw z (sym n))
    go (Store s1 s2 k j) z n = straight (rw z refl) (rw z (sym n))
    go (Fence a b) z n = straight (rw z refl) (rw z (sym n))
    go (Branch s1 k j) z n = turn (eqb e.next (e.place + 1)) refl (eqb x k) refl
      where
        turn : (b : Bool) → eqb e.next (e.place + 1) ≡ b → (c : Bool) → eqb x k ≡ c → Guess e
        turn true u c v = straight (rw (z, u) refl) (rw z (sym (eqb-true e.next (e.place + 1) u)))
        turn false u true v = taken (rw (z, u) refl) (rw z refl) (rw z (sym (n ∙ ap (λ t. cond t j (e.place + 1)) v)))
        turn false u false v = absurd (eqb-false e.next (e.place + 1) u (n ∙ ap (λ t. cond t j (e.place + 1)) v))

-- The entry of an event as it is fetched.
abbrev pub fresh_of : Event → Entry
fresh_of e = fresh e.place e.instruction e.next

-- The step that fetches an event of processor p.
abbrev pub fetch_of : ℕ → Event → Step
fetch_of p e = step 1 p 0 (guess_of e)

-- Processor p with its whole path fetched.
abbrev pub fetched_core : Litmus → Execution → ℕ → Core
fetched_core q w p = record { counter = leads_to (events q w p) (length (events q w p)); entries = map fresh_of (events q w p) }

module _ (q : Litmus) (w : Execution) (p : ℕ) (runs : RunsThrough (code_at q p) (events q w p)) (short : length (path_at w p) ≤ 16) where
  abbrev es : List Event
  es = events q w p

  -- The processor once the first n events are fetched.
  abbrev part : ℕ → Core
  part n = record { counter = leads_to es n; entries = map fresh_of (take n es) }

  part_size : (n : ℕ) → n ≤ length es → length (part n).entries ≡ n
  part_size n l = length-map (take n es) fresh_of ∙ length-take-le n es l

  event_guess : (n : ℕ) → n < length es → ((at es n).instruction ≡ instruction_at (code_at q p) (at es n).place) × Guess (at es n)
  event_guess n l =
      let e = path_event_is q w p n (omega (arith, length_events q w p)) in
      let i = ap (λ (x : Event). x.instruction) e in
      let z = ap (λ (x : Event). x.place) e in
      let v = ap (λ (x : Event). x.next) e in
      let x : ℕ = operand es n (first_operand (instruction_at (code_at q p) (get_or (path_at w p) n 0))) in
      (i ∙ ap (instruction_at (code_at q p)) (sym z), leads_as_guessed (at es n) x (v ∙ ap₂ (λ a b. next_place a b x) (sym i) (sym z)))

  module _ (s : State) (here : p < length s.cores) (n : ℕ) (l : n < length es) (now : core_at s p ≡ part n) where
    counter_is : (core_at s p).counter ≡ (at es n).place
    counter_is = ap (λ (c : Core). c.counter) now ∙ sym (runs.each n l).0

    size_is : length (buffer s p) ≡ n
    size_is = ap (λ (c : Core). length c.entries) now ∙ part_size n (omega arith)

    inside : (core_at s p).counter < length (code_at q p)
    inside = omega (arith, counter_is, (runs.each n l).1)

    room : length (buffer s p) < 16
    room = omega (arith, size_is, length_events q w p)

    coming : instruction_at (code_at q p) (core_at s p).counter ≡ (at es n).instruction
    coming = ap (instruction_at (code_at q p)) counter_is ∙ sym (event_guess n l).0

    entry_is : (b : Bool) → guessed_place (at es n).instruction (at es n).place b ≡ (at es n).next → fetched_entry q s p b ≡ fresh_of (at es n)
    entry_is b g = ap₂ (λ c i. fresh c i (guessed_place i c b)) counter_is coming ∙ ap (fresh (at es n).place (at es n).instruction) g

    grown : core_fetched (core_at s p) (fresh_of (at es n)) ≡ part (n + 1)
    grown =
        let more = map_more fresh_of es n no_event l in
        let on : suc n ≡ n + 1 = omega arith in
        ap (λ c. core_fetched c (fresh_of (at es n))) now
        ∙ ap (λ x. record { counter = (at es n).next; entries = x }) (ap (take 16) (sym more) ∙ take_all 16 (part (n + 1)).entries (omega (arith, part_size (n + 1) (omega arith), length_events q w p)))
        ∙ ap (λ k. record { counter = leads_to es k; entries = (part (n + 1)).entries }) on

    -- The fetch of the next event.
    fetch_leads : Guess (at es n) → Leads q s (fetch_of p (at es n)) (with_core s p (part (n + 1)))
    fetch_leads (straight g h) =
        ap (λ k. step_outcome q s (step 1 p 0 k)) g ∙ fetch_goes q s p here inside room
        ∙ ap (λ e. went 0 (with_core s p (core_fetched (core_at s p) e))) (entry_is false h) ∙ ap (λ c. went 0 (with_core s p c)) grown
    fetch_leads (taken g b h) =
        ap (λ k. step_outcome q s (step 1 p 0 k)) g ∙ fetch_taken_goes q s p here inside room (rw coming b)
        ∙ ap (λ e. went 0 (with_core s p (core_fetched (core_at s p) e))) (entry_is true h) ∙ ap (λ c. went 0 (with_core s p c)) grown

  -- From the first n events on.
  fetches_from : (k n : ℕ) → n + k ≡ length es → (s : State) → p < length s.cores → core_at s p ≡ part n →
      Lead q s (map (fetch_of p) (drop n es)) (with_core s p (part (length es)))
  fetches_from zero n z s here now =
      let e : n ≡ length es = omega arith in
      let rest : drop n es ≡ [] = drop_all n es (omega arith) in
      let same : with_core s p (part (length es)) ≡ s =
      ap (λ c. with_core s p c) (sym (now ∙ ap part e)) ∙ ap (λ x. record { cores = x; order = s.order; cells = s.cells }) (set-get_or s.cores p empty_core) in
      subst (λ xs. Lead q s (map (fetch_of p) xs) (with_core s p (part (length es)))) (sym rest) (subst (λ t. Lead q s [] t) (sym same) Lead.nothing)
  fetches_from (suc k) n z s here now =
      let l : n < length es = omega arith in
      let t : State = with_core s p (part (n + 1)) in
      let there : p < length t.cores = omega (arith, length-set s.cores p (part (n + 1))) in
      let r : Lead q t (map (fetch_of p) (drop (n + 1) es)) (with_core t p (part (length es))) =
      fetches_from k (n + 1) (omega arith) t there (get_or-set_same s.cores p (part (n + 1)) empty_core here) in
      let same : with_core t p (part (length es)) ≡ with_core s p (part (length es)) =
      ap (λ x. record { cores = x; order = s.order; cells = s.cells }) (set-set s.cores p (part (n + 1)) (part (length es))) in
      subst (λ xs. Lead q s (map (fetch_of p) xs) (with_core s p (part (length es)))) (sym (drop_more es n no_event l))
      (Lead.next (fetch_leads s here n l now (event_guess n l).1) (subst (λ u. Lead q t (map (fetch_of p) (drop (n + 1) es)) u) same r))

  -- From an empty buffer.
  pub path_fetched : (s : State) → p < length s.cores → core_at s p ≡ empty_core → Lead q s (map (fetch_of p) es) (with_core s p (fetched_core q w p))
  path_fetched s here now =
      let all : part (length es) ≡ fetched_core q w p = ap (λ x. record { counter = leads_to es (length es); entries = map fresh_of x }) (take_all (length es) es (omega arith)) in
      subst (λ c. Lead q s (map (fetch_of p) es) (with_core s p c)) all (fetches_from (length es) 0 (omega arith) s here now)
