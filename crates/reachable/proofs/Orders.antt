-- The memory order lists exactly the done accesses, each once, after a rule that does no access, with or without a removal, and after one that does; and it has at most 64 elements.
use Rattle.std.proofs.Common.{◌≡◌, ℕ, ◌+◌, ◌*◌, ◌<◌, ◌≤◌, true, false, not, ◌&&◌, eqb, leb, ◌≢◌, ◌⊎◌, List, [], ◌∷◌, ◌++◌, length, sym, refl, ap, ◌∙◌, subst, ap₂, inl, inr, arith}
use Rattle.std.proofs.lemmas.List.{get_or_past, get_or_append_left, get_or_push, length_push, take_all}
use Rattle.std.proofs.lemmas.Bool.{both_ways, cases_eq, cases_lt, eq-eqb, ne_eqb, le-leb, lt-leb, and_left, and_right, not-true, and_cases}
use Rattle.instructions.specs.Kinds.{access}
use Rattle.machine.specs.Fires.{buffer, entry, instruction}
use Rattle.machine.specs.State.{Core, State, empty_core}
use Rattle.machine.specs.Steps.{only, stays, joined}
use Rattle.rules.specs.Entries.{at}
use Rattle.rules.specs.declared.entry.Entry.{Entry}
use Rattle.witness.specs.declared.record.Access.{Access}
use Rattle.reachable.specs.Order.{event, event_at, DoneAccess, ListsDone}
use Rattle.reachable.proofs.Picked.{only_from, only_into, only_once, only_all, few_different}
use Rattle.reachable.proofs.Put.{Put, by_processor}

-- A processor with an entry is there.
pub stands_there : (s : State) (p i : ℕ) → i < length (buffer s p) → p < length s.cores
stands_there s p i l = elim (cases_lt p (length s.cores)) [
  | inl h ↦ h
  | inr h ↦ absurd (omega (arith, ap (λ (c : Core). length c.entries) (get_or_past s.cores p empty_core h)))
]

-- An access of another processor stays.
pub others_stay : (p n r j : ℕ) → r ≢ p → stays p n (event r j) ≡ true
others_stay p n r j h = ap not (and_left (eqb r p) (leb n j) (ne_eqb r p h))

-- An access before position n stays.
pub older_stay : (p n r j : ℕ) → j < n → stays p n (event r j) ≡ true
older_stay p n r j l = ap not (and_right (eqb r p) (leb n j) (lt-leb n j l))

-- What stays of p is before position n.
pub stays_below : (p n r j : ℕ) → stays p n (event r j) ≡ true → r ≡ p → j < n
stays_below p n r j h e = elim (and_cases (eqb r p) (leb n j) (not-true (eqb r p && leb n j) h)) [
  | inl x ↦ absurd (both_ways (eqb r p) x (eq-eqb r p e))
  | inr x ↦ elim (cases_lt j n) [ inl y ↦ y | inr y ↦ absurd (both_ways (leb n j) x (le-leb n j y)) ]
]

-- A done access is the entry that it was.
done_same : (s t : State) (p i : ℕ) → entry t p i ≡ entry s p i → i < length (buffer t p) → DoneAccess s p i → DoneAccess t p i
done_same s t p i h l d = record { stands = l; accesses = ap (λ e. access e.instruction) h ∙ d.accesses; done = ap (λ e. e.done) h ∙ d.done }

module _ (s t : State) (p i n : ℕ) (e : Entry) (put : Put s t p i n e) (waits : i < length (buffer s p) → (entry s p i).done ≡ false) where
  -- The entry at i was not a done access.
  not_done_there : (j : ℕ) → DoneAccess s p j → j ≢ i
  not_done_there j d h =
      both_ways (entry s p i).done (waits (subst (λ x. x < length (buffer s p)) h d.stands)) (subst (λ x. (entry s p x).done ≡ true) h d.done)

  -- A done access that stays is one afterwards.
  done_on : (r j : ℕ) → DoneAccess s r j → (r ≡ p → j < n) → DoneAccess t r j
  done_on = by_processor (λ r. (j : ℕ) → DoneAccess s r j → (r ≡ p → j < n) → DoneAccess t r j) p
      (λ j d l. done_same s t p j (put.rest j (l refl) (not_done_there j d)) (omega (arith, put.size, l refl)) d)
      (λ r h j d l. done_same s t r j (ap (λ (c : Core). at c.entries j) (put.elsewhere r h)) (subst (λ (c : Core). j < length c.entries) (sym (put.elsewhere r h)) d.stands) d)

  -- A done access afterwards is the new entry, or was one before.
  done_back : (r j : ℕ) → DoneAccess t r j → ((r ≡ p) × (j ≡ i)) ⊎ (DoneAccess s r j × (r ≡ p → j < n))
  done_back = by_processor (λ r. (j : ℕ) → DoneAccess t r j → ((r ≡ p) × (j ≡ i)) ⊎ (DoneAccess s r j × (r ≡ p → j < n))) p here there
    where
      here : (j : ℕ) → DoneAccess t p j → ((p ≡ p) × (j ≡ i)) ⊎ (DoneAccess s p j × (p ≡ p → j < n))
      here j d =
          let l : j < n = omega (arith, put.size, d.stands) in
          elim (cases_eq j i) [ inl h ↦ inl (refl, h) | inr h ↦ inr (done_same t s p j (sym (put.rest j l h)) (put.before j l h) d, λ x. l) ]

      there : (r : ℕ) → r ≢ p → (j : ℕ) → DoneAccess t r j → ((r ≡ p) × (j ≡ i)) ⊎ (DoneAccess s r j × (r ≡ p → j < n))
      there r h j d = inr (
        done_same t s r j (ap (λ (c : Core). at c.entries j) (sym (put.elsewhere r h))) (subst (λ (c : Core). j < length c.entries) (put.elsewhere r h) d.stands) d,
        λ x. absurd (h x),
      )

  module _ (listed : ListsDone s s.order) where
    -- After a rule that does no access, the order is what stays of it.
    pub listed_quiet : (access e.instruction ≡ true → e.done ≡ false) → ListsDone t (only (stays p n) s.order)
    listed_quiet quiet = record { only_done = each; each_done = all; once = only_once (stays p n) s.order listed.once }
      where
        each : (k : ℕ) → k < length (only (stays p n) s.order) →
            DoneAccess t (event_at (only (stays p n) s.order) k).processor (event_at (only (stays p n) s.order) k).position
        each k l =
            let (m, w, z, y) = only_from (stays p n) s.order k l in
            subst (λ a. DoneAccess t a.processor a.position) z
            (done_on _ _ (listed.only_done m w) (stays_below p n (event_at s.order m).processor (event_at s.order m).position y))

        old : (r j : ℕ) → DoneAccess t r j → DoneAccess s r j × (r ≡ p → j < n)
        old r j d = elim (done_back r j d) [
          | inl h ↦ absurd (both_ways e.done
              (quiet (sym (ap (λ x. access x.instruction) put.here) ∙ sym (ap₂ (λ x y. access (instruction t x y)) h.0 h.1) ∙ d.accesses))
              (sym (ap (λ x. x.done) put.here) ∙ sym (ap₂ (λ x y. (entry t x y).done) h.0 h.1) ∙ d.done))
          | inr h ↦ h
        ]

        passes : (r j : ℕ) → (r ≡ p → j < n) → stays p n (event r j) ≡ true
        passes r j h = elim (cases_eq r p) [ inl x ↦ older_stay p n r j (h x) | inr x ↦ others_stay p n r j x ]

        all : (r j : ℕ) → DoneAccess t r j → (k : ℕ) × (k < length (only (stays p n) s.order)) × (event_at (only (stays p n) s.order) k ≡ event r j)
        all r j d =
            let (o, w) = old r j d in
            let (m, l, z) = listed.each_done r j o in
            let (k, b, y) = only_into (stays p n) s.order m l (ap (stays p n) z ∙ passes r j w) in
            (k, b, y ∙ z)

    -- Without a removal, all of it stays.
    pub all_stay : length (buffer s p) ≤ n → only (stays p n) s.order ≡ s.order
    all_stay l = only_all (stays p n) s.order (λ m b. by_processor (λ r. (j : ℕ) → DoneAccess s r j → stays p n (event r j) ≡ true) p
        (λ j d. older_stay p n p j (omega (arith, d.stands))) (λ r h j d. others_stay p n r j h) (event_at s.order m).processor (event_at s.order m).position (listed.only_done m b))

    -- After a rule that does an access, the order is the old one with that at its end.
    module _ (inside : i < length (buffer s p)) (whole : length (buffer s p) ≡ n) (accesses : access e.instruction ≡ true) (done : e.done ≡ true) where
      abbrev order : List Access
      order = s.order ++ event p i ∷ []

      at_old : (k : ℕ) → k < length s.order → event_at order k ≡ event_at s.order k
      at_old k l = get_or_append_left s.order (event p i ∷ []) (event 0 0) k l

      at_new : event_at order (length s.order) ≡ event p i
      at_new = get_or_push s.order (event p i) (event 0 0) (length s.order) refl

      new_done : DoneAccess t p i
      new_done = record { stands = omega (arith, put.size, put.within); accesses = ap (λ x. access x.instruction) put.here ∙ accesses; done = ap (λ x. x.done) put.here ∙ done }

      old_on : (r j : ℕ) → DoneAccess s r j → DoneAccess t r j
      old_on r j d = done_on r j d (λ h. subst (λ x. j < length (buffer s x) → j < n) (sym h) (λ l. omega arith) d.stands)

      each_listed : (k : ℕ) → k < length order → DoneAccess t (event_at order k).processor (event_at order k).position
      each_listed k l = elim (cases_lt k (length s.order)) [
        | inl h ↦ subst (λ a. DoneAccess t a.processor a.position) (sym (at_old k h)) (old_on _ _ (listed.only_done k h))
        | inr h ↦ (let z : k ≡ length s.order = omega (arith, length_push s.order (event p i)) in
            subst (λ a. DoneAccess t a.processor a.position) (sym (ap (event_at order) z ∙ at_new)) new_done)
      ]

      all_listed : (r j : ℕ) → DoneAccess t r j → (k : ℕ) × (k < length order) × (event_at order k ≡ event r j)
      all_listed r j d = elim (done_back r j d) [
        | inl h ↦ (length s.order, omega (arith, length_push s.order (event p i)), at_new ∙ ap₂ event (sym h.0) (sym h.1))
        | inr h ↦ (let (k, l, z) = listed.each_done r j h.0 in (k, omega (arith, length_push s.order (event p i)), at_old k l ∙ z))
      ]

      never_twice : (k m : ℕ) → k < m → m < length order → event_at order k ≡ event_at order m → ⊥
      never_twice k m b l h = elim (cases_lt m (length s.order)) [
        | inl x ↦ listed.once k m b x (sym (at_old k (omega arith)) ∙ h ∙ at_old m x)
        | inr x ↦ (let z : m ≡ length s.order = omega (arith, length_push s.order (event p i)) in
            let c : k < length s.order = omega arith in
            let y : event_at s.order k ≡ event p i = sym (at_old k c) ∙ h ∙ ap (event_at order) z ∙ at_new in
            not_done_there i (subst (λ a. DoneAccess s a.processor a.position) y (listed.only_done k c)) refl)
      ]

      pub listed_joined : ListsDone t (s.order ++ event p i ∷ [])
      listed_joined = record { only_done = each_listed; each_done = all_listed; once = never_twice }

-- Four processors of sixteen entries have at most 64 done accesses.
pub few_listed : (s : State) (order : List Access) → length s.cores ≤ 4 → ((p : ℕ) → length (buffer s p) ≤ 16) → ListsDone s order → length order ≤ 64
few_listed s order four room listed = few_different 64 (length order) number small apart
  where
    number : ℕ → ℕ
    number k = (event_at order k).processor * 16 + (event_at order k).position

    position_small : (k : ℕ) → k < length order → (event_at order k).position < 16
    position_small k l = omega (arith, (listed.only_done k l).stands, room (event_at order k).processor)

    small : (k : ℕ) → k < length order → number k < 64
    small k l = omega (arith, position_small k l, stands_there s (event_at order k).processor (event_at order k).position (listed.only_done k l).stands)

    apart : (k m : ℕ) → k < m → m < length order → number k ≡ number m → ⊥
    apart k m b l h =
        let x : (event_at order k).processor ≡ (event_at order m).processor = omega (arith, position_small k (omega arith), position_small m l, h) in
        let y : (event_at order k).position ≡ (event_at order m).position = omega (arith, x, h) in
        listed.once k m b l (ap₂ event x y)

-- After a rule that leaves at most sixteen entries, four processors have at most 64 done accesses.
module _ (s t : State) (p i n : ℕ) (e : Entry) (put : Put s t p i n e) (small : n ≤ 16) (room : (r : ℕ) → length (buffer s r) ≤ 16) where
  -- Every buffer has at most sixteen entries.
  pub room_put : (r : ℕ) → length (buffer t r) ≤ 16
  room_put = by_processor (λ r. length (buffer t r) ≤ 16) p (omega (arith, put.size))
      (λ r h. subst (λ (c : Core). length c.entries ≤ 16) (sym (put.elsewhere r h)) (room r))

  -- The order has at most 64 elements.
  pub few_put : length t.cores ≤ 4 → (order : List Access) → ListsDone t order → length order ≤ 64
  few_put four order = few_listed t order four room_put

  -- With a done access at its end nothing of the order is cut off.
  pub uncut : length t.cores ≤ 4 → (waits : i < length (buffer s p) → (entry s p i).done ≡ false) → ListsDone s s.order →
      i < length (buffer s p) → length (buffer s p) ≡ n → access e.instruction ≡ true → e.done ≡ true → joined s.order (event p i) ≡ s.order ++ event p i ∷ []
  uncut four waits listed l w x d = take_all 64 (s.order ++ event p i ∷ []) (few_put four (s.order ++ event p i ∷ []) (listed_joined s t p i n e put waits listed l w x d))
