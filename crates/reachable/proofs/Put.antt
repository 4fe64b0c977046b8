-- A rule puts one entry, new or changed, into one buffer and may cut that behind it: every entry keeps what it kept, and the places follow each other.
use Rattle.std.proofs.Common.{◌≡◌, ℕ, ◌+◌, ◌<◌, ◌≤◌, cond, ltb, ◌≢◌, length, sym, ap, ◌∙◌, subst, inl, inr, arith}
use Rattle.std.proofs.lemmas.Bool.{cases_eq, cases_lt, lt-ltb, le-ltb, cond-true, cond-false}
use Rattle.machine.specs.Fires.{buffer, entry}
use Rattle.machine.specs.State.{Core, State, core_at}
use Rattle.question.specs.Litmus.{Litmus}
use Rattle.rules.specs.Entries.{at}
use Rattle.rules.specs.declared.entry.Entry.{Entry}
use Rattle.reachable.specs.Entries.{EntryKept}
use Rattle.reachable.specs.Laws.{Onward}
use Rattle.reachable.specs.Places.{place_at, Chained}
use Rattle.reachable.proofs.Moved.{onward_same, kept_moved}

-- The buffer of p has n entries afterwards, e at position i and the others as before; the other processors are as before.
pub record Put (s t : State) (p i n : ℕ) (e : Entry) : Type 0 where
  pub within : i < n
  pub elsewhere : (r : ℕ) → r ≢ p → core_at t r ≡ core_at s r
  pub size : length (buffer t p) ≡ n
  pub here : entry t p i ≡ e
  pub before : (j : ℕ) → j < n → j ≢ i → j < length (buffer s p)
  pub rest : (j : ℕ) → j < n → j ≢ i → entry t p j ≡ entry s p j

-- Where the counter of p goes: past entries whose places did not change, or where e, the youngest now, leads.
pub data Leads (s t : State) (p i n : ℕ) (e : Entry) : Type 0 where
  on : e.next ≡ (entry s p i).next → i < length (buffer s p) → (core_at t p).counter ≡ place_at s p n → Leads s t p i n e
  ends : i + 1 ≡ n → (core_at t p).counter ≡ e.next → Leads s t p i n e

-- The place at a position of a processor, or that it fetches next.
abbrev core_place : Core → ℕ → ℕ
core_place c i = cond (ltb i (length c.entries)) (at c.entries i).place c.counter

-- The place of an entry.
pub place_within : (s : State) (p i : ℕ) → i < length (buffer s p) → place_at s p i ≡ (entry s p i).place
place_within s p i l = cond-true (ltb i (length (buffer s p))) _ _ (lt-ltb i (length (buffer s p)) l)

-- The place behind the youngest entry.
pub place_behind : (s : State) (p i : ℕ) → length (buffer s p) ≤ i → place_at s p i ≡ (core_at s p).counter
place_behind s p i l = cond-false (ltb i (length (buffer s p))) _ _ (le-ltb i (length (buffer s p)) l)

-- What holds of p and of the others holds of all.
pub by_processor : (P : ℕ → Type 0) (p : ℕ) → P p → ((r : ℕ) → r ≢ p → P r) → (r : ℕ) → P r
by_processor P p here there r = elim (cases_eq r p) [ inl h ↦ subst P (sym h) here | inr h ↦ there r h ]

module _ (s t : State) (p i n : ℕ) (e : Entry) (put : Put s t p i n e) where
  module _ (on : i < length (buffer s p) → Onward (entry s p i) e) where
    -- An entry of p that stays went onward.
    onward_here : (j : ℕ) → j < n → j < length (buffer s p) → Onward (entry s p j) (entry t p j)
    onward_here j l m = elim (cases_eq j i) [
      | inl h ↦ subst (λ x. Onward (entry s p x) (entry t p x)) (sym h) (subst (λ x. Onward (entry s p i) x) (sym put.here) (on (omega arith)))
      | inr h ↦ onward_same _ _ (put.rest j l h)
    ]

    -- An entry of another processor went onward.
    onward_there : (r : ℕ) → r ≢ p → (j : ℕ) → Onward (entry s r j) (entry t r j)
    onward_there r h j = onward_same _ _ (ap (λ (c : Core). at c.entries j) (put.elsewhere r h))

    -- An entry that stays went onward.
    pub put_onward : (r j : ℕ) → j < length (buffer s r) → j < length (buffer t r) → Onward (entry s r j) (entry t r j)
    put_onward = by_processor (λ r. (j : ℕ) → j < length (buffer s r) → j < length (buffer t r) → Onward (entry s r j) (entry t r j)) p
        (λ j l m. onward_here j (omega (arith, put.size)) l) (λ r h j l m. onward_there r h j)

    module _ (q : Litmus) (kept : EntryKept q s p i e) (all : (r j : ℕ) → j < length (buffer s r) → EntryKept q s r j (entry s r j)) where
      kept_at_i : EntryKept q t p i (entry t p i)
      kept_at_i = subst (λ x. EntryKept q t p i x) (sym put.here)
          (kept_moved s t p i (λ j l. onward_same _ _ (put.rest j (omega (arith, put.within)) (omega arith))) e q kept)

      kept_here : (j : ℕ) → j < n → EntryKept q t p j (entry t p j)
      kept_here j l = elim (cases_eq j i) [
        | inl h ↦ subst (λ x. EntryKept q t p x (entry t p x)) (sym h) kept_at_i
        | inr h ↦ (let m = put.before j l h in
            subst (λ x. EntryKept q t p j x) (sym (put.rest j l h))
            (kept_moved s t p j (λ k b. onward_here k (omega arith) (omega arith)) (entry s p j) q (all p j m)))
      ]

      kept_there : (r : ℕ) → r ≢ p → (j : ℕ) → j < length (buffer t r) → EntryKept q t r j (entry t r j)
      kept_there r h j l =
          let m : j < length (buffer s r) = subst (λ (c : Core). j < length c.entries) (put.elsewhere r h) l in
          subst (λ x. EntryKept q t r j x) (ap (λ (c : Core). at c.entries j) (sym (put.elsewhere r h)))
          (kept_moved s t r j (λ k b. onward_there r h k) (entry s r j) q (all r j m))

      -- Every entry keeps what it kept.
      pub entries_put : (r j : ℕ) → j < length (buffer t r) → EntryKept q t r j (entry t r j)
      entries_put = by_processor (λ r. (j : ℕ) → j < length (buffer t r) → EntryKept q t r j (entry t r j)) p
          (λ j l. kept_here j (omega (arith, put.size))) kept_there

  module _ (place : e.place ≡ place_at s p i) (leads : Leads s t p i n e) (chained : (r : ℕ) → Chained s r) where
    -- A position's place is what it was.
    place_put : (j : ℕ) → j < n → place_at t p j ≡ place_at s p j
    place_put j l = elim (cases_eq j i) [
      | inl h ↦ rw h (place_within t p i (omega (arith, put.size, put.within)) ∙ ap (λ x. x.place) put.here ∙ place)
      | inr h ↦ place_within t p j (omega (arith, put.size)) ∙ ap (λ x. x.place) (put.rest j l h) ∙ sym (place_within s p j (put.before j l h))
    ]

    -- Behind the youngest entry.
    place_end : place_at t p n ≡ (core_at t p).counter
    place_end = place_behind t p n (omega (arith, put.size))

    place_on : (core_at t p).counter ≡ place_at s p n → (j : ℕ) → j ≤ n → place_at t p j ≡ place_at s p j
    place_on c j l = elim (cases_lt j n) [
      | inl h ↦ place_put j h
      | inr h ↦ (let z : j ≡ n = omega arith in rw z (place_end ∙ c))
    ]

    next_rest : Leads s t p i n e → (j : ℕ) → j < n → j ≢ i → place_at t p (j + 1) ≡ place_at s p (j + 1)
    next_rest (on x b c) j l h = place_on c (j + 1) (omega arith)
    next_rest (ends z c) j l h = place_put (j + 1) (omega arith)

    next_here : Leads s t p i n e → e.next ≡ place_at t p (i + 1)
    next_here (on x b c) = x ∙ (chained p).follows i b ∙ sym (place_on c (i + 1) (omega (arith, put.within)))
    next_here (ends z c) = sym c ∙ sym place_end ∙ ap (place_at t p) (sym z)

    follows_here : (j : ℕ) → j < n → (entry t p j).next ≡ place_at t p (j + 1)
    follows_here j l = elim (cases_eq j i) [
      | inl h ↦ rw h (ap (λ x. x.next) put.here ∙ next_here leads)
      | inr h ↦ ap (λ x. x.next) (put.rest j l h) ∙ (chained p).follows j (put.before j l h) ∙ sym (next_rest leads j l h)
    ]

    chained_there : (r : ℕ) → r ≢ p → Chained t r
    chained_there r h = record {
      starts = subst (λ c. core_place c 0 ≡ 0) (sym (put.elsewhere r h)) (chained r).starts;
      follows = subst (λ (c : Core). (j : ℕ) → j < length c.entries → (at c.entries j).next ≡ core_place c (j + 1)) (sym (put.elsewhere r h)) (chained r).follows;
    }

    -- The places follow each other.
    pub chained_put : (r : ℕ) → Chained t r
    chained_put = by_processor (Chained t) p
        (record { starts = place_put 0 (omega (arith, put.within)) ∙ (chained p).starts; follows = λ j l. follows_here j (omega (arith, put.size)) })
        chained_there
