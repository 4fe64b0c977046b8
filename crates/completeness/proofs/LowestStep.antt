-- The search for the lowest step finds it, and finds nothing only where no local step is acceptable.
use Rattle.std.proofs.Common.{◌≡◌, ℕ, ◌+◌, ◌<◌, ◌≤◌, ◌⊎◌, List, [], ◌∷◌, map, length, refl, ap, ap₂, inl, inr, arith}
use Rattle.std.specs.List.{range_with_len, flat_map}
use Rattle.question.specs.Litmus.{Litmus}
use Rattle.machine.specs.Fires.{Fires, Stands, step}
use Rattle.machine.specs.State.{State}
use Rattle.machine.specs.declared.step.Step.{Step}
use Rattle.machine_laws.proofs.GoneFires.{gone_fires}
use Rattle.reachable.specs.Invariant.{Invariant}
use Rattle.completeness.specs.Rebuilds.{Local, Acceptable}
use Rattle.completeness.specs.StepsFor.{first_accepted, local_rules, entry_steps, local_steps, lowest}
use Rattle.completeness.proofs.FirstAccepted.{Rises, Chosen, chosen_as, chosen_append, chosen_one, chosen_nothing, chosen_joined}

-- What fires by rules 2 to 8 has its entry.
pub fires_stands : (q : Litmus) (s : State) (st : Step) (n : ℕ) (t : State) → Fires q s st n t → (st.rule ≡ 1 → ⊥) → Stands s st.processor st.position
fires_stands q s _ _ _ (Fires.fetch_taken p a b c d) h = absurd (h refl)
fires_stands q s _ _ _ (Fires.fetch p a b c) h = absurd (h refl)
fires_stands q s _ _ _ (Fires.arithmetic p i x y a b c d e) h = a
fires_stands q s _ _ _ (Fires.branch_as_guessed p i x a b c d e) h = a
fires_stands q s _ _ _ (Fires.branch_otherwise p i x a b c d e) h = a
fires_stands q s _ _ _ (Fires.fence p i a b c d) h = a
fires_stands q s _ _ _ (Fires.load_forwarded p i a j v b c d e f g k l) h = b
fires_stands q s _ _ _ (Fires.load_from_memory p i a b c d e f g) h = b
fires_stands q s _ _ _ (Fires.store_data p i y a b c d) h = a
fires_stands q s _ _ _ (Fires.store p i a d b c e f g k l m o) h = b
fires_stands q s _ _ _ (Fires.address p i x a b c d e) h = a
fires_stands q s _ _ _ (Fires.address_removes p i x m a b c d e f g) h = a

-- A local step is no fetch.
pub local_no_fetch : (st : Step) → Local st → st.rule ≡ 1 → ⊥
local_no_fetch _ (Local.arithmetic p i) e = omega arith
local_no_fetch _ (Local.branch p i) e = omega arith
local_no_fetch _ (Local.fence p i) e = omega arith
local_no_fetch _ (Local.store_data p i) e = omega arith
local_no_fetch _ (Local.address p i) e = omega arith

-- A local step of position i of processor p.
pub record LocalAt (p i : ℕ) (st : Step) : Type 0 where
  pub local : Local st
  pub processor : st.processor ≡ p
  pub position : st.position ≡ i

-- The step has this processor, this position and a rule beyond.
abbrev Beyond : ℕ → ℕ → ℕ → Step → Type 0
Beyond p i a b = (b.processor ≡ p) × (b.position ≡ i) × (a < b.rule)

module _ (p i : ℕ) where
  -- The step is one of the entry by one of these rules.
  abbrev ByRules : List ℕ → Step → Type 0
  ByRules [] x = ⊥
  ByRules (r ∷ rs) x = (x ≡ step r p i 0) ⊎ ByRules rs x

  -- The rules go up from a on.
  abbrev Up : ℕ → List ℕ → Type 0
  Up a [] = Unit {0}
  Up a (r ∷ rs) = (a < r) × Up r rs

  is_beyond : (a r : ℕ) (b : Step) → a < r → b ≡ step r p i 0 → Beyond p i a b
  is_beyond a r b l e = (ap (λ (k : Step). k.processor) e, ap (λ (k : Step). k.position) e, omega (arith, ap (λ (k : Step). k.rule) e))

  all_beyond : (a : ℕ) (rs : List ℕ) → Up a rs → (b : Step) → ByRules rs b → Beyond p i a b
  all_beyond a [] u b h = absurd h
  all_beyond a (r ∷ rs) (l, u) b (inl e) = is_beyond a r b l e
  all_beyond a (r ∷ rs) (l, u) b (inr h) = let z = all_beyond r rs u b h in (z.0, z.1, omega (arith, z.2))

  -- Behind a rule come only those with a greater number.
  rule_rises : (a : ℕ) (rs : List ℕ) → Up a rs → Rises (λ x. x ≡ step a p i 0) (ByRules rs)
  rule_rises a rs up x y z v l =
      let x0 = ap (λ (k : Step). k.processor) z in
      let x1 = ap (λ (k : Step). k.position) z in
      let x2 = ap (λ (k : Step). k.rule) z in
      let u = all_beyond a rs up y v in
      elim l [
        | inl b ↦ omega (arith, u.0, x0)
        | inr (e, b) ↦ elim b [ inl c ↦ omega (arith, u.1, x1) | inr (f, c) ↦ omega (arith, u.2, x2) ]
      ]

  by_rules_local : (st : Step) → ByRules local_rules st → LocalAt p i st
  by_rules_local st (inl e) = rw e (record { local = Local.arithmetic p i; processor = refl; position = refl })
  by_rules_local st (inr (inl e)) = rw e (record { local = Local.branch p i; processor = refl; position = refl })
  by_rules_local st (inr (inr (inl e))) = rw e (record { local = Local.fence p i; processor = refl; position = refl })
  by_rules_local st (inr (inr (inr (inl e)))) = rw e (record { local = Local.store_data p i; processor = refl; position = refl })
  by_rules_local st (inr (inr (inr (inr (inl e))))) = rw e (record { local = Local.address p i; processor = refl; position = refl })
  by_rules_local st (inr (inr (inr (inr (inr h))))) = absurd h

  local_by_rules : (st : Step) → LocalAt p i st → ByRules local_rules st
  local_by_rules st h = go st h.local h.processor h.position
    where
      go : (x : Step) → Local x → x.processor ≡ p → x.position ≡ i → ByRules local_rules x
      go _ (Local.arithmetic a b) e f = inl (ap₂ (λ x y. step 2 x y 0) e f)
      go _ (Local.branch a b) e f = inr (inl (ap₂ (λ x y. step 3 x y 0) e f))
      go _ (Local.fence a b) e f = inr (inr (inl (ap₂ (λ x y. step 4 x y 0) e f)))
      go _ (Local.store_data a b) e f = inr (inr (inr (inl (ap₂ (λ x y. step 6 x y 0) e f))))
      go _ (Local.address a b) e f = inr (inr (inr (inr (inl (ap₂ (λ x y. step 8 x y 0) e f)))))

module _ (q : Litmus) (s : State) where
  chosen_rules : (p i a : ℕ) (rs : List ℕ) → Up p i a rs → Chosen q s (ByRules p i rs) (first_accepted q s (map (λ r. step r p i 0) rs))
  chosen_rules p i a [] up = chosen_nothing q s _ (λ st h. h)
  chosen_rules p i a (r ∷ rs) (l, up) =
      chosen_append q s _ _ (step r p i 0 ∷ []) (map (λ r. step r p i 0) rs) (rule_rises p i r rs up) (chosen_one q s (step r p i 0)) (chosen_rules p i r rs up)

  chosen_entry : (p i : ℕ) → Chosen q s (LocalAt p i) (first_accepted q s (entry_steps p i))
  chosen_entry p i = chosen_as q s _ _ (by_rules_local p i) (λ st a. local_by_rules p i st) _
      (chosen_rules p i 1 local_rules (omega arith, (omega arith, (omega arith, (omega arith, (omega arith, tt))))))

  -- A local step of one of the first sixteen positions of processor p.
  abbrev OfProcessor : ℕ → Step → Type 0
  OfProcessor p st = (i : ℕ) × (0 ≤ i) × (i < 0 + 16) × LocalAt p i st

  chosen_processor : (p : ℕ) → Chosen q s (OfProcessor p) (first_accepted q s (flat_map (entry_steps p) (range_with_len 0 16)))
  chosen_processor p = chosen_joined q s (LocalAt p) (entry_steps p)
      (λ a b l x y u v w. elim w [
        | inl k ↦ omega (arith, u.processor, v.processor)
        | inr (e, k) ↦ elim k [ inl m ↦ omega (arith, u.position, v.position) | inr (f, m) ↦ omega (arith, u.position, v.position) ]
      ])
      (chosen_entry p) 0 16

  -- Of all processors.
  chosen_local : (n : ℕ) → Chosen q s (λ st. (p : ℕ) × (0 ≤ p) × (p < 0 + n) × OfProcessor p st) (first_accepted q s (local_steps n))
  chosen_local n = chosen_joined q s OfProcessor (λ p. flat_map (entry_steps p) (range_with_len 0 16))
      (λ a b l x y (i, m, k, u) (j, m', k', v) w. elim w [
        | inl z ↦ omega (arith, u.processor, v.processor)
        | inr (e, z) ↦ omega (arith, u.processor, v.processor)
      ])
      chosen_processor 0 n

  module _ (inv : Invariant q s) where
    -- An acceptable local step is listed.
    is_listed : (st : Step) → Acceptable q s st → Local st → (p : ℕ) × (0 ≤ p) × (p < 0 + length s.cores) × OfProcessor p st
    is_listed st (n, t, e) l =
        let h = fires_stands q s st n t (gone_fires q s st n t e) (local_no_fetch st l) in
        (st.processor, omega arith, omega (arith, h.0), (st.position, omega arith, omega (arith, h.1, inv.room st.processor), record { local = l; processor = refl; position = refl }))

    -- The lowest local step, as the search finds it.
    pub lowest_chosen : Chosen q s Local (lowest q s)
    lowest_chosen = chosen_as q s _ Local (λ st (p, a, b, (i, c, d, l)). l.local) is_listed _ (chosen_local (length s.cores))
