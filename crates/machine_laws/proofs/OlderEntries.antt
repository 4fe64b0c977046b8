-- What the searches of the rules find in a buffer, from what stands at its positions.
use Rattle.std.proofs.Common.{◌≡◌, ℕ, ◌+◌, ◌-◌, ◌<◌, ◌≤◌, Bool, true, false, List, length, Some, None, ◌∙◌, arith}
use Rattle.rules.specs.declared.entry.Entry.{Entry}
use Rattle.rules.specs.Entries.{at, blank}
use Rattle.search.specs.Search.{nearest, first, passes}
use Rattle.search.proofs.Searches.{passes_at, nearest_is, nearest_is_none, first_is}

-- A position within the buffer passes as its entry does.
pub entry_passes : (t : Entry → Bool) (es : List Entry) (j : ℕ) → j < length es → passes t es j ≡ t (at es j)
entry_passes t es j l = passes_at t es j blank l

-- Where no older entry passes, the search finds nothing.
pub none_older : (t : Entry → Bool) (es : List Entry) (i : ℕ) → i ≤ length es → ((j : ℕ) → j < i → t (at es j) ≡ false) → nearest (passes t es) i ≡ None
none_older t es i l h = nearest_is_none (passes t es) i (λ j b. entry_passes t es j (omega arith) ∙ h j b)

-- The nearest older entry that passes is what the search finds.
pub nearest_older : (t : Entry → Bool) (es : List Entry) (i j : ℕ) → i ≤ length es → j < i → t (at es j) ≡ true →
    ((k : ℕ) → j < k → k < i → t (at es k) ≡ false) → nearest (passes t es) i ≡ Some j
nearest_older t es i j l b e h = nearest_is (passes t es) i j (record {
  below = b;
  hit = entry_passes t es j (omega arith) ∙ e;
  between = λ k a c. entry_passes t es k (omega arith) ∙ h k a c;
})

-- The first younger entry that passes is what the search finds.
pub first_younger : (t : Entry → Bool) (es : List Entry) (i m : ℕ) → i < m → m < length es → t (at es m) ≡ true →
    ((k : ℕ) → i < k → k < m → t (at es k) ≡ false) → first (passes t es) (i + 1) (length es - (i + 1)) ≡ Some m
first_younger t es i m a b e h = first_is (passes t es) (i + 1) (length es - (i + 1)) m (record {
  from = omega arith;
  within = omega arith;
  hit = entry_passes t es m b ∙ e;
  between = λ k c d. entry_passes t es k (omega arith) ∙ h k (omega arith) d;
})
