-- How the states that the rules lead to look: one buffer with an entry changed, cut behind it or not, or with one more.
use Rattle.std.proofs.Common.{◌≡◌, ℕ, ◌+◌, ◌<◌, ◌≤◌, ◌≢◌, [], ◌∷◌, ◌++◌, length, get_or, take, set, sym, refl, ap, ◌∙◌, arith}
use Rattle.std.proofs.lemmas.List.{length-set, length_push, length-take-le, get_or-set_same, get_or-set_other, get_or-take, get_or_append_left, get_or_push, take_all}
use Rattle.machine.specs.Fires.{buffer}
use Rattle.machine.specs.State.{Core, State, core_at, empty_core}
use Rattle.rules.specs.Entries.{at, blank}
use Rattle.rules.specs.declared.entry.Entry.{Entry}
use Rattle.reachable.proofs.Put.{Put}

-- One processor is replaced.
module _ (s t : State) (p : ℕ) (c : Core) (here : p < length s.cores) (cores : t.cores ≡ set s.cores p c) where
  pub core_here : core_at t p ≡ c
  core_here = ap (λ cs. get_or cs p empty_core) cores ∙ get_or-set_same s.cores p c empty_core here

  core_there : (r : ℕ) → r ≢ p → core_at t r ≡ core_at s r
  core_there r h = ap (λ cs. get_or cs r empty_core) cores ∙ get_or-set_other s.cores p r c empty_core h

  pub processors_same : length t.cores ≡ length s.cores
  processors_same = ap length cores ∙ length-set s.cores p c

  buffer_here : buffer t p ≡ c.entries
  buffer_here = ap (λ (x : Core). x.entries) core_here

  -- Its entry at i is changed, and n entries are left.
  pub put_changed : (i n : ℕ) (e : Entry) → i < n → n ≤ length (buffer s p) → c.entries ≡ take n (set (buffer s p) i e) → Put s t p i n e
  put_changed i n e l m h = record {
    within = l;
    elsewhere = core_there;
    size = ap length (buffer_here ∙ h) ∙ length-take-le n (set (buffer s p) i e) (omega (arith, length-set (buffer s p) i e));
    here = ap (λ es. at es i) (buffer_here ∙ h) ∙ get_or-take n (set (buffer s p) i e) i blank l ∙ get_or-set_same (buffer s p) i e blank (omega arith);
    before = λ j b z. omega arith;
    rest = λ j b z. ap (λ es. at es j) (buffer_here ∙ h) ∙ get_or-take n (set (buffer s p) i e) j blank b ∙ get_or-set_other (buffer s p) i j e blank z;
  }

  -- Its entry at i is changed, and all are left.
  pub put_whole : (i : ℕ) (e : Entry) → i < length (buffer s p) → c.entries ≡ set (buffer s p) i e → Put s t p i (length (buffer s p)) e
  put_whole i e l h = put_changed i (length (buffer s p)) e l (omega arith)
      (h ∙ sym (take_all (length (buffer s p)) (set (buffer s p) i e) (omega (arith, length-set (buffer s p) i e))))

  -- It has one more entry.
  pub put_fetched : (e : Entry) → length (buffer s p) < 16 → c.entries ≡ take 16 (buffer s p ++ e ∷ []) → Put s t p (length (buffer s p)) (length (buffer s p) + 1) e
  put_fetched e l h = record {
    within = omega arith;
    elsewhere = core_there;
    size = ap length all ∙ length_push (buffer s p) e;
    here = ap (λ es. at es (length (buffer s p))) all ∙ get_or_push (buffer s p) e blank (length (buffer s p)) refl;
    before = λ j b z. omega arith;
    rest = λ j b z. ap (λ es. at es j) all ∙ get_or_append_left (buffer s p) (e ∷ []) blank j (omega arith);
  }
    where
      all : buffer t p ≡ buffer s p ++ e ∷ []
      all = buffer_here ∙ h ∙ take_all 16 (buffer s p ++ e ∷ []) (omega (arith, length_push (buffer s p) e))
