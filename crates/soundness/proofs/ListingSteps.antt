-- The memory order at each rule: an access joins it as it is done, what is removed leaves it, and a fetch leaves it as it was.
use Rattle.std.proofs.Common.{◌≡◌, ℕ, ◌<◌, ◌≤◌, true, ◌⊎◌, List, [], ◌∷◌, ◌++◌, sym, refl, ap, ◌∙◌, inl, inr, arith}
use Rattle.std.proofs.lemmas.Bool.{cases_lt}
use Rattle.instructions.specs.Kinds.{access}
use Rattle.instructions.specs.declared.instruction.Instruction.{Instruction}
use Rattle.memory.specs.declared.cell.Mark.{Mark}
use Rattle.witness.specs.declared.record.Access.{Access}
use Rattle.checker.specs.Terms.{access_at}
use Rattle.soundness.proofs.Worlds.{Row}
use Rattle.soundness.proofs.Moves.{Put, Upd, Fetched, loaded, Reordered}
use Rattle.soundness.proofs.Times.{now_waits}
use Rattle.soundness.proofs.Sources.{put_each}
use Rattle.soundness.proofs.Listing.{Lists, lists_push, Fewer, lists_only, lists_same}

-- The memory order when the entry i of p is done at the moment c.
pub lists_done : (s s' : ℕ → Row) (l : List Access) (p i c : ℕ) (T' V' : ℕ → ℕ) (M' : ℕ → Mark) → Put s s' p (loaded (s p) T' V' M') → Upd (s p).time T' i c
    → ((q j : ℕ) → (s q).time j < c) → i < (s p).size → access ((s p).instruction i) ≡ true → Lists s l → Lists s' (l ++ (access_at p i ∷ []))
lists_done s s' l p i c T' V' M' put u cl w a li = lists_push s s' l p i c li (record {
  sizes = put_each (λ q x. x.size ≡ (s q).size) s s' p _ put refl (λ q e. refl);
  instructions = put_each (λ q x. (j : ℕ) → x.instruction j ≡ (s q).instruction j) s s' p _ put (λ j. refl) (λ q e j. refl);
  old = put_each (λ q x. (j : ℕ) → 0 < (s q).time j → x.time j ≡ (s q).time j) s s' p _ put (λ j d. omega (arith, u j)) (λ q e j d. refl);
  clocks = cl;
  new = elim (put p) [ inl h ↦ ap (λ x. x.time i) h.1 ∙ (now_waits (s p).time T' i c u).1 | inr h ↦ absurd (h.0 refl) ];
  within = w;
  is = a;
  fresh = put_each (λ q x. (j : ℕ) → 0 < x.time j → (0 < (s q).time j) ⊎ ((q ≡ p) × (j ≡ i))) s s' p _ put
      (λ j d. elim (u j) [ inl e ↦ inr (refl, e.0) | inr e ↦ inl (omega arith) ]) (λ q e j d. inl d);
})

-- The memory order when p's buffer is x', with the same accesses done at the same times among the first n'.
pub lists_cut : (s s' : ℕ → Row) (l l' : List Access) (p n' : ℕ) (x' : Row) → Put s s' p x' → x'.size ≡ n' → n' ≤ (s p).size → ((j : ℕ) → x'.instruction j ≡ (s p).instruction j)
    → ((j : ℕ) → access ((s p).instruction j) ≡ true → x'.time j ≡ (s p).time j) → Reordered p (s p).size n' l l' → Lists s l → Lists s' l'
lists_cut s s' l l' p n' x' put size less ins times o li = go o
  where
    fewer : Fewer s s' p n'
    fewer = record {
      here = elim (put p) [ inl e ↦ ap (λ x. x.size) e.1 ∙ size | inr e ↦ absurd (e.0 refl) ];
      less = less;
      there = λ q e. elim (put q) [ inl z ↦ absurd (e z.0) | inr z ↦ ap (λ x. x.size) z.1 ];
      instructions = put_each (λ q x. (j : ℕ) → x.instruction j ≡ (s q).instruction j) s s' p x' put ins (λ q e j. refl);
      times = put_each (λ q x. (j : ℕ) → access ((s q).instruction j) ≡ true → x.time j ≡ (s q).time j) s s' p x' put times (λ q e j a. refl);
    }

    same : n' ≡ (s p).size → Lists s' l
    same e = lists_same s s' l
        (put_each (λ q x. (j : ℕ) → j < (s q).size → access ((s q).instruction j) ≡ true → 0 < (s q).time j → (j < x.size) × (access (x.instruction j) ≡ true) × (x.time j ≡ (s q).time j)) s s' p x' put
        (λ j b a d. (omega (arith, size), ap access (ins j) ∙ a, times j a)) (λ q _ j b a d. (b, a, refl)))
        (put_each (λ q x. (j : ℕ) → j < x.size → access (x.instruction j) ≡ true → 0 < x.time j → (j < (s q).size) × (access ((s q).instruction j) ≡ true) × (0 < (s q).time j)) s s' p x' put
        (λ j b a d. let a' = ap access (sym (ins j)) ∙ a in (omega (arith, size), a', omega (arith, times j a'))) (λ q _ j b a d. (b, a, d)))
        li

    go : Reordered p (s p).size n' l l' → Lists s' l'
    go (Reordered.whole e q) = rw q (same e)
    go (Reordered.shortened q) = rw q (lists_only s s' l p n' li fewer)

-- The memory order when p fetches.
pub lists_fetched : (code : ℕ → Instruction) (end : ℕ) (s s' : ℕ → Row) (l : List Access) (p : ℕ) (x' : Row) → Put s s' p x' → Fetched code end (s p) x' → Lists s l → Lists s' l
lists_fetched code end s s' l p x' put f li = lists_same s s' l
    (put_each (λ q x. (j : ℕ) → j < (s q).size → access ((s q).instruction j) ≡ true → 0 < (s q).time j → (j < x.size) × (access (x.instruction j) ≡ true) × (x.time j ≡ (s q).time j)) s s' p x' put
    (λ j b a d. (omega (arith, f.size), ap access (f.instruction j b) ∙ a, f.time j b)) (λ q e j b a d. (b, a, refl)))
    (put_each (λ q x. (j : ℕ) → j < x.size → access (x.instruction j) ≡ true → 0 < x.time j → (j < (s q).size) × (access ((s q).instruction j) ≡ true) × (0 < (s q).time j)) s s' p x' put
    (λ j b a d. elim (cases_lt j (s p).size) [ inl z ↦ (z, ap access (sym (f.instruction j z)) ∙ a, omega (arith, f.time j z)) | inr z ↦ absurd (omega (arith, f.rest j z)) ])
    (λ q e j b a d. (b, a, d)))
    li
