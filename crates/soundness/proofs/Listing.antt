-- The memory order lists the done accesses by their times: at a done access, at a removal, and otherwise.
use Rattle.std.proofs.Common.{◌≡◌, ℕ, ◌<◌, ◌≤◌, true, ◌≢◌, ◌⊎◌, List, [], ◌∷◌, ◌++◌, sym, ap, ◌∙◌, subst, ap₂, inl, inr, arith}
use Rattle.std.proofs.lemmas.Bool.{cases_eq, cases_lt, eq-eqb, ne_eqb, le-leb, lt-leb}
use Rattle.instructions.specs.Kinds.{access}
use Rattle.witness.specs.declared.record.Access.{Access}
use Rattle.machine.specs.Steps.{stays, only}
use Rattle.checker.specs.Terms.{access_at}
use Rattle.soundness.proofs.Worlds.{Row}
use Rattle.soundness.proofs.Ends.{moment, Listed}
use Rattle.soundness.proofs.KindFacts.{true_not_false}
use Rattle.soundness.proofs.Orders.{In, Rises, in_push, push_in, push_last, rises_push, rises_same, in_only, only_in, rises_only, in_stands, stands_in, rises_stands}

-- The list has the done accesses, rising in time.
pub record Lists (s : ℕ → Row) (l : List Access) : Type 0 where
  pub rises : Rises (moment s) l
  pub sound : (a : Access) → In a l → (a.position < (s a.processor).size) × (access ((s a.processor).instruction a.position) ≡ true) × (0 < moment s a)
  pub complete : (p i : ℕ) → i < (s p).size → access ((s p).instruction i) ≡ true → 0 < (s p).time i → In (access_at p i) l

pub lists_listed : (s : ℕ → Row) (l : List Access) → Lists s l → Listed s l
lists_listed s l h = record {
  sorted = rises_stands (moment s) l h.rises;
  nothing_else = λ i a st. h.sound a (stands_in l i a st);
  complete = λ p k w a d. in_stands l (access_at p k) (h.complete p k w a d);
}

-- The entry i of p is done at the moment c.
pub record More (s s' : ℕ → Row) (p i c : ℕ) : Type 0 where
  pub sizes : (q : ℕ) → (s' q).size ≡ (s q).size
  pub instructions : (q j : ℕ) → (s' q).instruction j ≡ (s q).instruction j
  pub old : (q j : ℕ) → 0 < (s q).time j → (s' q).time j ≡ (s q).time j
  pub clocks : (q j : ℕ) → (s q).time j < c
  pub new : (s' p).time i ≡ c
  pub within : i < (s p).size
  pub is : access ((s p).instruction i) ≡ true
  pub fresh : (q j : ℕ) → 0 < (s' q).time j → (0 < (s q).time j) ⊎ ((q ≡ p) × (j ≡ i))

pub lists_push : (s s' : ℕ → Row) (l : List Access) (p i c : ℕ) → Lists s l → More s s' p i c → Lists s' (l ++ (access_at p i ∷ []))
lists_push s s' l p i c li m = record {
  rises = rises_push (moment s') l (access_at p i)
      (rises_same (moment s) (moment s') l (λ y h. m.old y.processor y.position (li.sound y h).2) li.rises)
      (λ y h. omega (arith, m.old y.processor y.position (li.sound y h).2, m.clocks y.processor y.position, m.new));
  sound = λ e h. elim (in_push l e (access_at p i) h) [
    | inl h' ↦ (let r = li.sound e h' in (omega (arith, m.sizes e.processor), ap access (m.instructions e.processor e.position) ∙ r.1, omega (arith, m.old e.processor e.position r.2, r.2)))
    | inr h' ↦ rw h' (omega (arith, m.sizes p, m.within), ap access (m.instructions p i) ∙ m.is, omega (arith, m.new, m.clocks p i))
  ];
  complete = λ q j w a d. elim (m.fresh q j d) [
    | inl h ↦ push_in l (access_at q j) (access_at p i) (li.complete q j (omega (arith, m.sizes q)) (ap access (sym (m.instructions q j)) ∙ a) h)
    | inr h ↦ subst (λ e. In e (l ++ (access_at p i ∷ []))) (ap₂ {C = Access} (λ a b. access_at a b) (sym h.0) (sym h.1)) (push_last l (access_at p i))
  ];
}

-- A removal on p down to n entries.
pub record Fewer (s s' : ℕ → Row) (p n : ℕ) : Type 0 where
  pub here : (s' p).size ≡ n
  pub less : n ≤ (s p).size
  pub there : (q : ℕ) → q ≢ p → (s' q).size ≡ (s q).size
  pub instructions : (q j : ℕ) → (s' q).instruction j ≡ (s q).instruction j
  pub times : (q j : ℕ) → access ((s q).instruction j) ≡ true → (s' q).time j ≡ (s q).time j

stays_on : (s s' : ℕ → Row) (p n q j : ℕ) → Fewer s s' p n → stays p n (access_at q j) ≡ true → j < (s q).size → j < (s' q).size
stays_on s s' p n q j f h w = elim (cases_eq q p) [
  | inl e ↦ elim (cases_lt j n) [
    | inl z ↦ rw e (omega (arith, f.here))
    | inr z ↦ absurd (true_not_false (sym h ∙ rw (eq-eqb q p e, le-leb n j z)))
  ]
  | inr e ↦ omega (arith, f.there q e)
]

on_stays : (s s' : ℕ → Row) (p n q j : ℕ) → Fewer s s' p n → j < (s' q).size → (stays p n (access_at q j) ≡ true) × (j < (s q).size)
on_stays s s' p n q j f w = elim (cases_eq q p) [
  | inl e ↦ (let z : j < n = omega (arith, ap (λ x. (s' x).size) e, f.here) in (rw (eq-eqb q p e, lt-leb n j z), omega (arith, f.less, ap (λ x. (s x).size) e)))
  | inr e ↦ (rw (ne_eqb q p e), omega (arith, f.there q e))
]

pub lists_only : (s s' : ℕ → Row) (l : List Access) (p n : ℕ) → Lists s l → Fewer s s' p n → Lists s' (only (stays p n) l)
lists_only s s' l p n li f = record {
  rises = rises_only (moment s') (stays p n) l (rises_same (moment s) (moment s') l (λ y h. f.times y.processor y.position (li.sound y h).1) li.rises);
  sound = λ e h. let r = in_only (stays p n) l e h in let o = li.sound e r.0 in
      (stays_on s s' p n e.processor e.position f r.1 o.0, ap access (f.instructions e.processor e.position) ∙ o.1, omega (arith, f.times e.processor e.position o.1, o.2));
  complete = λ q j w a d. let r = on_stays s s' p n q j f w in
      only_in (stays p n) l (access_at q j) (li.complete q j r.1 (ap access (sym (f.instructions q j)) ∙ a) (omega (arith, f.times q j (ap access (sym (f.instructions q j)) ∙ a)))) r.0;
}

-- The accesses that are done stay.
pub lists_same : (s s' : ℕ → Row) (l : List Access)
    → ((q j : ℕ) → j < (s q).size → access ((s q).instruction j) ≡ true → 0 < (s q).time j → (j < (s' q).size) × (access ((s' q).instruction j) ≡ true) × ((s' q).time j ≡ (s q).time j))
    → ((q j : ℕ) → j < (s' q).size → access ((s' q).instruction j) ≡ true → 0 < (s' q).time j → (j < (s q).size) × (access ((s q).instruction j) ≡ true) × (0 < (s q).time j))
    → Lists s l → Lists s' l
lists_same s s' l onto from li = record {
  rises = rises_same (moment s) (moment s') l (λ y h. let r = li.sound y h in (onto y.processor y.position r.0 r.1 r.2).2) li.rises;
  sound = λ e h. let r = li.sound e h in let o = onto e.processor e.position r.0 r.1 r.2 in (o.0, o.1, omega (arith, o.2, r.2));
  complete = λ q j w a d. let r = from q j w a d in li.complete q j r.0 r.1 r.2;
}
