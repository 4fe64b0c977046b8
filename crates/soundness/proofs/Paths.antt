-- Every rule keeps the path of a buffer: each done entry is what its operands make it and leads to the next place.
use Rattle.std.proofs.Common.{◌≡◌, ℕ, suc, ◌<◌, ◌≤◌, true, false, ◌≢◌, ◌⊎◌, Some, None, Option, sym, refl, ap, ◌∙◌, inl, inr, arith}
use Rattle.std.proofs.lemmas.Bool.{cases_Bool, cases_lt}
use Rattle.instructions.specs.Kinds.{access, branches, first_operand, second_operand}
use Rattle.instructions.specs.declared.instruction.Instruction.{Instruction}
use Rattle.memory.specs.declared.cell.Mark.{Mark}
use Rattle.ordering.specs.Constraints.{Feeds}
use Rattle.instructions.specs.Effects.{arithmetic_result, address_sum, data_sum, next_place}
use Rattle.instructions.specs.Kinds.{computes, writes}
use Rattle.search.specs.Search.{Sought}
use Rattle.search.proofs.Searches.{nearest_found, nearest_same}
use Rattle.soundness.proofs.Worlds.{Row, known_cells, cell, word, value_at, operand}
use Rattle.soundness.proofs.Moves.{Upd, Fetched, Turned, Plain, plainly, Datum, supplied, Store, stored, Load, loaded, Address, addressed, first_value, second_value}
use Rattle.soundness.proofs.Ends.{Path}
use Rattle.soundness.proofs.KindFacts.{true_not_false, load_access, store_access, access_no_branch, access_no_result}
use Rattle.soundness.proofs.Constrained.{Six}
use Rattle.soundness.proofs.Invariant.{Ok}
use Rattle.soundness.proofs.Times.{celled_some, coded_some}
use Rattle.soundness.proofs.LocalSteps.{plain_less}

-- An operand whose writer keeps its value keeps its own.
pub operand_same : (ins : ℕ → Instruction) (cells : ℕ → Option ℕ) (V V' : ℕ → ℕ) (o : Option ℕ) (k : ℕ) → ((j : ℕ) → Feeds ins cells o j k → V' j ≡ V j) → operand ins V' o k ≡ operand ins V o k
unfolding operand
operand_same ins cells V V' None k h = refl
operand_same ins cells V V' (Some r) k h = go (nearest_found (λ j. writes (ins j) r) k)
  where
    go : {f : Option ℕ} → Sought (λ j. writes (ins j) r) k f → value_at V' f ≡ value_at V f
    go (Sought.nothing n) = refl
    go (Sought.found m n) = h m (record { register = r; reads = refl; writer = n })

-- An operand turns on older entries only.
pub operand_local : (ins ins' : ℕ → Instruction) (V V' : ℕ → ℕ) (o : Option ℕ) (k : ℕ) → ((j : ℕ) → j < k → ins' j ≡ ins j) → ((j : ℕ) → j < k → V' j ≡ V j) → operand ins' V' o k ≡ operand ins V o k
unfolding operand
operand_local ins ins' V V' None k is vs = refl
operand_local ins ins' V V' (Some r) k is vs =
    ap (value_at V') (nearest_same (λ j. writes (ins' j) r) (λ j. writes (ins j) r) k (λ j h. ap (λ y. writes y r) (is j h))) ∙ go (nearest_found (λ j. writes (ins j) r) k)
  where
    go : {f : Option ℕ} → Sought (λ j. writes (ins j) r) k f → value_at V' f ≡ value_at V f
    go (Sought.nothing n) = refl
    go (Sought.found m n) = vs m n.below

-- One more is done, at i, and of the entries the first n' are left.
module _ (code : ℕ → Instruction) (end : ℕ) (x : Row) (c i n' : ℕ) (P' T' V' : ℕ → ℕ) (M' : ℕ → Mark) (v : Ok x c) (h : Path code end x) (u : Upd x.time T' i c)
    (less : n' ≤ x.size) (left : i < n') (others : (j : ℕ) → j ≢ i → V' j ≡ x.value j)
    (places : (k : ℕ) → k < n' → P' k ≡ x.place k)
    (nexts : (k : ℕ) → k < n' → (k ≢ i) ⊎ (branches (x.instruction k) ≡ false) → P' (suc k) ≡ x.place (suc k)) where
  abbrev ins : ℕ → Instruction
  ins = x.instruction

  abbrev pub done_row : Row
  done_row = record { size = n'; instruction = x.instruction; place = P'; address = x.address; datum = x.datum; time = T'; value = V'; mark = M' }

  -- What is done keeps its value.
  kept : (j : ℕ) → 0 < x.time j → V' j ≡ x.value j
  kept j d = elim (u j) [ inl e ↦ absurd (omega arith) | inr e ↦ others j e.0 ]

  wide : (k : ℕ) → k < n' → k < x.size
  wide k kn = omega (arith, less)

  -- The operands of a done entry, of a known address, of known data, of the entry at i.
  first_done : (k : ℕ) → k < n' → 0 < x.time k → first_value done_row k ≡ first_value x k
  first_done k kn d = operand_same ins (known_cells (cell x)) x.value V' (first_operand (ins k)) k (λ j f. kept j (v.order j k (wide k kn) d (Six.reg_raw (inl f))).done)

  second_done : (k : ℕ) → k < n' → 0 < x.time k → second_value done_row k ≡ second_value x k
  second_done k kn d = operand_same ins (known_cells (cell x)) x.value V' (second_operand (ins k)) k (λ j f. kept j (v.order j k (wide k kn) d (Six.reg_raw (inr f))).done)

  first_known : (k : ℕ) → k < n' → 0 < cell x k → first_value done_row k ≡ first_value x k
  first_known k kn z = operand_same ins (known_cells (cell x)) x.value V' (first_operand (ins k)) k (λ j f. kept j (v.addr j k (wide k kn) z f))

  second_known : (k : ℕ) → k < n' → 0 < word x k → second_value done_row k ≡ second_value x k
  second_known k kn z = operand_same ins (known_cells (cell x)) x.value V' (second_operand (ins k)) k (λ j f. kept j (v.datum j k (wide k kn) z f))

  here : (o : Option ℕ) → operand ins V' o i ≡ operand ins x.value o i
  here o = operand_same ins (known_cells (cell x)) x.value V' o i (λ j f. others j (λ e. omega (arith, f.writer.below)))

  pub path_done : (computes (ins i) ≡ true → V' i ≡ arithmetic_result (ins i) (first_value x i) (second_value x i)) → P' (suc i) ≡ next_place (ins i) (x.place i) (first_value x i) → Path code end done_row
  path_done vi ni = record {
    from = places 0 (omega arith) ∙ h.from;
    inside = λ k kn. omega (arith, places k kn, h.inside k (wide k kn));
    coded_at = λ k kn. h.coded_at k (wide k kn) ∙ ap code (sym (places k kn));
    goes = λ k kn b w. nexts k kn (inr b) ∙ h.goes k (wide k kn) b w ∙ ap (λ z. next_place (ins k) z w) (sym (places k kn));
    turns = λ k kn d. elim (u k) [
      | inl e ↦ rw e.0 (ni ∙ ap (λ z. next_place (ins i) z (first_value x i)) (sym (places i left)) ∙ ap (next_place (ins i) (P' i)) (sym (here (first_operand (ins i)))))
      | inr e ↦ (let d' : 0 < x.time k = omega arith in
          nexts k kn (inl e.0) ∙ h.turns k (wide k kn) d' ∙ ap (λ z. next_place (ins k) z (first_value x k)) (sym (places k kn)) ∙ ap (next_place (ins k) (P' k)) (sym (first_done k kn d')))
    ];
    computed = λ k kn d y. elim (u k) [
      | inl e ↦ rw e.0 (vi (rw e.0 at y) ∙ ap (λ z. arithmetic_result (ins i) z (second_value x i)) (sym (here (first_operand (ins i)))) ∙ ap (arithmetic_result (ins i) (first_value done_row i)) (sym (here (second_operand (ins i)))))
      | inr e ↦ (let d' : 0 < x.time k = omega arith in
          others k e.0 ∙ h.computed k (wide k kn) d' y ∙ ap (λ z. arithmetic_result (ins k) z (second_value x k)) (sym (first_done k kn d')) ∙ ap (arithmetic_result (ins k) (first_value done_row k)) (sym (second_done k kn d')))
    ];
    addressed = λ k a kn e. h.addressed k a (wide k kn) e ∙ ap (address_sum (ins k)) (sym (first_known k kn (omega (arith, celled_some (x.address k) a e))));
    supplied = λ k d kn e. h.supplied k d (wide k kn) e ∙ ap (data_sum (ins k)) (sym (second_known k kn (omega (arith, coded_some (x.datum k) d e))));
  }

-- An access is done: its place leads on as it did.
access_path : (code : ℕ → Instruction) (end : ℕ) (x : Row) (c i : ℕ) (T' V' : ℕ → ℕ) (M' : ℕ → Mark) → Ok x c → Path code end x → Upd x.time T' i c → i < x.size → access (x.instruction i) ≡ true
    → ((j : ℕ) → j ≢ i → V' j ≡ x.value j) → Path code end (loaded x T' V' M')
access_path code end x c i T' V' M' v h u w a others =
    path_done code end x c i x.size x.place T' V' M' v h u (omega arith) w others (λ k kn. refl) (λ k kn o. refl)
    (λ y. absurd (access_no_result (x.instruction i) a y)) (h.goes i w (access_no_branch (x.instruction i) a) (first_value x i))

-- Rule 5.
pub load_path : (code : ℕ → Instruction) (end : ℕ) (x : Row) (c i : ℕ) (T' V' : ℕ → ℕ) (M' : ℕ → Mark) → Ok x c → Path code end x → Load x i c T'
    → ((j : ℕ) → j ≢ i → V' j ≡ x.value j) → Path code end (loaded x T' V' M')
load_path code end x c i T' V' M' v h r others = access_path code end x c i T' V' M' v h r.now r.within (load_access (x.instruction i) r.is) others

-- Rule 7.
pub store_path : (code : ℕ → Instruction) (end : ℕ) (x : Row) (c i : ℕ) (T' : ℕ → ℕ) → Ok x c → Path code end x → Store x i c T' → Path code end (stored x T')
store_path code end x c i T' v h r = access_path code end x c i T' x.value x.mark v h r.now r.within (store_access (x.instruction i) r.is) (λ j e. refl)

-- Rules 2, 3 and 4.
pub plain_path : (code : ℕ → Instruction) (end : ℕ) (x : Row) (i c n' : ℕ) (P' T' V' : ℕ → ℕ) → Ok x c → Path code end x → Plain x i c n' P' T' V' → Path code end (plainly x n' P' T' V')
plain_path code end x i c n' P' T' V' v h r = path_done code end x c i n' P' T' V' x.mark v h r.now (plain_less x i c n' P' T' V' v r) left r.others places nexts r.comes_to next
  where
    left : i < n'
    left = elim r.turned [ Turned.keeps e p ↦ omega (arith, r.within) | Turned.cuts e b p ↦ omega arith ]

    places : (k : ℕ) → k < n' → P' k ≡ x.place k
    places k kn = elim r.turned [ Turned.keeps e p ↦ p k | Turned.cuts e b p ↦ p k (omega arith) ]

    nexts : (k : ℕ) → k < n' → (k ≢ i) ⊎ (branches (x.instruction k) ≡ false) → P' (suc k) ≡ x.place (suc k)
    nexts k kn o = elim r.turned [
      | Turned.keeps e p ↦ p (suc k)
      | Turned.cuts e b p ↦
          elim (cases_lt k i) [
            | inl q ↦ p (suc k) q
            | inr q ↦ (let z : k ≡ i = omega arith in
                absurd (elim o [ inl o' ↦ o' z | inr o' ↦ true_not_false (sym b ∙ (rw z at o')) ]))
          ]
    ]

    next : P' (suc i) ≡ next_place (x.instruction i) (x.place i) (first_value x i)
    next = elim (cases_Bool (branches (x.instruction i))) [ inl b ↦ r.next b | inr b ↦ nexts i left (inr b) ∙ h.goes i r.within b (first_value x i) ]

-- Rule 6.
pub datum_path : (code : ℕ → Instruction) (end : ℕ) (x : Row) (i d : ℕ) (D' : ℕ → Option ℕ) → Path code end x → Datum x i d D' → Path code end (supplied x D')
datum_path code end x i d D' h r = record {
  from = h.from;
  inside = h.inside;
  coded_at = h.coded_at;
  goes = h.goes;
  turns = h.turns;
  computed = h.computed;
  addressed = h.addressed;
  supplied = λ k d' kn e. elim (r.now k) [
    | inl q ↦ (let z : d' ≡ d = some_only d' d (sym e ∙ q.1) in z ∙ rw q.0 r.comes_to)
    | inr q ↦ h.supplied k d' kn (sym q.1 ∙ e)
  ];
}
  where
    some_only : (a b : ℕ) → ◌≡◌ {A = Option ℕ} (Some a) (Some b) → a ≡ b
    some_only a b e = cc

-- Rule 8.
pub address_path : (code : ℕ → Instruction) (end : ℕ) (x : Row) (i a n' : ℕ) (A' : ℕ → Option ℕ) → n' ≤ x.size → Path code end x → Address x i a A' → Path code end (addressed x n' A')
address_path code end x i a n' A' less h r = record {
  from = h.from;
  inside = λ k kn. h.inside k (wide k kn);
  coded_at = λ k kn. h.coded_at k (wide k kn);
  goes = λ k kn. h.goes k (wide k kn);
  turns = λ k kn. h.turns k (wide k kn);
  computed = λ k kn. h.computed k (wide k kn);
  addressed = λ k a' kn e. elim (r.now k) [
    | inl q ↦ (let z : a' ≡ a = some_only a' a (sym e ∙ q.1) in z ∙ rw q.0 r.comes_to)
    | inr q ↦ h.addressed k a' (wide k kn) (sym q.1 ∙ e)
  ];
  supplied = λ k d kn. h.supplied k d (wide k kn);
}
  where
    wide : (k : ℕ) → k < n' → k < x.size
    wide k kn = omega arith

    some_only : (a b : ℕ) → ◌≡◌ {A = Option ℕ} (Some a) (Some b) → a ≡ b
    some_only a b e = cc

-- Rule 1.
module _ (code : ℕ → Instruction) (end : ℕ) (x x' : Row) (h : Path code end x) (f : Fetched code end x x') where
  -- Of the older entries and of the new one.
  split : (P : ℕ → Type 0) → ((k : ℕ) → k < x.size → P k) → P x.size → (k : ℕ) → k < x'.size → P k
  split P old new k kn = elim (cases_lt k x.size) [ inl e ↦ old k e | inr e ↦ (let q : k ≡ x.size = omega (arith, f.size) in rw q new) ]

  older : (k : ℕ) → 0 < x'.time k → k < x.size
  older k d = elim (cases_lt k x.size) [ inl e ↦ e | inr e ↦ absurd (omega (arith, f.rest k e)) ]

  firsts : (k : ℕ) → k < x.size → first_value x' k ≡ first_value x k
  firsts k kn = ap (λ y. operand x'.instruction x'.value (first_operand y) k) (f.instruction k kn)
      ∙ operand_local x.instruction x'.instruction x.value x'.value (first_operand (x.instruction k)) k (λ j b. f.instruction j (omega arith)) (λ j b. f.value j (omega arith))

  seconds : (k : ℕ) → k < x.size → second_value x' k ≡ second_value x k
  seconds k kn = ap (λ y. operand x'.instruction x'.value (second_operand y) k) (f.instruction k kn)
      ∙ operand_local x.instruction x'.instruction x.value x'.value (second_operand (x.instruction k)) k (λ j b. f.instruction j (omega arith)) (λ j b. f.value j (omega arith))

  unknown : {o : Option ℕ} {a : ℕ} → o ≡ None → o ≡ Some a → ⊥
  unknown p q = let z : ◌≡◌ {A = ℕ} 0 1 = cc in omega arith

  pub fetch_path : Path code end x'
  fetch_path = record {
    from = f.place 0 (omega arith) ∙ h.from;
    inside = split (λ k. x'.place k < end) (λ k kn. omega (arith, f.place k (omega arith), h.inside k kn)) (omega (arith, f.place x.size (omega arith), f.inside));
    coded_at = split (λ k. x'.instruction k ≡ code (x'.place k)) (λ k kn. f.instruction k kn ∙ h.coded_at k kn ∙ ap code (sym (f.place k (omega arith))))
        (f.new ∙ ap code (sym (f.place x.size (omega arith))));
    goes = split (λ k. branches (x'.instruction k) ≡ false → (v : ℕ) → x'.place (suc k) ≡ next_place (x'.instruction k) (x'.place k) v)
        (λ k kn b v. rw (f.instruction k kn, f.place k (omega arith), f.place (suc k) kn) (h.goes k kn (ap branches (sym (f.instruction k kn)) ∙ b) v))
        (λ b v. f.next b v ∙ ap (λ z. next_place (x'.instruction x.size) z v) (sym (f.place x.size (omega arith))));
    turns = λ k kn d. let w = older k d in
        rw (f.place k (omega arith), f.place (suc k) w, firsts k w, f.instruction k w) (h.turns k w (omega (arith, f.time k w)));
    computed = λ k kn d y. let w = older k d in
        rw (f.value k w, firsts k w, seconds k w, f.instruction k w) (h.computed k w (omega (arith, f.time k w)) (ap computes (sym (f.instruction k w)) ∙ y));
    addressed = λ k a. split (λ k. x'.address k ≡ Some a → a ≡ address_sum (x'.instruction k) (first_value x' k))
        (λ k kn e. rw (firsts k kn, f.instruction k kn) (h.addressed k a kn (sym (f.address k kn) ∙ e)))
        (λ e. absurd (unknown f.no_address e)) k;
    supplied = λ k d. split (λ k. x'.datum k ≡ Some d → d ≡ data_sum (x'.instruction k) (second_value x' k))
        (λ k kn e. rw (seconds k kn, f.instruction k kn) (h.supplied k d kn (sym (f.datum k kn) ∙ e)))
        (λ e. absurd (unknown f.no_datum e)) k;
  }
