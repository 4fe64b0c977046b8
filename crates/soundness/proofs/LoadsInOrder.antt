-- Same-address load-load order: every rule keeps it; and rule 8 leaves no done load that would have to look at the newly addressed access.
use Rattle.std.proofs.Common.{◌≡◌, ℕ, suc, ◌%◌, ◌<◌, ◌≤◌, true, ◌≢◌, ◌⊎◌, Option, sym, ◌∙◌, inl, inr, arith}
use Rattle.std.proofs.lemmas.Bool.{cases_eq, cases_order, cases_lt}
use Rattle.instructions.specs.Kinds.{loads, access}
use Rattle.instructions.specs.declared.instruction.Instruction.{Instruction}
use Rattle.memory.specs.declared.cell.Mark.{Mark}
use Rattle.ordering.specs.Constraints.{SALdLd}
use Rattle.search.specs.Search.{Met}
use Rattle.search.proofs.Searches.{first_found}
use Rattle.soundness.proofs.Worlds.{Row, Memory, celled, known_cells, cell}
use Rattle.soundness.proofs.Moves.{Upd, Fetched, Plain, plainly, Store, stored, Load, loaded, Given, FirstTo, Cut, Address, addressed}
use Rattle.soundness.proofs.KindFacts.{load_access, access_split, true_not_false}
use Rattle.soundness.proofs.CellSearches.{hits, hits_parts, hits_from}
use Rattle.soundness.proofs.Constrained.{NoStore, same_to, same_from, none_to, none_from}
use Rattle.soundness.proofs.Agreeing.{ld_ld_local}
use Rattle.soundness.proofs.Invariant.{Ok, LoadsOrdered, Ordered}
use Rattle.soundness.proofs.Times.{done_later}
use Rattle.soundness.proofs.AddressStep.{none_back, cell_now, same_if_done, NoneLeft}
use Rattle.soundness.proofs.LocalSteps.{plain_less, old_done, cells_agree}

-- Older loads of the cell with no store to it between are done.
abbrev pub LoadsDone : Row → ℕ → Type 0
LoadsDone x i = (j : ℕ) → SALdLd x.instruction (known_cells (cell x)) j i → 0 < x.time j

-- One more is done.
done_ordered : (x : Row) (T' : ℕ → ℕ) (i c : ℕ) → Ok x c → Upd x.time T' i c → LoadsDone x i → Ordered x → LoadsOrdered x.size x.instruction (cell x) T'
done_ordered x T' i c v u new o = done_later (SALdLd x.instruction (known_cells (cell x))) x.time T' x.size i c v.clock u new o

-- Rule 5, whose search goes over all accesses.
pub given_loads : (x : Row) (μ : Memory) (p i v : ℕ) (m : Mark) → Given access x μ p i v m → LoadsDone x i
given_loads x μ p i v m (Given.memory b e h ev em) j r = h j (omega arith) r.earlier (load_access (x.instruction j) r.first_load) (same_to x.instruction (cell x) j i r.same).0
given_loads x μ p i v m (Given.bypass s b st un e t g h em) j r = go (cases_order j s)
  where
    same : (cell x j ≡ cell x i) × (0 < cell x i)
    same = same_to x.instruction (cell x) j i r.same

    go : (j ≡ s) ⊎ ((j < s) ⊎ (s < j)) → 0 < x.time j
    go (inl q) = absurd (un (rw q at r.first_load))
    go (inr (inl q)) = absurd (r.none_between s q b st (same_from x.instruction (cell x) s i e same.1))
    go (inr (inr q)) = h j q r.earlier (load_access (x.instruction j) r.first_load) same.0

pub load_ordered : (x : Row) (c i : ℕ) (T' V' : ℕ → ℕ) (M' : ℕ → Mark) → Ok x c → Load x i c T' → LoadsDone x i → Ordered x → Ordered (loaded x T' V' M')
load_ordered x c i T' V' M' v r new o = done_ordered x T' i c v r.now new o

-- Rule 7.
pub store_ordered : (x : Row) (c i : ℕ) (T' : ℕ → ℕ) → Ok x c → Store x i c T' → Ordered x → Ordered (stored x T')
store_ordered x c i T' v r o = done_ordered x T' i c v r.now (λ j h. r.same j h.earlier (load_access (x.instruction j) h.first_load) (same_to x.instruction (cell x) j i h.same).0) o

-- Rules 2, 3 and 4.
pub plain_ordered : (x : Row) (i c n' : ℕ) (P' T' V' : ℕ → ℕ) → Ok x c → Plain x i c n' P' T' V' → Ordered x → Ordered (plainly x n' P' T' V')
plain_ordered x i c n' P' T' V' v r o j k kn =
    done_ordered x T' i c v r.now (λ j h. absurd (r.quiet (load_access (x.instruction i) h.second_load))) o j k (omega (arith, plain_less x i c n' P' T' V' v r))

-- Rule 1.
pub fetch_ordered : (code : ℕ → Instruction) (end : ℕ) (x x' : Row) (c : ℕ) → 0 < c → Ok x c → Fetched code end x x' → Ordered x → Ordered x'
fetch_ordered code end x x' c cp v f o j k kn d h =
    let w = old_done code end x x' c cp v f k d in
    let h' = ld_ld_local x.size x.instruction x'.instruction (known_cells (cell x)) (known_cells (cell x')) f.instruction (cells_agree code end x x' c cp v f) j k w h in
    let b = o j k w (omega (arith, f.time k w)) h' in
    record { done = omega (arith, f.time j (omega (arith, h.earlier)), b.done); first = omega (arith, f.time j (omega (arith, h.earlier)), f.time k w, b.first) }

-- The first access to the cell after i, up to an access k to it.
first_to : (x : Row) (a i k : ℕ) → k < x.size → i < k → access (x.instruction k) ≡ true → cell x k ≡ a → (m : ℕ) × FirstTo x a i m × (m ≤ k)
first_to x a i k kn b y e = go (first_found (hits access x.instruction (cell x) a) (suc i) k)
  where
    go : {o : Option ℕ} → Met (hits access x.instruction (cell x) a) (suc i) k o → (m : ℕ) × FirstTo x a i m × (m ≤ k)
    go (Met.nothing h) = absurd (true_not_false (sym (hits_from access x.instruction (cell x) a k y e) ∙ h k b (omega arith)))
    go (Met.found m f) =
        let p = hits_parts access x.instruction (cell x) a m f.hit in
        let u : m ≤ k = elim (cases_lt k m) [ inl q ↦ absurd (true_not_false (sym (hits_from access x.instruction (cell x) a k y e) ∙ f.between k b q)) | inr q ↦ q ] in (
          m,
          record {
            after = f.from;
            within = omega arith;
            is = p.0;
            same = p.1;
            none = λ z q w y' o. true_not_false (sym (hits_from access x.instruction (cell x) a z y' o) ∙ f.between z q w);
          },
          u,
        )

-- Rule 8: what it leaves, it leaves in order.
module _ (x : Row) (c i a n' : ℕ) (A' : ℕ → Option ℕ) (v : Ok x c) (o : Ordered x) (r : Address x i a A') (cut : Cut x (suc (a % 16)) i n') where
  pub cut_less : n' ≤ x.size
  cut_less = elim cut [ Cut.keeps e h ↦ omega arith | Cut.cuts f l d ↦ omega (arith, f.within) ]

  pub cut_past : i < n'
  cut_past = elim cut [ Cut.keeps e h ↦ omega (arith, r.within) | Cut.cuts f l d ↦ f.after ]

  pub cut_left : NoneLeft x i a n'
  cut_left k kn b l d e none = go cut
    where
      kn' : k < x.size
      kn' = omega (arith, cut_less)

      held : ((m : ℕ) → FirstTo x (suc (a % 16)) i m → loads (x.instruction m) ≡ true → 0 < x.time m → ⊥) → (m : ℕ) → FirstTo x (suc (a % 16)) i m → m ≤ k → ⊥
      held h m f p = elim (cases_eq m k) [
        | inl q ↦ h m f (rw q l) (rw q d)
        | inr q ↦
            (elim (access_split (x.instruction m) f.is) [
              | inl y ↦
                  h m f y (o m k kn' d (record {
                    earlier = omega arith;
                    first_load = y;
                    second_load = l;
                    same = same_from x.instruction (cell x) m k (omega (arith, f.same)) (omega arith);
                    none_between = none_from x.instruction (cell x) m k (λ z p' w st q'. none z (omega (arith, f.after)) w st (omega arith));
                  })).done
              | inr y ↦ none m f.after (omega arith) y f.same
            ])
      ]

      go : Cut x (suc (a % 16)) i n' → ⊥
      go (Cut.keeps e' h) = let z = first_to x (suc (a % 16)) i k kn' b (load_access (x.instruction k) l) e in held h z.0 z.1 z.2
      go (Cut.cuts f l' d') = f.none k b kn (load_access (x.instruction k) l) e

-- Rule 8, if no done load is left that would have to look at a newly addressed load.
pub address_ordered : (x : Row) (c i a n' : ℕ) (A' : ℕ → Option ℕ) (v : Ok x c) (r : Address x i a A') → n' ≤ x.size → NoneLeft x i a n' → Ordered x → Ordered (addressed x n' A')
address_ordered x c i a n' A' v r less left o j k kn d h = o j k (omega (arith, less)) d back
  where
    e : celled (A' k) ≡ cell x k
    e = same_if_done x c i a A' v r k d

    now : Upd (cell x) (λ m. celled (A' m)) i (suc (a % 16))
    now = cell_now x c i a A' v r

    same : (celled (A' j) ≡ celled (A' k)) × (0 < celled (A' k))
    same = same_to x.instruction (λ m. celled (A' m)) j k h.same

    none' : NoStore x.instruction (cell x) (cell x k) j k
    none' = none_back x.instruction (cell x) (λ m. celled (A' m)) i (suc (a % 16)) now (cell x k) (celled (A' k)) j k (omega (arith, same.1, e)) e
        (none_to x.instruction (λ m. celled (A' m)) j k same.1 h.none_between)

    go : ((j ≡ i) × (cell x j ≡ 0) × (celled (A' j) ≡ suc (a % 16))) ⊎ ((j ≢ i) × (celled (A' j) ≡ cell x j)) → cell x j ≡ cell x k
    go (inl q) = absurd (left k kn (omega (arith, h.earlier)) h.second_load d (omega (arith, same.0, e)) (λ z p w st y. none' z (omega arith) w st (omega (arith, same.0, e))))
    go (inr q) = omega (arith, same.0, e)

    back : SALdLd x.instruction (known_cells (cell x)) j k
    back = record {
      earlier = h.earlier;
      first_load = h.first_load;
      second_load = h.second_load;
      same = same_from x.instruction (cell x) j k (go (now j)) (omega (arith, same.1, e));
      none_between = none_from x.instruction (cell x) j k none';
    }
