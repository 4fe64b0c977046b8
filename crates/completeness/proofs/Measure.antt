-- How much a state has still to make known: every step of rules 2 to 8 makes it less.
use Rattle.std.proofs.Common.{◌≡◌, ℕ, zero, suc, ◌+◌, ◌*◌, ◌<◌, ◌≤◌, Bool, true, false, not, ◌&&◌, List, [], ◌∷◌, length, get_or, take, set, is_some, Some, None, Option, refl, arith}
use Rattle.std.proofs.lemmas.Bool.{true≢false, false≢true}
use Rattle.instructions.specs.Effects.{arithmetic_result, address_sum, data_sum, next_place}
use Rattle.instructions.specs.Kinds.{stores, access}
use Rattle.memory.specs.Cells.{cell_at}
use Rattle.memory.specs.declared.cell.Mark.{Mark}
use Rattle.memory.specs.declared.cell.Mark.TheVariants as mark
use Rattle.machine.specs.Fires.{Fires, Stands, instruction, entry, buffer}
use Rattle.machine.specs.State.{Core, State, empty_core}
use Rattle.machine.specs.Steps.{kept, core_changed, changed}
use Rattle.machine.specs.declared.step.Step.{Step}
use Rattle.question.specs.Litmus.{Litmus}
use Rattle.rules.specs.Entries.{blank, done_with, turned, loaded, addressed, supplied}
use Rattle.rules.specs.Changes.{only, load_change}
use Rattle.rules.specs.declared.change.Change.{Change}
use Rattle.rules.specs.declared.change.Cut.{Cut}
use Rattle.rules.specs.declared.change.Effect.TheVariants.{Local, Stored}
use Rattle.rules.specs.declared.entry.Entry.{Entry}
use Rattle.reachable.specs.Invariant.{Invariant}

-- A test as a number.
unfoldable pub bit : Bool → ℕ
bit true = 1
bit false = 0

-- What is to be made known of an entry: the address of an access, the data of a store, and that it is done.
unfoldable pub missing : Entry → ℕ
missing e = bit (access e.instruction && not (is_some e.address)) + bit (stores e.instruction && not (is_some e.datum)) + bit (not e.done)

-- The sum over a list.
unfoldable pub total : {A : Type 0} → (A → ℕ) → List A → ℕ
total f [] = 0
total f (x ∷ xs) = f x + total f xs

-- What is to be made known in a processor, and in a state.
unfoldable pub core_left : Core → ℕ
core_left c = total missing c.entries

unfoldable pub left : State → ℕ
left s = total core_left s.cores

total_set : {A : Type 0} (f : A → ℕ) (d : A) (xs : List A) (i : ℕ) (x : A) → i < length xs → f x < f (get_or xs i d) → total f (set xs i x) < total f xs
unfolding total
total_set f d [] i x l h = absurd (omega arith)
total_set f d (y ∷ ys) zero x l h = omega arith
total_set f d (y ∷ ys) (suc i) x l h = let r : total f (set ys i x) < total f ys = total_set f d ys i x (omega arith) h in omega arith

total_take : {A : Type 0} (f : A → ℕ) (n : ℕ) (xs : List A) → total f (take n xs) ≤ total f xs
unfolding total
total_take f zero xs = omega arith
total_take f (suc n) [] = omega arith
total_take f (suc n) (x ∷ xs) = let r = total_take f n xs in omega arith

pub total_bound : {A : Type 0} (f : A → ℕ) (d : A) (c : ℕ) (xs : List A) → ((k : ℕ) → k < length xs → f (get_or xs k d) ≤ c) → total f xs ≤ length xs * c
unfolding total
total_bound f d c [] h = omega arith
total_bound f d c (x ∷ xs) h =
    let r : total f xs ≤ length xs * c = total_bound f d c xs (λ k l. h (suc k) (omega arith)) in
    let z : f x ≤ c = h 0 (omega arith) in
    omega arith

kept_no_more : (o : Option Cut) (es : List Entry) → total missing (kept o es) ≤ total missing es
kept_no_more None es = omega arith
kept_no_more (Some c) es = total_take missing c.keep es

-- A change of an entry that makes something of it known.
pub left_changed : (s : State) (p i : ℕ) (ch : Change) → Stands s p i → missing ch.entry < missing (entry s p i) → left (changed s p i ch) < left s
unfolding left core_left
left_changed s p i ch (a, b) h =
    let x = total_set missing blank (buffer s p) i ch.entry b h in
    let y = kept_no_more ch.cut (set (buffer s p) i ch.entry) in
    total_set core_left empty_core s.cores p (core_changed (get_or s.cores p empty_core) i ch) a (omega arith)

done_less : (x y : ℕ) (d : Bool) → d ≡ false → x + y + bit (not true) < x + y + bit (not d)
unfolding bit
done_less x y true q = absurd (true≢false q)
done_less x y false q = omega arith

known_less : (a k : Bool) → a ≡ true → k ≡ false → bit (a && not true) < bit (a && not k)
unfolding bit
known_less false k p q = absurd (false≢true p)
known_less true true p q = absurd (true≢false q)
known_less true false p q = omega arith

module _ (e : Entry) where
  done_with_less : (v : ℕ) → e.done ≡ false → missing (done_with e v) < missing e
  unfolding missing
  done_with_less v h = done_less _ _ e.done h

  turned_less : (n : ℕ) → e.done ≡ false → missing (turned e n) < missing e
  unfolding missing
  turned_less n h = done_less _ _ e.done h

  loaded_less : (v : ℕ) (m : Mark) → e.done ≡ false → missing (loaded e v m) < missing e
  unfolding missing
  loaded_less v m h = done_less _ _ e.done h

  addressed_less : (a : ℕ) → access e.instruction ≡ true → is_some e.address ≡ false → missing (addressed e a) < missing e
  unfolding missing
  addressed_less a h k = let z = known_less (access e.instruction) (is_some e.address) h k in omega arith

  supplied_less : (d : ℕ) → stores e.instruction ≡ true → is_some e.datum ≡ false → missing (supplied e d) < missing e
  unfolding missing
  supplied_less a h k = let z = known_less (stores e.instruction) (is_some e.datum) h k in omega arith

-- Every step of rules 2 to 8 makes something known.
pub left_falls : (q : Litmus) (s : State) (st : Step) (n : ℕ) (t : State) → Fires q s st n t → (st.rule ≡ 1 → ⊥) → left t < left s
left_falls q s _ _ _ (Fires.fetch_taken p a b c d) h = absurd (h refl)
left_falls q s _ _ _ (Fires.fetch p a b c) h = absurd (h refl)
left_falls q s _ _ _ (Fires.arithmetic p i x y a b c d e) h =
    left_changed s p i (only (done_with (entry s p i) (arithmetic_result (instruction s p i) x y))) a (done_with_less (entry s p i) (arithmetic_result (instruction s p i) x y) c)
left_falls q s _ _ _ (Fires.branch_as_guessed p i x a b c d e) h =
    let n = next_place (instruction s p i) (entry s p i).place x in
    left_changed s p i (only (turned (entry s p i) n)) a (turned_less (entry s p i) n c)
left_falls q s _ _ _ (Fires.branch_otherwise p i x a b c d e) h =
    let n = next_place (instruction s p i) (entry s p i).place x in
    left_changed s p i (record { entry = turned (entry s p i) n; cut = Some (record { keep = i + 1; counter = n }); effect = Local }) a (turned_less (entry s p i) n c)
left_falls q s _ _ _ (Fires.fence p i a b c d) h =
    left_changed s p i (only (done_with (entry s p i) (entry s p i).value)) a (done_with_less (entry s p i) (entry s p i).value c)
left_falls q s _ _ _ (Fires.load_forwarded p i a j v b c d e f g k l) h =
    left_changed s p i (load_change (entry s p i) v (mark.Store p j)) b (loaded_less (entry s p i) v (mark.Store p j) d)
left_falls q s _ _ _ (Fires.load_from_memory p i a b c d e f g) h =
    let cell = cell_at s.cells a in
    left_changed s p i (load_change (entry s p i) cell.value cell.mark) b (loaded_less (entry s p i) cell.value cell.mark d)
left_falls q s _ _ _ (Fires.store_data p i y a b c d) h =
    let v = data_sum (instruction s p i) y in
    left_changed s p i (only (supplied (entry s p i) v)) a (supplied_less (entry s p i) v b c)
left_falls q s _ _ _ (Fires.store p i a d b c e f g k l m o) h =
    left_changed s p i (record { entry = done_with (entry s p i) (entry s p i).value; cut = None; effect = Stored a (record { value = d; mark = mark.Store p i }) })
    b (done_with_less (entry s p i) (entry s p i).value e)
left_falls q s _ _ _ (Fires.address p i x a b c d e) h =
    let v = address_sum (instruction s p i) x in
    left_changed s p i (only (addressed (entry s p i) v)) a (addressed_less (entry s p i) v b c)
left_falls q s _ _ _ (Fires.address_removes p i x m a b c d e f g) h =
    let v = address_sum (instruction s p i) x in
    left_changed s p i (record { entry = addressed (entry s p i) v; cut = Some (record { keep = m; counter = (entry s p m).place }); effect = Local }) a (addressed_less (entry s p i) v b c)

bit_small : (b : Bool) → bit b ≤ 1
unfolding bit
bit_small true = omega arith
bit_small false = omega arith

missing_small : (e : Entry) → missing e ≤ 3
unfolding missing
missing_small e = omega (arith, bit_small (access e.instruction && not (is_some e.address)), bit_small (stores e.instruction && not (is_some e.datum)), bit_small (not e.done))

-- Of sixteen entries of each processor at most three things each.
pub left_bound : (q : Litmus) (s : State) → Invariant q s → left s ≤ length s.cores * 48
unfolding left core_left
left_bound q s inv = total_bound core_left empty_core 48 s.cores (λ p l.
    let r = total_bound missing blank 3 (buffer s p) (λ i m. missing_small (entry s p i)) in
    omega (arith, inv.room p))
