-- How reading a row goes on: each field shortens the bytes, a fault ends the reading.
use Rattle.std.proofs.Common.{◌≡◌, ℕ, zero, suc, ◌<◌, ◌≤◌, Bool, true, false, cond, ltb, ◌⊎◌, List, [], ◌∷◌, length, take, drop, Ok, Err, Result, refl, ap, ◌∙◌, inl, inr, arith}
use Rattle.std.proofs.lemmas.List.{length-drop}
use Rattle.fields.specs.declared.refusal.Refusal.{Refusal}
use Rattle.fields.specs.declared.refusal.Refusal.TheVariants.{FieldPastInput}
use Rattle.fields.specs.Fields.{Cut, word, split_field}
use Rattle.fields.specs.Rows.{Format, then, tested, field_step, read_within, read_row}

-- A value that came through two answers came through the first.
pub then_ok : {A B : Type 0} (a : Result A Refusal) (f : A → Result B Refusal) (y : B) → then a f ≡ Ok y → (x : A) × (a ≡ Ok x) × (f x ≡ Ok y)
then_ok (Ok x) f y h = (x, refl, h)
then_ok (Err e) f y h = cc

-- A refusal is the first answer's, or the second's on the first one's value.
pub then_err : {A B : Type 0} (a : Result A Refusal) (f : A → Result B Refusal) (e : Refusal) → then a f ≡ Err e →
    (a ≡ Err e) ⊎ ((x : A) × (a ≡ Ok x) × (f x ≡ Err e))
then_err (Ok x) f e h = inr (x, refl, h)
then_err (Err d) f e h = inl cc

-- The bytes behind a field are fewer.
pub split_shorter : (b : List ℕ) (c : Cut) → split_field b ≡ Ok c → length c.rest < length b
split_shorter [] c h = cc
split_shorter (tag ∷ []) c h = cc
split_shorter (tag ∷ high ∷ []) c h = cc
split_shorter (tag ∷ high ∷ low ∷ b) c h = go (ltb (length b) (word high low)) h
  where
    whole : Cut
    whole = record { tag = tag; contents = take (word high low) b; rest = drop (word high low) b }

    go : (t : Bool) → cond t (Err FieldPastInput) (Ok whole) ≡ Ok c → length c.rest < suc (suc (suc (length b)))
    go true e = cc
    go false e = let q : whole ≡ c = cc in rw (← q) (simp length-drop (omega arith))

-- Equal pairs have equal parts.
ok_pair : {A B : Type 0} (a c : A) (b d : B) → ◌≡◌ {A = Result (A × B) Refusal} (Ok (a, b)) (Ok (c, d)) → (a ≡ c) × (b ≡ d)
ok_pair {A} {B} a c b d h = let e : ◌≡◌ {A = A × B} (a, b) (c, d) = cc in (ap (λ p. p.0) e, ap (λ p. p.1) e)

module _ {S V : Type 0} (F : Format S V) where
  -- A step that went on cut off a field, and its tests were passed.
  pub step_parts : (b r : List ℕ) (s t : S) → field_step F s b ≡ Ok (t, r) →
      (c : Cut) × (split_field b ≡ Ok c) × (tested F s c ≡ Ok t) × (c.rest ≡ r)
  step_parts b r s t h =
      let p = then_ok (split_field b) (λ c. then (tested F s c) (λ u. Ok (u, c.rest))) (t, r) h in
      let q = then_ok (tested F s p.0) (λ u. Ok (u, p.0.rest)) (t, r) p.2 in
      let e = ok_pair q.0 t p.0.rest r q.2 in
      (p.0, p.1, q.1 ∙ ap Ok e.0, e.1)

  -- A field taken leaves fewer bytes.
  pub step_shorter : (b r : List ℕ) (s t : S) → field_step F s b ≡ Ok (t, r) → length r < length b
  step_shorter b r s t h = let p = step_parts b r s t h in rw (← p.3) (split_shorter b p.0 p.1)

  -- Any bound that the length of the bytes keeps gives the same answer.
  pub within_any : (n m : ℕ) (s : S) (b : List ℕ) → length b ≤ n → length b ≤ m → read_within F n s b ≡ read_within F m s b
  unfolding read_within
  within_any n m s [] h k = refl
  within_any zero m s (x ∷ b) h k = absurd (omega arith)
  within_any (suc n) zero s (x ∷ b) h k = absurd (omega arith)
  within_any (suc n) (suc m) s (x ∷ b) h k = go (field_step F s (x ∷ b)) refl (λ t r. within_any n m t r)
    where
      go : (a : Result (S × List ℕ) Refusal) → field_step F s (x ∷ b) ≡ a →
          ((t : S) (r : List ℕ) → length r ≤ n → length r ≤ m → read_within F n t r ≡ read_within F m t r) →
          then a (λ p. read_within F n p.0 p.1) ≡ then a (λ p. read_within F m p.0 p.1)
      go (Ok p) e f = let l = step_shorter (x ∷ b) p.1 s p.0 e in f p.0 p.1 (omega arith) (omega arith)
      go (Err e) q f = refl

  -- A row that ends here.
  pub row_end : (s : S) → read_row F s [] ≡ F.whole s
  unfolding read_row read_within
  row_end s = refl

  -- A field is taken, and the reading goes on behind it.
  pub row_more : (b r : List ℕ) (s t : S) → field_step F s b ≡ Ok (t, r) → read_row F s b ≡ read_row F t r
  unfolding read_row read_within
  row_more [] r s t h = cc
  row_more (x ∷ b) r s t h =
      let l = step_shorter (x ∷ b) r s t h in
      rw h (within_any (length b) (length r) t r (omega arith) (omega arith))

  -- A fault ends the reading.
  pub row_fault : (b : List ℕ) (s : S) (e : Refusal) → 0 < length b → field_step F s b ≡ Err e → read_row F s b ≡ Err e
  unfolding read_row read_within
  row_fault [] s e l h = absurd (omega arith)
  row_fault (x ∷ b) s e l h = rw h

  -- A field that was cut off and passed its tests is taken.
  pub row_next : (b : List ℕ) (s t : S) (c : Cut) → split_field b ≡ Ok c → tested F s c ≡ Ok t → read_row F s b ≡ read_row F t c.rest
  row_next b s t c h k = row_more b c.rest s t (rw (h, k))
