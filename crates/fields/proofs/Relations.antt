-- A row is read exactly if it is well formed, as what it means, and refused exactly for its first fault.
use Rattle.std.proofs.Common.{◌≡◌, ℕ, zero, suc, ◌/◌, ◌%◌, ◌<◌, ◌≤◌, Bool, true, false, cond, ltb, List, [], ◌∷◌, ◌++◌, length, take, drop, Ok, Err, Result, sym, refl, ap, ◌∙◌, inl, inr, arith}
use Rattle.std.specs.List.{AllByRecursion}
use Rattle.std.proofs.lemmas.List.{length-append, length-take-le, take-append-drop}
use Rattle.std.proofs.Math.Seq.{take-append_seam, drop-append_seam}
use Rattle.std.proofs.ByRecursion.{All-drop}
use Rattle.std.proofs.lemmas.Bool.{le-ltb, lt-ltb, ltb-true, ltb-false}
use Rattle.fields.specs.declared.refusal.Refusal.{Refusal}
use Rattle.fields.specs.declared.refusal.Refusal.TheVariants.{FieldPastInput, TagNotAllowed, LengthNotAllowed}
use Rattle.fields.specs.Fields.{Cut, word, field_bytes, split_field}
use Rattle.fields.specs.Rows.{Format, RunsPast, then, tested, field_step, read_row, Reads, Faults, RowsAreReadAsTheyMean}
use Rattle.fields.proofs.Rows.{then_err, step_parts, step_shorter, row_end, row_more, row_fault}

-- A number as two bytes and back.
pub word_joined : (n : ℕ) → word (n / 256) (n % 256) ≡ n
word_joined n = omega arith

-- A field that stands in front is cut off.
pub split_front : (tag : ℕ) (contents rest : List ℕ) →
    split_field (field_bytes tag contents ++ rest) ≡ Ok (record { tag = tag; contents = contents; rest = rest })
split_front tag contents rest =
    let n = length contents in
    let l : ltb (length (contents ++ rest)) n ≡ false = le-ltb (length (contents ++ rest)) n (simp length-append (omega arith)) in
    rw (word_joined (length contents), l, take-append_seam contents rest, drop-append_seam contents rest)

-- The field and the bytes behind it make up the bytes.
pub record InFront (b : List ℕ) (c : Cut) : Type 0 where
  pub front : b ≡ field_bytes c.tag c.contents ++ c.rest
  pub short : length c.contents < 65536
  pub bytes : AllByRecursion (λ x. x < 256) c.rest

-- A field that is cut off was in front of the bytes behind it.
pub split_in_front : (b : List ℕ) (c : Cut) → AllByRecursion (λ x. x < 256) b → split_field b ≡ Ok c → InFront b c
split_in_front [] c w h = cc
split_in_front (tag ∷ []) c w h = cc
split_in_front (tag ∷ high ∷ []) c w h = cc
split_in_front (tag ∷ high ∷ low ∷ b) c w h = go (ltb (length b) (word high low)) refl h
  where
    n : ℕ
    n = word high low

    whole : Cut
    whole = record { tag = tag; contents = take n b; rest = drop n b }

    holds : n ≤ length b → InFront (tag ∷ high ∷ low ∷ b) whole
    holds l =
        let e = length-take-le n b l in
        let p : n / 256 ≡ high = omega arith in
        let q : n % 256 ≡ low = omega arith in
        record {
          front = rw (e, p, q, take-append-drop n b);
          short = omega arith;
          bytes = All-drop (λ x. x < 256) n b w.1.1.1;
        }

    go : (t : Bool) → ltb (length b) n ≡ t → cond t (Err FieldPastInput) (Ok whole) ≡ Ok c → InFront (tag ∷ high ∷ low ∷ b) c
    go true q e = cc
    go false q e = let p : whole ≡ c = cc in rw (← p) (holds (ltb-false (length b) n q))

-- Where no field is cut off, one runs past the bytes.
pub split_past : (b : List ℕ) (e : Refusal) → 0 < length b → split_field b ≡ Err e → RunsPast b × (e ≡ FieldPastInput)
split_past [] e l h = absurd (omega arith)
split_past (tag ∷ []) e l h = (RunsPast.no_length tag, cc)
split_past (tag ∷ high ∷ []) e l h = (RunsPast.half_a_length tag high, cc)
split_past (tag ∷ high ∷ low ∷ b) e l h = go (ltb (length b) n) refl h
  where
    n : ℕ
    n = word high low

    whole : Cut
    whole = record { tag = tag; contents = take n b; rest = drop n b }

    go : (t : Bool) → ltb (length b) n ≡ t → cond t (Err FieldPastInput) (Ok whole) ≡ Err e →
        RunsPast (tag ∷ high ∷ low ∷ b) × (e ≡ FieldPastInput)
    go true q h = (RunsPast.contents_cut tag high low b (ltb-true (length b) n q), cc)
    go false q h = cc

-- A field that runs past the bytes is not cut off.
pub past_split : (b : List ℕ) → RunsPast b → (0 < length b) × (split_field b ≡ Err FieldPastInput)
past_split _ (RunsPast.no_length tag) = (omega arith, refl)
past_split _ (RunsPast.half_a_length tag high) = (omega arith, refl)
past_split _ (RunsPast.contents_cut tag high low b l) = (omega arith, rw (lt-ltb (length b) (word high low) l))

module _ {S V : Type 0} (F : Format S V) where
  -- The field is allowed, of an allowed length, and its contents are sound.
  pub record Passed (s : S) (c : Cut) (t : S) : Type 0 where
    pub allowed : F.allowed s c.tag ≡ true
    pub fits : F.fits c.tag (length c.contents) ≡ true
    pub taken : F.taken s c.tag c.contents ≡ Ok t

  -- A field whose tests give a value passes them.
  pub tested_passed : (s t : S) (c : Cut) → tested F s c ≡ Ok t → Passed s c t
  tested_passed s t c h = go (F.allowed s c.tag) (F.fits c.tag (length c.contents)) refl refl h
    where
      go : (a f : Bool) → F.allowed s c.tag ≡ a → F.fits c.tag (length c.contents) ≡ f →
          cond a (cond f (F.taken s c.tag c.contents) (Err LengthNotAllowed)) (Err TagNotAllowed) ≡ Ok t → Passed s c t
      go true true p q h = record { allowed = p; fits = q; taken = h }
      go true false p q h = cc
      go false f p q h = cc

  -- A field in front that passes its tests is taken.
  pub step_front : (s t : S) (tag : ℕ) (contents rest : List ℕ) → Passed s (record { tag = tag; contents = contents; rest = rest }) t →
      field_step F s (field_bytes tag contents ++ rest) ≡ Ok (t, rest)
  step_front s t tag contents rest p = rw (split_front tag contents rest, p.allowed, p.fits, p.taken)

  -- A field in front that fails a test is refused.
  pub step_refused : (s : S) (e : Refusal) (tag : ℕ) (contents rest : List ℕ) →
      tested F s (record { tag = tag; contents = contents; rest = rest }) ≡ Err e →
      read_row F s (field_bytes tag contents ++ rest) ≡ Err e
  step_refused s e tag contents rest h =
      row_fault F (field_bytes tag contents ++ rest) s e (omega arith) (rw (split_front tag contents rest, h))

  -- A field that was cut off and fails a test is the first fault.
  tested_fault : (s : S) (e : Refusal) (b : List ℕ) (c : Cut) → InFront b c → tested F s c ≡ Err e → Faults F s b e
  tested_fault s e b c w h = rw w.front (go (F.allowed s c.tag) (F.fits c.tag (length c.contents)) refl refl h)
    where
      go : (a f : Bool) → F.allowed s c.tag ≡ a → F.fits c.tag (length c.contents) ≡ f →
          cond a (cond f (F.taken s c.tag c.contents) (Err LengthNotAllowed)) (Err TagNotAllowed) ≡ Err e →
          Faults F s (field_bytes c.tag c.contents ++ c.rest) e
      go true true p q h = Faults.bad_contents c.tag c.contents c.rest w.short p q h
      go true false p q h =
          let d : LengthNotAllowed ≡ e = cc in rw (← d) (Faults.bad_length c.tag c.contents c.rest w.short p q)
      go false f p q h =
          let d : TagNotAllowed ≡ e = cc in rw (← d) (Faults.bad_tag c.tag c.contents c.rest w.short p)

  -- A step that is refused found the first fault.
  step_fault : (s : S) (e : Refusal) (b : List ℕ) → 0 < length b → AllByRecursion (λ x. x < 256) b → field_step F s b ≡ Err e → Faults F s b e
  step_fault s e b l w h =
      elim (then_err (split_field b) (λ c. then (tested F s c) (λ t. Ok (t, c.rest))) e h) [
        | inl p ↦ let q = split_past b e l p in rw q.1 (Faults.past_input q.0)
        | inr p ↦
            elim (then_err (tested F s p.0) (λ t. Ok (t, p.0.rest)) e p.2) [
              | inl q ↦ tested_fault s e b p.0 (split_in_front b p.0 w p.1) q
              | inr q ↦ let r = q.2 in cc
            ]
      ]

  -- A field in front of the bytes r passes its tests.
  pub record Takes (s : S) (b : List ℕ) (t : S) (r : List ℕ) : Type 0 where
    pub tag : ℕ
    pub contents : List ℕ
    pub front : b ≡ field_bytes tag contents ++ r
    pub short : length contents < 65536
    pub passed : Passed s (record { tag = tag; contents = contents; rest = r }) t
    pub bytes : AllByRecursion (λ x. x < 256) r

  -- A step that goes on takes a field that passes its tests.
  pub step_takes : (s t : S) (b r : List ℕ) → AllByRecursion (λ x. x < 256) b → field_step F s b ≡ Ok (t, r) → Takes s b t r
  step_takes s t b r w h =
      let p = step_parts F b r s t h in
      let c = p.0 in
      let d = split_in_front b c w p.1 in
      let q = tested_passed s t c p.2 in
      record {
        tag = c.tag;
        contents = c.contents;
        front = d.front ∙ ap (λ x. field_bytes c.tag c.contents ++ x) p.3;
        short = d.short;
        passed = record { allowed = q.allowed; fits = q.fits; taken = q.taken };
        bytes = rw p.3 at d.bytes;
      }

  -- A row that is read is well formed, for bytes of which there are at most n.
  reads_within : (n : ℕ) (s : S) (b : List ℕ) (v : V) → length b ≤ n → AllByRecursion (λ x. x < 256) b → read_row F s b ≡ Ok v → Reads F s b v
  reads_within n s [] v l w h = Reads.at_end (rw (row_end F s) at h)
  reads_within zero s (x ∷ b) v l w h = absurd (omega arith)
  reads_within (suc n) s (x ∷ b) v l w h = go (field_step F s (x ∷ b)) refl (λ t r. reads_within n t r v)
    where
      go : (a : Result (S × List ℕ) Refusal) → field_step F s (x ∷ b) ≡ a →
          ((t : S) (r : List ℕ) → length r ≤ n → AllByRecursion (λ y. y < 256) r → read_row F t r ≡ Ok v → Reads F t r v) → Reads F s (x ∷ b) v
      go (Ok p) e f =
          let g = step_takes s p.0 (x ∷ b) p.1 w e in
          let k = step_shorter F (x ∷ b) p.1 s p.0 e in
          let m = row_more F (x ∷ b) p.1 s p.0 e in
          rw g.front
          (Reads.field_first g.tag g.contents p.1 p.0 g.short g.passed.allowed g.passed.fits g.passed.taken
          (f p.0 p.1 (omega arith) g.bytes (sym m ∙ h)))
      go (Err d) e f = let q = row_fault F (x ∷ b) s d (omega arith) e in cc

  -- A row that is refused has that fault first, for bytes of which there are at most n.
  faults_within : (n : ℕ) (s : S) (b : List ℕ) (d : Refusal) → length b ≤ n → AllByRecursion (λ x. x < 256) b → read_row F s b ≡ Err d → Faults F s b d
  faults_within n s [] d l w h = Faults.missing (rw (row_end F s) at h)
  faults_within zero s (x ∷ b) d l w h = absurd (omega arith)
  faults_within (suc n) s (x ∷ b) d l w h = go (field_step F s (x ∷ b)) refl (λ t r. faults_within n t r d)
    where
      go : (a : Result (S × List ℕ) Refusal) → field_step F s (x ∷ b) ≡ a →
          ((t : S) (r : List ℕ) → length r ≤ n → AllByRecursion (λ y. y < 256) r → read_row F t r ≡ Err d → Faults F t r d) → Faults F s (x ∷ b) d
      go (Ok p) e f =
          let g = step_takes s p.0 (x ∷ b) p.1 w e in
          let k = step_shorter F (x ∷ b) p.1 s p.0 e in
          let m = row_more F (x ∷ b) p.1 s p.0 e in
          rw g.front
          (Faults.later g.tag g.contents p.1 p.0 g.short g.passed.allowed g.passed.fits g.passed.taken
          (f p.0 p.1 (omega arith) g.bytes (sym m ∙ h)))
      go (Err c) e f =
          let q = row_fault F (x ∷ b) s c (omega arith) e in
          let k : c ≡ d = cc in
          step_fault s d (x ∷ b) (omega arith) w (e ∙ ap Err k)

  -- A well-formed row is read as what it means.
  pub reads_read : (s : S) (b : List ℕ) (v : V) → Reads F s b v → read_row F s b ≡ Ok v
  reads_read s _ v (Reads.at_end h) = row_end F s ∙ h
  reads_read s _ v (Reads.field_first tag contents rest t l a f k more) =
      row_more F (field_bytes tag contents ++ rest) rest s t (step_front s t tag contents rest (record { allowed = a; fits = f; taken = k }))
      ∙ reads_read t rest v more

  -- A row with a fault is refused for its first.
  pub faults_read : (s : S) (b : List ℕ) (e : Refusal) → Faults F s b e → read_row F s b ≡ Err e
  faults_read s _ e (Faults.missing h) = row_end F s ∙ h
  faults_read s b _ (Faults.past_input p) =
      let q = past_split b p in row_fault F b s FieldPastInput q.0 (rw q.1)
  faults_read s _ _ (Faults.bad_tag tag contents rest l a) = step_refused s TagNotAllowed tag contents rest (rw a)
  faults_read s _ _ (Faults.bad_length tag contents rest l a f) = step_refused s LengthNotAllowed tag contents rest (rw (a, f))
  faults_read s _ e (Faults.bad_contents tag contents rest l a f k) = step_refused s e tag contents rest (rw (a, f, k))
  faults_read s _ e (Faults.later tag contents rest t l a f k more) =
      row_more F (field_bytes tag contents ++ rest) rest s t (step_front s t tag contents rest (record { allowed = a; fits = f; taken = k }))
      ∙ faults_read t rest e more

-- A row is read exactly if it is well formed, as what it means, and refused exactly for its first fault.
pub rows_are_read_as_they_mean : {S V : Type 0} (F : Format S V) (s : S) → RowsAreReadAsTheyMean F s
rows_are_read_as_they_mean F s b w = (
  λ v. (reads_within F (length b) s b v (omega arith) w, reads_read F s b v),
  λ e. (faults_within F (length b) s b e (omega arith) w, faults_read F s b e),
)
