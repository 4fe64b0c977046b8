-- A row of fields: how it is read, what it means and which fault is found first.
use Rattle.std.specs.Prelude.{◌≡◌, ℕ, zero, suc, ◌<◌, Bool, true, false, cond, ◌↔◌, List, [], ◌∷◌, ◌++◌, length, ⊤, Ok, Err, Result, MatchResult}
use Rattle.std.specs.List.{AllByRecursion}
use Rattle.fields.specs.declared.refusal.Refusal.{Refusal}
use Rattle.fields.specs.declared.refusal.Refusal.TheVariants.{FieldPastInput, TagNotAllowed, LengthNotAllowed}
use Rattle.fields.specs.Fields.{Cut, word, field_bytes, split_field}

-- A format. S is what is known of the fields so far, V is what a whole row means.
pub record Format (S V : Type 0) : Type 0 where
  -- may a field with this tag come next
  pub allowed : S → ℕ → Bool
  -- may a field with this tag have contents of this length
  pub fits : ℕ → ℕ → Bool
  -- what is known after the contents of a field with this tag
  pub taken : S → ℕ → List ℕ → Result S Refusal
  -- what the row means if it ends here
  pub whole : S → Result V Refusal

-- The first answer's value goes on to the second; its refusal stays.
abbrev pub then : {A B : Type 0} → Result A Refusal → (A → Result B Refusal) → Result B Refusal
then (Ok a) next = next a
then (Err e) next = Err e

-- The bytes have a field that runs past them.
pub data RunsPast : List ℕ → Type 0 where
  no_length : (tag : ℕ) → RunsPast (tag ∷ [])
  half_a_length : (tag high : ℕ) → RunsPast (tag ∷ high ∷ [])
  contents_cut : (tag high low : ℕ) (bytes : List ℕ) → length bytes < word high low → RunsPast (tag ∷ high ∷ low ∷ bytes)

module _ {S V : Type 0} (F : Format S V) where
  -- A field, tested for its tag, its length and its contents, in this order.
  abbrev pub tested : S → Cut → Result S Refusal
  tested s c =
      cond (F.allowed s c.tag)
      (cond (F.fits c.tag (length c.contents)) (F.taken s c.tag c.contents) (Err LengthNotAllowed))
      (Err TagNotAllowed)

  -- The field is taken in, after which t is known, or refused.
  abbrev pub TakesIn : S → Cut → Result ⊤ Refusal → S → Type 0
  TakesIn s c answer t = MatchResult answer (λ _. tested s c ≡ Ok t) (λ e. tested s c ≡ Err e)

  -- One field more, and the bytes behind it.
  abbrev pub field_step : S → List ℕ → Result (S × List ℕ) Refusal
  field_step s b = then (split_field b) (λ c. then (tested s c) (λ t. Ok (t, c.rest)))

  -- Fields up to the end of the bytes, of which there are at most n.
  unfoldable pub read_within : ℕ → S → List ℕ → Result V Refusal
  read_within n s [] = F.whole s
  read_within zero s (b ∷ bs) = Err FieldPastInput
  read_within (suc n) s (b ∷ bs) = then (field_step s (b ∷ bs)) (λ p. read_within n p.0 p.1)

  -- Fields up to the end of the bytes.
  unfoldable pub read_row : S → List ℕ → Result V Refusal
  read_row s b = read_within (length b) s b

  -- The bytes are a row of fields, each allowed where it stands, of an allowed length and with sound contents, that means v.
  pub data Reads : S → List ℕ → V → Type 0 where
    at_end : {s : S} {v : V} → F.whole s ≡ Ok v → Reads s [] v
    field_first : {s : S} {v : V} (tag : ℕ) (contents rest : List ℕ) (t : S) → length contents < 65536 →
        F.allowed s tag ≡ true → F.fits tag (length contents) ≡ true → F.taken s tag contents ≡ Ok t →
        Reads t rest v → Reads s (field_bytes tag contents ++ rest) v

  -- The first fault of the bytes, fields front to back: past the input, tag, length, contents; a missing field last.
  pub data Faults : S → List ℕ → Refusal → Type 0 where
    missing : {s : S} {e : Refusal} → F.whole s ≡ Err e → Faults s [] e
    past_input : {s : S} {b : List ℕ} → RunsPast b → Faults s b FieldPastInput
    bad_tag : {s : S} (tag : ℕ) (contents rest : List ℕ) → length contents < 65536 →
        F.allowed s tag ≡ false → Faults s (field_bytes tag contents ++ rest) TagNotAllowed
    bad_length : {s : S} (tag : ℕ) (contents rest : List ℕ) → length contents < 65536 →
        F.allowed s tag ≡ true → F.fits tag (length contents) ≡ false → Faults s (field_bytes tag contents ++ rest) LengthNotAllowed
    bad_contents : {s : S} {e : Refusal} (tag : ℕ) (contents rest : List ℕ) → length contents < 65536 →
        F.allowed s tag ≡ true → F.fits tag (length contents) ≡ true → F.taken s tag contents ≡ Err e →
        Faults s (field_bytes tag contents ++ rest) e
    later : {s : S} {e : Refusal} (tag : ℕ) (contents rest : List ℕ) (t : S) → length contents < 65536 →
        F.allowed s tag ≡ true → F.fits tag (length contents) ≡ true → F.taken s tag contents ≡ Ok t →
        Faults t rest e → Faults s (field_bytes tag contents ++ rest) e

-- Of every list of bytes: a row is read exactly if it is well formed, as what it means, and refused exactly for its first fault.
abbrev pub RowsAreReadAsTheyMean : {S V : Type 0} → Format S V → S → Type 0
RowsAreReadAsTheyMean {S} {V} F s =
    (b : List ℕ) → AllByRecursion (λ x. x < 256) b →
    ((v : V) → (read_row F s b ≡ Ok v) ↔ Reads F s b v) × ((e : Refusal) → (read_row F s b ≡ Err e) ↔ Faults F s b e)
