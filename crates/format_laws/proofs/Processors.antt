-- Processor fields are read from exactly the bytes of allowed instructions.
use Rattle.std.proofs.Common.{◌≡◌, ℕ, ◌+◌, ◌<◌, ◌≤◌, Bool, true, false, cond, ◌&&◌, eqb, ltb, List, [], ◌∷◌, ◌++◌, length, Ok, Err, sym, refl, ap, ◌∙◌, arith}
use Rattle.std.specs.List.{flat_map, AllByRecursion}
use Rattle.std.proofs.lemmas.List.{append-nil, append_assoc, length_push}
use Rattle.std.proofs.lemmas.Bool.{ltb-true, eqb-true, lt-ltb, false≢true, and_parts}
use Rattle.fields.specs.declared.refusal.Refusal.TheVariants.{TagNotAllowed}
use Rattle.fields.specs.Fields.{field_bytes}
use Rattle.fields.specs.Rows.{Reads}
use Rattle.fields.proofs.Rows.{then_ok}
use Rattle.instructions.specs.declared.instruction.Instruction.{Instruction}
use Rattle.question.specs.Instructions.{instruction_bytes}
use Rattle.question.specs.Litmus.{Litmus}
use Rattle.question.specs.Codes.{code_of}
use Rattle.question.specs.Read.{Draft, cell_tag, processor_tag, question_allowed, question_fits, question_taken, question_whole, question_format}
use Rattle.question.specs.Means.{CodeAllowed, processor_bytes}
use Rattle.format_laws.proofs.Codes.{length_code, contents_code, code_contents}

-- What holds of the elements of two joined lists holds of each list's.
pub all_parts : {X : Type 0} (P : X → Type 0) (xs ys : List X) → AllByRecursion P (xs ++ ys) → AllByRecursion P xs × AllByRecursion P ys
all_parts P [] ys h = (tt, h)
all_parts P (x ∷ xs) ys h = let p = all_parts P xs ys h.1 in ((h.0, p.0), p.1)

-- The draft with one processor more.
abbrev pub with_code : Draft → List Instruction → Draft
with_code s is = record { empty = false; start = s.start; code = s.code ++ is ∷ [] }

-- A processor field's contents are the bytes of allowed instructions, which the draft then has.
pub record ProcessorTaken (s t : Draft) (contents : List ℕ) : Type 0 where
  pub instructions : List Instruction
  pub bytes : contents ≡ flat_map instruction_bytes instructions
  pub allowed : CodeAllowed instructions
  pub then_is : with_code s instructions ≡ t

-- A processor field that is taken.
pub processor_taken : (s t : Draft) (tag : ℕ) (contents : List ℕ) → tag ≡ processor_tag → AllByRecursion (λ x. x < 256) contents →
    question_fits tag (length contents) ≡ true → question_taken s tag contents ≡ Ok t → ProcessorTaken s t contents
processor_taken s t tag contents e w f k =
    let p = then_ok (code_of contents) (λ is. Ok (with_code s is)) t (rw e at k) in
    let c = contents_code contents p.0 (rw e at f) w p.1 in
    record { instructions = p.0; bytes = c.0; allowed = c.1; then_is = cc p.2 }

-- A field that is allowed and is not a cell field is a processor field, and there were less than four.
pub processor_next : (s : Draft) (tag : ℕ) → eqb tag cell_tag ≡ false → question_allowed s tag ≡ true →
    (tag ≡ processor_tag) × (length s.code < 4)
processor_next s tag c a =
    let p = and_parts (eqb tag processor_tag) (ltb (length s.code) 4) (rw c at a) in
    (eqb-true tag processor_tag p.0, ltb-true (length s.code) 4 p.1)

-- A field that is allowed behind another one is not a cell field.
not_cells : (s : Draft) (tag : ℕ) → s.empty ≡ false → question_allowed s tag ≡ true → eqb tag cell_tag ≡ false
not_cells s tag e a = go (eqb tag cell_tag) refl a
  where
    go : (t : Bool) → eqb tag cell_tag ≡ t → cond t s.empty (eqb tag processor_tag && ltb (length s.code) 4) ≡ true → eqb tag cell_tag ≡ false
    go true p h = absurd (false≢true (sym e ∙ h))
    go false p h = p

-- The litmus test with what is known of the cells, and these instructions.
abbrev pub litmus : Draft → List (List Instruction) → Litmus
litmus s code = record { start = s.start; code = code }

-- These bytes are more processor fields, and with what is known before they mean this litmus test.
pub record More (s : Draft) (b : List ℕ) (l : Litmus) : Type 0 where
  pub code : List (List Instruction)
  pub bytes : b ≡ flat_map processor_bytes code
  pub means : litmus s (s.code ++ code) ≡ l
  pub allowed : AllByRecursion CodeAllowed code
  pub some : 1 ≤ length s.code + length code
  pub few : length s.code + length code ≤ 4

-- No processor field more.
more_none : (s : Draft) (l : Litmus) → length s.code ≤ 4 → question_whole s ≡ Ok l → More s [] l
more_none s l f h = go (ltb 0 (length s.code)) refl h
  where
    go : (t : Bool) → ltb 0 (length s.code) ≡ t → cond t (Ok (litmus s s.code)) (Err TagNotAllowed) ≡ Ok l → More s [] l
    go true p h =
        let q = ltb-true 0 (length s.code) p in
        let e : litmus s s.code ≡ l = cc in
        record { code = []; bytes = refl; means = rw (append-nil s.code) e; allowed = tt; some = omega arith; few = omega arith }
    go false p h = absurd (let z : ◌≡◌ {A = ℕ} 0 1 = cc in omega arith)

-- One processor field more in front.
pub more_next : (s t : Draft) (contents rest : List ℕ) (l : Litmus) → ProcessorTaken s t contents → More t rest l →
    More s (field_bytes processor_tag contents ++ rest) l
more_next s t contents rest l p m =
    let is = p.instructions in
    let c : More (with_code s is) rest l = rw p.then_is m in
    let n = length_push s.code is in
    record {
      code = is ∷ c.code;
      bytes = ap (λ x. field_bytes processor_tag x ++ rest) p.bytes ∙ ap (λ x. processor_bytes is ++ x) c.bytes;
      means = ap (litmus s) (sym (append_assoc s.code (is ∷ []) c.code)) ∙ c.means;
      allowed = (p.allowed, c.allowed);
      some = omega arith;
      few = let k = c.few in omega arith;
    }

-- Fields behind the first are processor fields.
pub reads_more : (s : Draft) (b : List ℕ) (l : Litmus) → s.empty ≡ false → length s.code ≤ 4 → AllByRecursion (λ x. x < 256) b →
    Reads question_format s b l → More s b l
reads_more s _ l e f w (Reads.at_end h) = more_none s l f h
reads_more s _ l e f w (Reads.field_first tag contents rest t short allowed fits taken reads) =
    let n = processor_next s tag (not_cells s tag e allowed) allowed in
    let v = all_parts (λ x. x < 256) contents rest w.1.1.1 in
    let p = processor_taken s t tag contents n.0 v.0 fits taken in
    let k = length_push s.code p.instructions in
    let m = reads_more t rest l (rw (← p.then_is) refl) (rw (← p.then_is) (omega arith)) v.1 reads in
    rw n.0 (more_next s t contents rest l p m)

-- Processor fields of allowed instructions are read.
pub more_reads : (s : Draft) (code : List (List Instruction)) → AllByRecursion CodeAllowed code → 1 ≤ length s.code + length code → length s.code + length code ≤ 4 →
    Reads question_format s (flat_map processor_bytes code) (litmus s (s.code ++ code))
more_reads s [] a o f =
    let h : question_whole s ≡ Ok (litmus s s.code) = rw (lt-ltb 0 (length s.code) (omega arith)) in
    rw (append-nil s.code) (Reads.at_end h)
more_reads s (is ∷ code) a o f =
    let b = flat_map instruction_bytes is in
    let c = code_contents is a.0 in
    let l = length_code is in
    let k = length_push s.code is in
    let m = more_reads (with_code s is) code a.1 (omega arith) (omega arith) in
    Reads.field_first processor_tag b (flat_map processor_bytes code) (with_code s is) (omega arith)
    (rw (lt-ltb (length s.code) 4 (omega arith))) c.0 (rw c.1) (rw (append_assoc s.code (is ∷ []) code) at m)
