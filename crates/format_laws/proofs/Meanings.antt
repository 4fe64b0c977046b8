-- A question is read exactly if it is well formed, as the litmus test that it means.
use Rattle.std.proofs.Common.{◌≡◌, ℕ, ◌<◌, Bool, true, false, eqb, List, [], ◌++◌, length, Ok, sym, refl, ap, ◌∙◌, arith}
use Rattle.std.specs.List.{flat_map, AllByRecursion}
use Rattle.std.proofs.lemmas.Bool.{eqb-true}
use Rattle.fields.specs.Fields.{field_bytes}
use Rattle.fields.specs.Rows.{Reads}
use Rattle.fields.proofs.Rows.{then_ok}
use Rattle.fields.proofs.Relations.{rows_are_read_as_they_mean}
use Rattle.question.specs.Litmus.{Litmus}
use Rattle.question.specs.Cells.{zeros, cells_from}
use Rattle.question.specs.Read.{Draft, no_fields, cell_tag, processor_tag, question_fits, question_taken, question_format}
use Rattle.question.specs.Means.{start_bytes, started, processor_bytes, Means, QuestionsAreReadAsTheyMean}
use Rattle.format_laws.proofs.Cells.{Recorded, length_rising, contents_cells, cells_contents}
use Rattle.format_laws.proofs.Processors.{More, all_parts, litmus, processor_taken, processor_next, more_next, reads_more, more_reads}

-- The draft with these start values, behind a cell field.
abbrev with_start : List ℕ → Draft
with_start start = record { empty = false; start = start; code = [] }

-- A cell field's contents are the bytes of rising records, whose start values the draft then has.
record CellsTaken (t : Draft) (contents : List ℕ) : Type 0 where
  start : List ℕ
  recorded : Recorded 0 zeros contents start
  then_is : with_start start ≡ t

-- A cell field that is taken.
cells_taken : (t : Draft) (tag : ℕ) (contents : List ℕ) → tag ≡ cell_tag → AllByRecursion (λ x. x < 256) contents →
    question_fits tag (length contents) ≡ true → question_taken no_fields tag contents ≡ Ok t → CellsTaken t contents
cells_taken t tag contents e w f k =
    let p = then_ok (cells_from 0 zeros contents) (λ start. Ok (with_start start)) t (rw e at k) in
    record { start = p.0; recorded = contents_cells contents p.0 (rw e at f) w p.1; then_is = cc p.2 }

-- A cell field in front of processor fields.
means_with_cells : (t : Draft) (contents rest : List ℕ) (l : Litmus) → CellsTaken t contents → More t rest l →
    Means (field_bytes cell_tag contents ++ rest) l
means_with_cells t contents rest l c m =
    let r = c.recorded in
    let n : More (with_start c.start) rest l = rw c.then_is m in
    let e : litmus (with_start (started zeros r.records)) n.code ≡ l = ap (λ x. litmus (with_start x) n.code) (sym r.made) ∙ n.means in
    rw (r.bytes, n.bytes, ← e)
    (Means.with_cells r.records n.code r.rising (omega arith, omega arith, n.allowed))

-- Processor fields without a cell field.
means_without_cells : (b : List ℕ) (l : Litmus) → More no_fields b l → Means b l
means_without_cells b l m = rw (m.bytes, ← m.means) (Means.without_cells m.code (omega arith, omega arith, m.allowed))

-- A well-formed row of fields is a well-formed question.
reads_means : (b : List ℕ) (l : Litmus) → AllByRecursion (λ x. x < 256) b → Reads question_format no_fields b l → Means b l
reads_means _ l w (Reads.at_end h) = absurd (let z : ◌≡◌ {A = ℕ} 0 1 = cc in omega arith)
reads_means _ l w (Reads.field_first tag contents rest t short allowed fits taken reads) =
    go (eqb tag cell_tag) refl
  where
    v : AllByRecursion (λ x. x < 256) contents × AllByRecursion (λ x. x < 256) rest
    v = all_parts (λ x. x < 256) contents rest w.1.1.1

    go : (q : Bool) → eqb tag cell_tag ≡ q → Means (field_bytes tag contents ++ rest) l
    go true q =
        let e = eqb-true tag cell_tag q in
        let c = cells_taken t tag contents e v.0 fits taken in
        let m = reads_more t rest l (rw (← c.then_is) refl) (rw (← c.then_is) (omega arith)) v.1 reads in
        rw e (means_with_cells t contents rest l c m)
    go false q =
        let e = (processor_next no_fields tag q allowed).0 in
        let p = processor_taken no_fields t tag contents e v.0 fits taken in
        let m = reads_more t rest l (rw (← p.then_is) refl) (rw (← p.then_is) (omega arith)) v.1 reads in
        rw e (means_without_cells (field_bytes processor_tag contents ++ rest) l (more_next no_fields t contents rest l p m))

-- A well-formed question is a well-formed row of fields.
means_reads : (b : List ℕ) (l : Litmus) → Means b l → Reads question_format no_fields b l
means_reads _ _ (Means.without_cells code a) = more_reads no_fields code a.2 (omega arith) (omega arith)
means_reads _ _ (Means.with_cells rs code r a) =
    let c = cells_contents rs r in
    let k = length_rising rs r in
    let t = with_start (started zeros rs) in
    Reads.field_first cell_tag (flat_map start_bytes rs) (flat_map processor_bytes code) t (omega arith) refl c.0 (rw c.1)
    (more_reads t code a.2 (omega arith) (omega arith))

-- Accepted are exactly the well-formed strings of bytes, as what they mean.
pub questions_are_read_as_they_mean : QuestionsAreReadAsTheyMean
questions_are_read_as_they_mean b w l =
    let r = (rows_are_read_as_they_mean question_format no_fields b w).0 l in
    (λ h. reads_means b l w (r.0 h), λ m. r.1 (means_reads b l m))
