-- In a finished run every processor is at the end of its code, and every entry is done.
use Rattle.std.proofs.Common.{◌≡◌, ℕ, zero, suc, ◌<◌, true, eqb, List, [], ◌∷◌, length, get_or, refl, arith}
use Rattle.std.proofs.lemmas.Bool.{and_parts, eqb-true}
use Rattle.instructions.specs.declared.instruction.Instruction.{Instruction}
use Rattle.machine.specs.Fires.{buffer}
use Rattle.machine.specs.Results.{all_done, core_finished, all_finished}
use Rattle.machine.specs.State.{Core, core_at, empty_core}
use Rattle.question.specs.Litmus.{code_at}
use Rattle.rules.specs.Entries.{at}
use Rattle.rules.specs.declared.entry.Entry.{Entry}
use Rattle.reachable.specs.Laws.{FinishedRunsAreDone}

-- Where all are done, each is.
done_at : (es : List Entry) (i : ℕ) → all_done es ≡ true → i < length es → (at es i).done ≡ true
done_at [] i h l = absurd (omega arith)
done_at (e ∷ es) zero h l = (and_parts e.done (all_done es) h).0
done_at (e ∷ es) (suc i) h l = done_at es i (and_parts e.done (all_done es) h).1 (omega arith)

-- Where all are finished, each is.
finished_at : (codes : List (List Instruction)) (cores : List Core) (p : ℕ) → length cores ≡ length codes → all_finished codes cores ≡ true →
    core_finished (get_or codes p []) (get_or cores p empty_core) ≡ true
finished_at [] [] p l h = refl
finished_at [] (c ∷ cores) p l h = absurd (omega arith)
finished_at (code ∷ codes) [] p l h = absurd (omega arith)
finished_at (code ∷ codes) (c ∷ cores) zero l h = (and_parts (core_finished code c) (all_finished codes cores) h).0
finished_at (code ∷ codes) (c ∷ cores) (suc p) l h = finished_at codes cores p (omega arith) (and_parts (core_finished code c) (all_finished codes cores) h).1

-- A finished run is done.
pub finished_runs_are_done : FinishedRunsAreDone
finished_runs_are_done q s inv h p =
    let (a, b) = and_parts (eqb (core_at s p).counter (length (code_at q p))) (all_done (buffer s p)) (finished_at q.code s.cores p inv.processors h) in
    (eqb-true (core_at s p).counter (length (code_at q p)) a, λ i l. done_at (buffer s p) i b l)
