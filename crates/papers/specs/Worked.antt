-- Exam papers worked through by hand, with what comes of them.
use Rattle.std.specs.Prelude.{◌≡◌, ℕ, List, [], ◌∷◌, ◌++◌, map, replicate, Some, None, Ok, Err, Option, Result}
use Rattle.std.specs.List.{flat_map, AllByRecursion}
use Rattle.marking.specs.Earned.{accepted, fails, unfinished, refused, unreadable}
use Rattle.papers.specs.Sittings.{Paper, Shown, Judged, Came, unread, sat, came}

-- A paper and what comes of it.
pub record Row : Type 0 where
  pub paper : Paper
  pub expected : Came

-- A paper of a question, steps and a witness.
abbrev paper : List ℕ → List ℕ → List ℕ → Paper
paper q s w = record { question = q; steps = s; witness = w }

-- A row.
abbrev row : Paper → Came → Row
row p c = record { paper = p; expected = c }

-- Some bytes, n times.
abbrev times : ℕ → List ℕ → List ℕ
times n b = flat_map (λ x. x) (replicate n b)

-- n steps accepted with nothing removed.
abbrev fine : ℕ → List (Result ℕ ℕ)
fine n = replicate n (Ok 0)

-- A finished run with these registers and these witness bytes.
abbrev finished : List (List ℕ) → List ℕ → Option Shown
finished registers witness = Some (record { registers = registers; witness = witness })

-- Eight registers, the first of them with this value and the others 0.
abbrev first_register : ℕ → List ℕ
first_register v = v ∷ replicate 7 0

-- A witness that GAM accepts, with its verdict under SC and the bytes of its steps.
abbrev accepted_by_gam : ℕ → List ℕ → Result Judged ℕ
accepted_by_gam sc bytes = Ok (record { gam = 0; sc = sc; rebuilt = Some bytes })

-- A witness that fails this axiom under both.
abbrev fails_both : ℕ → Result Judged ℕ
fails_both n = Ok (record { gam = n; sc = n; rebuilt = None })

-- One processor: store 5 to cell 1, then load it into register 0.
abbrev store_then_load : List ℕ
store_then_load = 80 ∷ 0 ∷ 16 ∷ 4 ∷ 255 ∷ 255 ∷ 255 ∷ 0 ∷ 1 ∷ 0 ∷ 5 ∷ 3 ∷ 0 ∷ 255 ∷ 255 ∷ 0 ∷ 1 ∷ 0 ∷ 0 ∷ []

-- Both fetches, the store's data and address, the load's address, the load, the store.
abbrev seven_steps : List ℕ
seven_steps =
    1 ∷ 0 ∷ 0 ∷ 0 ∷ 1 ∷ 0 ∷ 0 ∷ 0 ∷ 6 ∷ 0 ∷ 0 ∷ 0 ∷ 8 ∷ 0 ∷ 0 ∷ 0 ∷ 8 ∷ 0 ∷ 1 ∷ 0 ∷ 5 ∷ 0 ∷ 1 ∷ 0 ∷ 7 ∷ 0 ∷ 0 ∷ 0 ∷ []

-- The load takes the store's 5 and comes first in the order.
abbrev forwarded : List ℕ
forwarded = 69 ∷ 0 ∷ 2 ∷ 0 ∷ 1 ∷ 82 ∷ 0 ∷ 4 ∷ 0 ∷ 0 ∷ 0 ∷ 5 ∷ 77 ∷ 0 ∷ 4 ∷ 0 ∷ 1 ∷ 0 ∷ 0 ∷ []

-- Both fetches, the load's address, the load.
abbrev early_steps : List ℕ
early_steps = 1 ∷ 0 ∷ 0 ∷ 0 ∷ 1 ∷ 0 ∷ 0 ∷ 0 ∷ 8 ∷ 0 ∷ 1 ∷ 0 ∷ 5 ∷ 0 ∷ 1 ∷ 0 ∷ []

-- The load reads the start; the store, older, comes before it in the order.
abbrev stale : List ℕ
stale = 69 ∷ 0 ∷ 2 ∷ 0 ∷ 1 ∷ 82 ∷ 0 ∷ 4 ∷ 255 ∷ 255 ∷ 0 ∷ 0 ∷ 77 ∷ 0 ∷ 4 ∷ 0 ∷ 0 ∷ 0 ∷ 1 ∷ []

-- The papers on that question.
abbrev pub store_then_load_papers : List Row
store_then_load_papers =
    -- seven steps finish the run; its witness is accepted under GAM, not under SC, and rebuilt to the same steps
    row (paper store_then_load seven_steps forwarded) (sat (record {
      answers = fine 7;
      results = (Some 0 ∷ Some 5 ∷ []) ∷ [];
      shown = finished (first_register 5 ∷ []) forwarded;
      judged = accepted_by_gam 4 seven_steps;
      steps_earn = accepted;
      witness_earns = accepted;
    }))
    -- a load done early reads 0; such a witness fails LoadValue
    ∷ row (paper store_then_load early_steps stale) (sat (record {
      answers = fine 4;
      results = (None ∷ Some 0 ∷ []) ∷ [];
      shown = None;
      judged = fails_both 5;
      steps_earn = unfinished;
      witness_earns = fails 5;
    }))
    -- the store's address removes it; a witness cut short is refused
    ∷ row (paper store_then_load (early_steps ++ 8 ∷ 0 ∷ 0 ∷ 0 ∷ []) (69 ∷ 0 ∷ 2 ∷ 0 ∷ [])) (sat (record {
      answers = fine 4 ++ Ok 1 ∷ [];
      results = (None ∷ []) ∷ [];
      shown = None;
      judged = Err 1;
      steps_earn = unfinished;
      witness_earns = refused 1;
    }))
    -- steps that end inside of a step, and no witness
    ∷ row (paper store_then_load (1 ∷ 0 ∷ 0 ∷ []) []) (sat (record {
      answers = [];
      results = [] ∷ [];
      shown = None;
      judged = Err 2;
      steps_earn = unreadable;
      witness_earns = refused 2;
    }))
    ∷ []

-- A fence from loads to loads.
abbrev fence : List ℕ
fence = 6 ∷ 255 ∷ 255 ∷ 255 ∷ 0 ∷ 0 ∷ 0 ∷ 0 ∷ []

-- One empty path, no sources, no order.
abbrev nothing_ran : List ℕ
nothing_ran = 69 ∷ 0 ∷ 0 ∷ 82 ∷ 0 ∷ 0 ∷ 77 ∷ 0 ∷ 0 ∷ []

-- Papers on the bounds of a question.
abbrev pub bounds_papers : List Row
bounds_papers =
    -- nothing at all
    row (paper [] [] []) (unread 2)
    -- no instructions: finished at once
    ∷ row (paper (80 ∷ 0 ∷ 0 ∷ []) [] nothing_ran) (sat (record {
      answers = [];
      results = [] ∷ [];
      shown = finished (replicate 8 0 ∷ []) nothing_ran;
      judged = accepted_by_gam 0 [];
      steps_earn = accepted;
      witness_earns = accepted;
    }))
    -- sixteen instructions are read; a path without them fails
    ∷ row (paper (80 ∷ 0 ∷ 128 ∷ times 16 fence) [] nothing_ran) (sat (record {
      answers = [];
      results = [] ∷ [];
      shown = None;
      judged = fails_both 1;
      steps_earn = unfinished;
      witness_earns = fails 1;
    }))
    -- seventeen are not
    ∷ row (paper (80 ∷ 0 ∷ 136 ∷ times 17 fence) [] []) (unread 3)
    -- a branch to itself that compares no register, taken each time: the seventeenth fetch finds the buffer full
    ∷ row (paper (80 ∷ 0 ∷ 8 ∷ 5 ∷ 255 ∷ 255 ∷ 255 ∷ 0 ∷ 0 ∷ 0 ∷ 0 ∷ []) (times 17 (1 ∷ 0 ∷ 0 ∷ 1 ∷ [])) nothing_ran) (sat (record {
      answers = fine 16 ++ Err 9 ∷ [];
      results = replicate 16 None ∷ [];
      shown = None;
      judged = fails_both 1;
      steps_earn = unfinished;
      witness_earns = fails 1;
    }))
    ∷ []

-- Cell 1 starts at 7; one processor loads from address 17 into register 0.
abbrev stray_load : List ℕ
stray_load = 73 ∷ 0 ∷ 3 ∷ 1 ∷ 0 ∷ 7 ∷ 80 ∷ 0 ∷ 8 ∷ 3 ∷ 0 ∷ 255 ∷ 255 ∷ 0 ∷ 17 ∷ 0 ∷ 0 ∷ []

-- The load reads 7 from the start.
abbrev stray_witness : List ℕ
stray_witness = 69 ∷ 0 ∷ 1 ∷ 0 ∷ 82 ∷ 0 ∷ 4 ∷ 255 ∷ 255 ∷ 0 ∷ 7 ∷ 77 ∷ 0 ∷ 2 ∷ 0 ∷ 0 ∷ []

-- Two processors store 1 to cells 1 and 2 and load the other's into register 0.
abbrev store_buffering : List ℕ
store_buffering =
    80 ∷ 0 ∷ 16 ∷ 4 ∷ 255 ∷ 255 ∷ 255 ∷ 0 ∷ 1 ∷ 0 ∷ 1 ∷ 3 ∷ 0 ∷ 255 ∷ 255 ∷ 0 ∷ 2 ∷ 0 ∷ 0
    ∷ 80 ∷ 0 ∷ 16 ∷ 4 ∷ 255 ∷ 255 ∷ 255 ∷ 0 ∷ 2 ∷ 0 ∷ 1 ∷ 3 ∷ 0 ∷ 255 ∷ 255 ∷ 0 ∷ 1 ∷ 0 ∷ 0 ∷ []

-- Both loads read the start; the order field follows.
abbrev both_read_zero : List ℕ → List ℕ
both_read_zero order =
    69 ∷ 0 ∷ 2 ∷ 0 ∷ 1 ∷ 69 ∷ 0 ∷ 2 ∷ 0 ∷ 1 ∷ 82 ∷ 0 ∷ 8 ∷ 255 ∷ 255 ∷ 0 ∷ 0 ∷ 255 ∷ 255 ∷ 0 ∷ 0 ∷ 77 ∷ 0 ∷ 8 ∷ order

-- All fetches, data and addresses, then the loads, then the stores.
abbrev loads_first_steps : List ℕ
loads_first_steps =
    1 ∷ 0 ∷ 0 ∷ 0 ∷ 1 ∷ 0 ∷ 0 ∷ 0 ∷ 1 ∷ 1 ∷ 0 ∷ 0 ∷ 1 ∷ 1 ∷ 0 ∷ 0
    ∷ 6 ∷ 0 ∷ 0 ∷ 0 ∷ 8 ∷ 0 ∷ 0 ∷ 0 ∷ 8 ∷ 0 ∷ 1 ∷ 0 ∷ 6 ∷ 1 ∷ 0 ∷ 0 ∷ 8 ∷ 1 ∷ 0 ∷ 0 ∷ 8 ∷ 1 ∷ 1 ∷ 0
    ∷ 5 ∷ 0 ∷ 1 ∷ 0 ∷ 5 ∷ 1 ∷ 1 ∷ 0 ∷ 7 ∷ 0 ∷ 0 ∷ 0 ∷ 7 ∷ 1 ∷ 0 ∷ 0 ∷ []

-- Papers on addresses and on the order of accesses.
abbrev pub memory_papers : List Row
memory_papers =
    -- an address is reduced modulo 16
    row (paper stray_load (1 ∷ 0 ∷ 0 ∷ 0 ∷ 8 ∷ 0 ∷ 0 ∷ 0 ∷ 5 ∷ 0 ∷ 0 ∷ 0 ∷ []) stray_witness) (sat (record {
      answers = fine 3;
      results = (Some 7 ∷ []) ∷ [];
      shown = finished (first_register 7 ∷ []) stray_witness;
      judged = accepted_by_gam 0 (1 ∷ 0 ∷ 0 ∷ 0 ∷ 8 ∷ 0 ∷ 0 ∷ 0 ∷ 5 ∷ 0 ∷ 0 ∷ 0 ∷ []);
      steps_earn = accepted;
      witness_earns = accepted;
    }))
    -- the loads first
    ∷ row (paper store_buffering loads_first_steps (both_read_zero (0 ∷ 1 ∷ 1 ∷ 1 ∷ 0 ∷ 0 ∷ 1 ∷ 0 ∷ []))) (sat (record {
      answers = fine 14;
      results = (Some 0 ∷ Some 0 ∷ []) ∷ (Some 0 ∷ Some 0 ∷ []) ∷ [];
      shown = finished (replicate 8 0 ∷ replicate 8 0 ∷ []) (both_read_zero (0 ∷ 1 ∷ 1 ∷ 1 ∷ 0 ∷ 0 ∷ 1 ∷ 0 ∷ []));
      judged = accepted_by_gam 4 loads_first_steps;
      steps_earn = accepted;
      witness_earns = accepted;
    }))
    -- the stores first
    ∷ row (paper store_buffering [] (both_read_zero (0 ∷ 0 ∷ 1 ∷ 0 ∷ 0 ∷ 1 ∷ 1 ∷ 1 ∷ []))) (sat (record {
      answers = [];
      results = [] ∷ [] ∷ [];
      shown = None;
      judged = fails_both 5;
      steps_earn = unfinished;
      witness_earns = fails 5;
    }))
    ∷ []

-- All papers.
abbrev pub papers : List Row
papers = store_then_load_papers ++ bounds_papers ++ memory_papers

-- What the definitions give, and what the table says.
abbrev pub found : Row → Came
found r = came r.paper

abbrev pub told : Row → Came
told r = r.expected

-- The papers come out, as one table.
abbrev pub WorkedPapersComeOut : Type 0
WorkedPapersComeOut = map found papers ≡ map told papers

-- The same, paper by paper.
abbrev pub EachWorkedPaperComesOut : Type 0
EachWorkedPaperComesOut = AllByRecursion (λ r. found r ≡ told r) papers
