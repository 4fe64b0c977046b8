-- Witnesses worked through by hand, with their verdicts under GAM and under SC.
use Rattle.std.specs.Prelude.{◌≡◌, ℕ, List, [], ◌∷◌, ◌++◌, map, replicate, Some, None}
use Rattle.std.specs.List.{AllByRecursion}
use Rattle.instructions.specs.declared.instruction.AccessType.TheVariants as access_type
use Rattle.instructions.specs.declared.instruction.Instruction.{Instruction}
use Rattle.instructions.specs.declared.instruction.Instruction.TheVariants.{Add, Subtract, Load, Store, Branch, Fence}
use Rattle.question.specs.Litmus.{Litmus}
use Rattle.witness.specs.Execution.{Execution}
use Rattle.witness.specs.declared.record.Access.{Access}
use Rattle.witness.specs.declared.record.Source.{Source}
use Rattle.ordering.specs.Tests.{gam_keeps, sc_keeps}
use Rattle.checker.specs.Terms.{access_at}
use Rattle.checker.specs.Verdict.{verdict}

-- A witness of a question, with the verdicts that it gets.
pub record Case : Type 0 where
  pub question : Litmus
  pub witness : Execution
  pub gam : ℕ
  pub sc : ℕ

-- The two verdicts.
pub record Verdicts : Type 0 where
  pub gam : ℕ
  pub sc : ℕ

-- The question of these processors, with cells that start at 0.
abbrev pub of_processors : List (List Instruction) → Litmus
of_processors code = record { start = replicate 16 0; code = code }

-- A value from the start, and one from a store.
abbrev pub from_start : ℕ → Source
from_start v = record { processor = 255; position = 255; value = v }

abbrev pub from_store : ℕ → ℕ → ℕ → Source
from_store p i v = record { processor = p; position = i; value = v }

-- A witness that gets these verdicts.
abbrev case : Litmus → Execution → ℕ → ℕ → Case
case q w g s = record { question = q; witness = w; gam = g; sc = s }

-- A witness with these paths, sources and order.
abbrev run : List (List ℕ) → List Source → List Access → Execution
run paths sources order = record { paths = paths; sources = sources; order = order }

-- Store 5 to cell 1, then load it.
abbrev store_then_load : Execution → ℕ → ℕ → Case
store_then_load w g s = case (of_processors ((Store None None 1 5 ∷ Load 0 None 1 ∷ []) ∷ [])) w g s

-- The rows of that question.
abbrev pub store_then_load_cases : List Case
store_then_load_cases =
    -- the load, forwarded, comes first in the order
    store_then_load (run ((0 ∷ 1 ∷ []) ∷ []) (from_store 0 0 5 ∷ []) (access_at 0 1 ∷ access_at 0 0 ∷ [])) 0 4
    -- the load comes last
    ∷ store_then_load (run ((0 ∷ 1 ∷ []) ∷ []) (from_store 0 0 5 ∷ []) (access_at 0 0 ∷ access_at 0 1 ∷ [])) 0 0
    -- two paths for one processor
    ∷ store_then_load (run ((0 ∷ 1 ∷ []) ∷ [] ∷ []) (from_store 0 0 5 ∷ []) (access_at 0 0 ∷ access_at 0 1 ∷ [])) 1 1
    -- a path that ends before the end
    ∷ store_then_load (run ((0 ∷ []) ∷ []) [] (access_at 0 0 ∷ [])) 1 1
    -- a place past the end
    ∷ store_then_load (run ((0 ∷ 1 ∷ 2 ∷ []) ∷ []) (from_store 0 0 5 ∷ []) (access_at 0 0 ∷ access_at 0 1 ∷ [])) 1 1
    -- a place left out
    ∷ store_then_load (run ((1 ∷ []) ∷ []) (from_start 0 ∷ []) (access_at 0 0 ∷ [])) 1 1
    -- no source record
    ∷ store_then_load (run ((0 ∷ 1 ∷ []) ∷ []) [] (access_at 0 0 ∷ access_at 0 1 ∷ [])) 1 1
    -- a source record too many
    ∷ store_then_load (run ((0 ∷ 1 ∷ []) ∷ []) (from_store 0 0 5 ∷ from_start 0 ∷ []) (access_at 0 0 ∷ access_at 0 1 ∷ [])) 1 1
    -- an access left out
    ∷ store_then_load (run ((0 ∷ 1 ∷ []) ∷ []) (from_store 0 0 5 ∷ []) (access_at 0 0 ∷ [])) 2 2
    -- an access twice
    ∷ store_then_load (run ((0 ∷ 1 ∷ []) ∷ []) (from_store 0 0 5 ∷ []) (access_at 0 0 ∷ access_at 0 1 ∷ access_at 0 0 ∷ [])) 2 2
    -- an access past the end of the path
    ∷ store_then_load (run ((0 ∷ 1 ∷ []) ∷ []) (from_store 0 0 5 ∷ []) (access_at 0 0 ∷ access_at 0 1 ∷ access_at 0 2 ∷ [])) 2 2
    -- the store with other data
    ∷ store_then_load (run ((0 ∷ 1 ∷ []) ∷ []) (from_store 0 0 6 ∷ []) (access_at 0 0 ∷ access_at 0 1 ∷ [])) 3 3
    -- a load for a source
    ∷ store_then_load (run ((0 ∷ 1 ∷ []) ∷ []) (from_store 0 1 5 ∷ []) (access_at 0 0 ∷ access_at 0 1 ∷ [])) 3 3
    -- a source that is neither the start nor a store: half of the start's mark
    ∷ store_then_load (run ((0 ∷ 1 ∷ []) ∷ []) (from_store 255 0 0 ∷ []) (access_at 0 0 ∷ access_at 0 1 ∷ [])) 3 3
    -- the start with another value
    ∷ store_then_load (run ((0 ∷ 1 ∷ []) ∷ []) (from_start 5 ∷ []) (access_at 0 0 ∷ access_at 0 1 ∷ [])) 3 3
    -- the start, where the store before it in the path is younger
    ∷ store_then_load (run ((0 ∷ 1 ∷ []) ∷ []) (from_start 0 ∷ []) (access_at 0 0 ∷ access_at 0 1 ∷ [])) 5 5
    ∷ []

-- Two processors store 1 to cells 1 and 2 and load the other's; both loads read 0.
abbrev store_buffering : List Access → ℕ → ℕ → Case
store_buffering order g s =
    case (of_processors ((Store None None 1 1 ∷ Load 0 None 2 ∷ []) ∷ (Store None None 2 1 ∷ Load 0 None 1 ∷ []) ∷ []))
    (run ((0 ∷ 1 ∷ []) ∷ (0 ∷ 1 ∷ []) ∷ []) (from_start 0 ∷ from_start 0 ∷ []) order) g s

-- The rows of that question.
abbrev pub store_buffering_cases : List Case
store_buffering_cases =
    -- the loads first
    store_buffering (access_at 0 1 ∷ access_at 1 1 ∷ access_at 0 0 ∷ access_at 1 0 ∷ []) 0 4
    -- the stores first
    ∷ store_buffering (access_at 0 0 ∷ access_at 1 0 ∷ access_at 0 1 ∷ access_at 1 1 ∷ []) 5 5
    -- an access left out
    ∷ store_buffering (access_at 0 0 ∷ access_at 1 0 ∷ access_at 0 1 ∷ []) 2 2
    ∷ []

-- Rows that show what keeps two accesses in order, one constraint or slip a row.
abbrev pub ordering_cases : List Case
ordering_cases =
    -- two loads of a cell, and a store to it between them: not kept
    case (of_processors ((Load 0 None 1 ∷ Store None None 1 5 ∷ Load 1 None 1 ∷ []) ∷ []))
    (run ((0 ∷ 1 ∷ 2 ∷ []) ∷ []) (from_start 0 ∷ from_store 0 1 5 ∷ []) (access_at 0 2 ∷ access_at 0 0 ∷ access_at 0 1 ∷ [])) 0 4
    -- two loads of a cell: kept
    ∷ case (of_processors ((Load 0 None 1 ∷ Load 1 None 1 ∷ []) ∷ []))
    (run ((0 ∷ 1 ∷ []) ∷ []) (from_start 0 ∷ from_start 0 ∷ []) (access_at 0 1 ∷ access_at 0 0 ∷ [])) 4 4
    -- an address from a register minus itself: kept
    ∷ case (of_processors ((Load 1 None 1 ∷ Subtract 2 (Some 1) (Some 1) 2 ∷ Load 3 (Some 2) 0 ∷ []) ∷ []))
    (run ((0 ∷ 1 ∷ 2 ∷ []) ∷ []) (from_start 0 ∷ from_start 0 ∷ []) (access_at 0 2 ∷ access_at 0 0 ∷ [])) 4 4
    -- a nearer writer of that register: not kept
    ∷ case (of_processors ((Load 1 None 1 ∷ Add 1 None None 2 ∷ Load 3 (Some 1) 0 ∷ []) ∷ []))
    (run ((0 ∷ 1 ∷ 2 ∷ []) ∷ []) (from_start 0 ∷ from_start 0 ∷ []) (access_at 0 2 ∷ access_at 0 0 ∷ [])) 0 4
    -- a branch on what was loaded, then a store: kept
    ∷ case (of_processors ((Load 1 None 1 ∷ Branch (Some 1) 7 0 ∷ Store None None 2 1 ∷ []) ∷ []))
    (run ((0 ∷ 1 ∷ 2 ∷ []) ∷ []) (from_start 0 ∷ []) (access_at 0 2 ∷ access_at 0 0 ∷ [])) 4 4
    -- a branch on what was loaded, then a load: not kept
    ∷ case (of_processors ((Load 1 None 1 ∷ Branch (Some 1) 7 0 ∷ Load 2 None 2 ∷ []) ∷ []))
    (run ((0 ∷ 1 ∷ 2 ∷ []) ∷ []) (from_start 0 ∷ from_start 0 ∷ []) (access_at 0 2 ∷ access_at 0 0 ∷ [])) 0 4
    -- two loads with a fence for them between: kept
    ∷ case (of_processors ((Load 1 None 1 ∷ Fence access_type.Load access_type.Load ∷ Load 2 None 2 ∷ []) ∷ []))
    (run ((0 ∷ 1 ∷ 2 ∷ []) ∷ []) (from_start 0 ∷ from_start 0 ∷ []) (access_at 0 2 ∷ access_at 0 0 ∷ [])) 4 4
    -- two stores to a cell: kept
    ∷ case (of_processors ((Store None None 1 1 ∷ Store None None 1 2 ∷ []) ∷ []))
    (run ((0 ∷ 1 ∷ []) ∷ []) [] (access_at 0 1 ∷ access_at 0 0 ∷ [])) 4 4
    -- a load, and a later load from a store of what the first one read: kept
    ∷ case (of_processors ((Load 1 None 1 ∷ Store None (Some 1) 2 0 ∷ Load 2 None 2 ∷ []) ∷ []))
    (run ((0 ∷ 1 ∷ 2 ∷ []) ∷ []) (from_start 0 ∷ from_store 0 1 0 ∷ []) (access_at 0 2 ∷ access_at 0 0 ∷ access_at 0 1 ∷ [])) 4 4
    -- a store behind an access whose address was loaded: kept behind that load
    ∷ case (of_processors ((Load 1 None 1 ∷ Load 2 (Some 1) 2 ∷ Store None None 3 1 ∷ []) ∷ []))
    (run ((0 ∷ 1 ∷ 2 ∷ []) ∷ []) (from_start 0 ∷ from_start 0 ∷ []) (access_at 0 2 ∷ access_at 0 0 ∷ access_at 0 1 ∷ [])) 4 4
    -- and not behind the access itself
    ∷ case (of_processors ((Load 1 None 1 ∷ Load 2 (Some 1) 2 ∷ Store None None 3 1 ∷ []) ∷ []))
    (run ((0 ∷ 1 ∷ 2 ∷ []) ∷ []) (from_start 0 ∷ from_start 0 ∷ []) (access_at 0 0 ∷ access_at 0 2 ∷ access_at 0 1 ∷ [])) 0 4
    -- two loads with a fence from stores between: not kept
    ∷ case (of_processors ((Load 1 None 1 ∷ Fence access_type.Store access_type.Load ∷ Load 2 None 2 ∷ []) ∷ []))
    (run ((0 ∷ 1 ∷ 2 ∷ []) ∷ []) (from_start 0 ∷ from_start 0 ∷ []) (access_at 0 2 ∷ access_at 0 0 ∷ [])) 0 4
    ∷ []

-- All rows.
abbrev pub cases : List Case
cases = store_then_load_cases ++ store_buffering_cases ++ ordering_cases

-- What a row says, and what the definitions give.
abbrev pub expected : Case → Verdicts
expected c = record { gam = c.gam; sc = c.sc }

abbrev pub given : Case → Verdicts
given c = record { gam = verdict gam_keeps c.question c.witness; sc = verdict sc_keeps c.question c.witness }

-- The rows come out, as one table.
abbrev pub WorkedVerdictsComeOut : Type 0
WorkedVerdictsComeOut = map given cases ≡ map expected cases

-- The same, row by row.
abbrev pub EachWorkedVerdictComesOut : Type 0
EachWorkedVerdictComesOut = AllByRecursion (λ c. given c ≡ expected c) cases
