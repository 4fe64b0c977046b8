-- A witness from its bytes.
use Rattle.std.specs.Prelude.{ℕ, ◌%◌, Bool, cond, not, ◌&&◌, ◌||◌, List, [], ◌∷◌, ◌++◌, length, is_some, Some, None, Ok, Err, Option, Result, ◌==◌, nat_le, nat_lt}
use Rattle.fields.specs.declared.refusal.Refusal.{Refusal}
use Rattle.fields.specs.declared.refusal.Refusal.TheVariants.{TagNotAllowed}
use Rattle.fields.specs.Fields.{Cut}
use Rattle.fields.specs.Rows.{Format, read_row}
use Rattle.witness.specs.declared.record.Access.{Access}
use Rattle.witness.specs.declared.record.Source.{Source}
use Rattle.witness.specs.Bytes.{path_tag, source_tag, order_tag}
use Rattle.witness.specs.Execution.{Execution}
use Rattle.witness.specs.Records.{sources_from, accesses_from}

-- What is known of the fields so far: the paths, and the sources and the order once their fields have come.
pub record Draft : Type 0 where
  pub paths : List (List ℕ)
  pub sources : Option (List Source)
  pub order : Option (List Access)

-- Before the first field.
abbrev pub no_fields : Draft
no_fields = record { paths = []; sources = None; order = None }

-- A witness has no other fields.
abbrev pub known : Cut → Result Cut Refusal
known c = cond (c.tag == path_tag || (c.tag == source_tag || c.tag == order_tag)) (Ok c) (Err TagNotAllowed)

-- At most four path fields come first, then the source field behind at least one of them, then the order field.
abbrev pub witness_allowed : Draft → ℕ → Bool
witness_allowed s tag =
    cond (tag == path_tag) (not (is_some s.sources) && (not (is_some s.order) && nat_lt (length s.paths) 4))
    (cond (tag == source_tag) (not (is_some s.sources) && (not (is_some s.order) && nat_lt 0 (length s.paths)))
    (tag == order_tag && (is_some s.sources && not (is_some s.order))))

-- At most 16 places, 64 sources of four bytes, 64 accesses of two bytes; whole records.
abbrev pub witness_fits : ℕ → ℕ → Bool
witness_fits tag n =
    cond (tag == path_tag) (nat_le n 16)
    (cond (tag == source_tag) (nat_le n 256 && n % 4 == 0) (nat_le n 128 && n % 2 == 0))

-- What is known after a field; any values may stand in it.
abbrev pub witness_taken : Draft → ℕ → List ℕ → Result Draft Refusal
witness_taken s tag b =
    cond (tag == path_tag) (Ok (record { paths = s.paths ++ b ∷ []; sources = s.sources; order = s.order }))
    (cond (tag == source_tag) (Ok (record { paths = s.paths; sources = Some (sources_from b); order = s.order }))
    (Ok (record { paths = s.paths; sources = s.sources; order = Some (accesses_from b) })))

-- The witness with these sources and this order; a source or order field may be missing.
abbrev pub assembled : List (List ℕ) → Option (List Source) → Option (List Access) → Result Execution Refusal
assembled paths (Some sources) (Some order) = Ok (record { paths = paths; sources = sources; order = order })
assembled paths (Some sources) None = Err TagNotAllowed
assembled paths None (Some order) = Err TagNotAllowed
assembled paths None None = Err TagNotAllowed

-- The witness that the fields state; without an order field one is missing.
abbrev pub witness_whole : Draft → Result Execution Refusal
witness_whole s = assembled s.paths s.sources s.order

-- The format of a witness: one to four path fields, a source field, an order field.
abbrev pub witness_format : Format Draft Execution
witness_format = record { allowed = witness_allowed; fits = witness_fits; taken = witness_taken; whole = witness_whole }

-- The witness that these bytes are, or the refusal.
abbrev pub witness_of : List ℕ → Result Execution Refusal
witness_of b = read_row witness_format no_fields b
