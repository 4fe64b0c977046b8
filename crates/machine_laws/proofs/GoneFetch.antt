-- Rule 1: a fetch that goes fires the rule.
use Rattle.std.proofs.Common.{◌≡◌, ℕ, ◌<◌, Bool, true, false, cond, ◌&&◌, ◌||◌, eqb, ltb, ◌⊎◌, length, Ok, Err, refl, inl, inr}
use Rattle.std.proofs.lemmas.Bool.{and_parts, or_cases, ltb-true, eqb-true}
use Rattle.fields.specs.declared.refusal.Refusal.TheVariants.{FetchAtEnd, BufferFull, PositionOrGuessNotAllowed}
use Rattle.instructions.specs.declared.instruction.Instruction.{Instruction}
use Rattle.instructions.specs.Kinds.{branches}
use Rattle.question.specs.Litmus.{Litmus, code_at, instruction_at}
use Rattle.rules.specs.Act.{fetch_fits}
use Rattle.machine.specs.State.{State, core_at}
use Rattle.machine.specs.Steps.{went, with_core, core_fetched, fetched, fetch_outcome}
use Rattle.machine.specs.Fires.{buffer, Fires, step, fetched_entry}
use Rattle.machine_laws.proofs.GoneActs.{not_refused, fires_as_gone}

-- Guess 0, or guess 1 at a branch.
pub guessed : (ins : Instruction) (g : ℕ) → (eqb g 0 || (eqb g 1 && branches ins)) ≡ true → (g ≡ 0) ⊎ ((g ≡ 1) × (branches ins ≡ true))
guessed ins g e = elim (or_cases (eqb g 0) (eqb g 1 && branches ins) e) [
  | inl z ↦ inl (eqb-true g 0 z)
  | inr b ↦ let k = and_parts (eqb g 1) (branches ins) b in inr (eqb-true g 1 k.0, k.1)
]

module _ (q : Litmus) (s : State) (p : ℕ) (here : p < length s.cores) (more : (core_at s p).counter < length (code_at q p)) (room : length (buffer s p) < 16) where
  -- The instruction that is fetched.
  abbrev next_instruction : Instruction
  next_instruction = instruction_at (code_at q p) (core_at s p).counter

  -- The state after the fetch by a guess.
  abbrev fetched_by : ℕ → State
  fetched_by g = with_core s p (core_fetched (core_at s p) (fetched_entry q s p (eqb g 1)))

  -- A fetch at position 0 with a fitting guess fires.
  fits_fires : (i g : ℕ) → fetch_fits next_instruction i g ≡ true → Fires q s (step 1 p i g) 0 (fetched_by g)
  fits_fires i g e =
      let k = and_parts (eqb i 0) (eqb g 0 || (eqb g 1 && branches next_instruction)) e in
      let a : i ≡ 0 = eqb-true i 0 k.0 in
      elim (guessed next_instruction g k.1) [
        | inl z ↦ rw (a, z) (Fires.fetch p here more room)
        | inr b ↦ rw (a, b.0) (Fires.fetch_taken p here more room b.1)
      ]

module _ (q : Litmus) (s : State) (p i g n : ℕ) (t : State) (here : p < length s.cores) where
  -- Rule 1.
  pub gone_fetch : fetch_outcome q s p i g ≡ went n t → Fires q s (step 1 p i g) n t
  unfolding fetch_outcome
  gone_fetch h = go (ltb (core_at s p).counter (length (code_at q p))) refl (ltb (length (buffer s p)) 16) refl (fetch_fits (instruction_at (code_at q p) (core_at s p).counter) i g) refl h
    where
      go : (a : Bool) → ltb (core_at s p).counter (length (code_at q p)) ≡ a → (b : Bool) → ltb (length (buffer s p)) 16 ≡ b →
          (c : Bool) → fetch_fits (instruction_at (code_at q p) (core_at s p).counter) i g ≡ c →
          fetched s p (cond a (cond b (cond c (Ok (fetched_entry q s p (eqb g 1))) (Err PositionOrGuessNotAllowed)) (Err BufferFull)) (Err FetchAtEnd)) ≡ went n t →
          Fires q s (step 1 p i g) n t
      go false x b y c z k = not_refused FetchAtEnd n t k
      go true x false y c z k = not_refused BufferFull n t k
      go true x true y false z k = not_refused PositionOrGuessNotAllowed n t k
      go true x true y true z k =
          let more = ltb-true (core_at s p).counter (length (code_at q p)) x in
          let room = ltb-true (length (buffer s p)) 16 y in
          fires_as_gone q s (step 1 p i g) 0 n t (fetched_by q s p here more room g) (fits_fires q s p here more room i g z) k
