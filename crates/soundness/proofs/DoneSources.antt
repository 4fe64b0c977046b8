-- Steps that do an access keep the sources of what was done before.
use Rattle.std.proofs.Common.{◌≡◌, ℕ, ◌<◌, ◌≤◌, refl, ◌∙◌, inl, inr, arith}
use Rattle.memory.specs.declared.cell.Mark.{Mark}
use Rattle.soundness.proofs.Worlds.{Row, cell}
use Rattle.soundness.proofs.Moves.{Upd, loaded}
use Rattle.soundness.proofs.Times.{before_later}
use Rattle.soundness.proofs.Sources.{Sourced, Kin, last_kin}

-- The done stores up to now stay.
pub kin_done : (x : Row) (T' V' : ℕ → ℕ) (M' : ℕ → Mark) (i c t : ℕ) → ((k : ℕ) → x.time k < c) → Upd x.time T' i c → t ≤ c → Kin x (loaded x T' V' M') t
kin_done x T' V' M' i c t cl u b = record {
  onto = λ j a st. record { within = st.within; store = st.store; to = st.to; done = omega (arith, u j, st.done); by_then = omega (arith, u j, st.done, st.by_then) };
  from = λ j a st. record { within = st.within; store = st.store; to = st.to; done = omega (arith, u j, st.done, st.by_then); by_then = omega (arith, u j, st.by_then) };
  times = λ j a st. omega (arith, u j, st.done);
  words = λ j a st. refl;
}

-- The source of what was done stays.
pub sourced_done : (x : Row) (s s' : ℕ → Row) (T' V' : ℕ → ℕ) (M' : ℕ → Mark) (p k i c : ℕ) → ((m : ℕ) → x.time m < c) → Upd x.time T' i c → 0 < x.time k → M' k ≡ x.mark k
    → ((t : ℕ) → t ≤ c → (q : ℕ) → Kin (s q) (s' q) t)
    → Sourced x s p k → Sourced (loaded x T' V' M') s' p k
sourced_done x s s' T' V' M' p k i c cl u d em kin (Sourced.own m near g h e) = Sourced.own m near g
    (λ z. elim (u m) [ inl q ↦ omega (arith, u k, cl k) | inr q ↦ let z' : 0 < x.time m = omega arith in omega (arith, u k, h z') ]) (em ∙ e)
sourced_done x s s' T' V' M' p k i c cl u d em kin (Sourced.memory h l) =
    let e : T' k ≡ x.time k = omega (arith, u k) in
    Sourced.memory (λ m near. before_later x.time T' i c cl u m k (h m near)) (rw (e, em) (last_kin s s' (cell x k) (x.time k) (kin (x.time k) (omega (arith, cl k))) l))
