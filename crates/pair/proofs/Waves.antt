-- The waveform of a sender, and how far it has come. Assumes nothing.
use Rattle.std.proofs.Common.{◌≡◌, ℕ, zero, suc, ◌+◌, ◌*◌, ◌/◌, ◌<◌, ◌≤◌, Bool, true, false, cond, ltb, List, [], ◌∷◌, refl, ap, le-div_iff_mul-le, arith}
use native.Mathlib.Nat.{div-eq_of_lt-le}
use Rattle.std.proofs.lemmas.Bool.{le-ltb}
use Rattle.timing.specs.declared.registers.Format.{Format}
use Rattle.timing.specs.Registers.{bit, samples}
use Rattle.sections.specs.Transmit.{word_of}

-- the level of element k of a character: the start, the bits of its word, then mark
abbrev pub element : Format → ℕ → ℕ → Bool
element f c zero = false
element f c (suc k) = cond (ltb k (samples f)) (bit k (word_of f c)) true

past_elements : (f : Format) (c k : ℕ) → samples f < k → element f c k ≡ true
past_elements f c zero h = absurd (omega arith)
past_elements f c (suc k) h = rw (le-ltb k (samples f) (omega arith)) refl

-- the level that a sender with half-bits of T φ clocks has x φ clocks after it began the start of c
unfoldable pub wave : Format → ℕ → ℕ → ℕ → Bool
wave f T c x = element f c (x / (2 * T))

-- how far the sender has come: the characters begun, newest first, and the φ clocks since the newest began
pub record Tag : Type 0 where
  pub past : List ℕ
  pub phase : ℕ

abbrev pub level_at : Format → ℕ → List ℕ → ℕ → Bool
level_at f T [] x = true
level_at f T (c ∷ cs) x = wave f T c x

-- the stop has begun
abbrev pub Stopped : Format → ℕ → List ℕ → ℕ → Type 0
Stopped f T [] x = Unit {0}
Stopped f T (c ∷ cs) x = (2 * samples f + 2) * T ≤ x

-- the stop has lasted two half-bits
abbrev pub Ended : Format → ℕ → List ℕ → ℕ → Type 0
Ended f T [] x = Unit {0}
Ended f T (c ∷ cs) x = (2 * samples f + 4) * T ≤ x

-- a φ clock later: on in the same character, or at the start of another, which waits for the end of the stop
pub data Next (f : Format) (T : ℕ) : List ℕ → ℕ → List ℕ → ℕ → Type 0 where
  on : {p : List ℕ} {x : ℕ} → Next f T p x p (suc x)
  fresh : {c : ℕ} {p : List ℕ} {x : ℕ} → Ended f T p (suc x) → Next f T p x (c ∷ p) 0

module _ (f : Format) (T : ℕ) (some_T : 0 < T) where
  -- inside element k
  pub wave_in : (c x k : ℕ) → 2 * k * T ≤ x → x < (2 * k + 2) * T → wave f T c x ≡ element f c k
  unfolding wave
  wave_in c x k a b = ap (element f c) (div-eq_of_lt-le (2 * T) (omega arith) (omega arith))

  pub mark_stopped : (p : List ℕ) (x : ℕ) → Stopped f T p x → level_at f T p x ≡ true
  unfolding wave
  mark_stopped [] x k = refl
  mark_stopped (c ∷ p) x k =
      let a : suc (samples f) ≤ x / (2 * T) = (le-div_iff_mul-le {k = 2 * T} (omega arith)).1 (omega arith) in
      past_elements f c (x / (2 * T)) (omega arith)

  pub ended_stopped : (p : List ℕ) (x : ℕ) → Ended f T p x → Stopped f T p x
  ended_stopped [] x h = tt
  ended_stopped (c ∷ p) x h = omega arith

  pub ended_on : (p : List ℕ) (x : ℕ) → Ended f T p x → Ended f T p (suc x)
  ended_on [] x h = tt
  ended_on (c ∷ p) x h = omega arith

  pub stopped_on : (p : List ℕ) (x : ℕ) → Stopped f T p x → Stopped f T p (suc x)
  stopped_on [] x h = tt
  stopped_on (c ∷ p) x h = omega arith
