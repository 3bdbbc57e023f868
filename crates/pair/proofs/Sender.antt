-- A transmitter at its clocks, against the waveform. Assumes nothing.
use Rattle.std.proofs.Common.{◌≡◌, ℕ, zero, suc, ◌+◌, ◌-◌, ◌*◌, ◌/◌, ◌%◌, ◌^◌, ◌<◌, ◌≤◌, Bool, true, false, cond, not, ◌&&◌, eqb, ltb, leb, ◌⊎◌, List, ◌∷◌, sym, refl, ap, ◌∙◌, inl, inr, mul-le-mul_right, mul-le-mul, pow-suc, div-one, arith}
use native.Mathlib.Nat.{div-div-eq-div-mul}
use Rattle.std.proofs.lemmas.Bool.{cases_lt, le-leb, lt-leb, lt-ltb, both_ways, and_parts, ne_eqb, not-true}
use Rattle.timing.specs.declared.registers.Format.{Format}
use Rattle.timing.specs.declared.registers.StopLength.{StopLength}
use Rattle.timing.specs.declared.registers.StopLength.TheVariants.{One, OneAndHalf, Two}
use Rattle.timing.specs.Counts.{internal}
use Rattle.timing.specs.Registers.{bit, samples, half_bits, control_of, half_count}
use Rattle.timing.proofs.HalfBits.{half_count_some}
use Rattle.sections.specs.declared.transmitter.Sending.{Sending}
use Rattle.sections.specs.declared.transmitter.Sending.TheVariants.{Idle, Element, Stop}
use Rattle.sections.specs.declared.transmitter.Transmitter.{Transmitter}
use Rattle.sections.specs.Transmit.{word_of, runs_out, send, sent, idle_rules, next_element}
use Rattle.pair.proofs.Waves.{element, level_at, Ended, Next, on, fresh, wave_in, mark_stopped, ended_stopped, ended_on}

-- an internal clock begins a start; go: RTS and CTS are active
abbrev pub starts : Bool → Bool → Sending → Bool
starts xbre go Idle = not xbre && go
starts xbre go (Element left word count stop) = false
starts xbre go (Stop left) = runs_out left && (not xbre && go)

pub starts_full : (xbre go : Bool) (s : Sending) → starts xbre go s ≡ true → xbre ≡ false
starts_full xbre go Idle e = not-true xbre (and_parts (not xbre) go e).0
starts_full xbre go (Element left word count stop) e = absurd (both_ways false refl e)
starts_full xbre go (Stop left) e = not-true xbre (and_parts (not xbre) go (and_parts (runs_out left) (not xbre && go) e).1).0

pub two_stops : (z : StopLength) → 2 ≤ half_bits z
two_stops One = omega arith
two_stops OneAndHalf = omega arith
two_stops Two = omega arith

-- A transmitter that has come to (p, x), where d is its divider: the phase and what is left of the countdown, in φ clocks, make the phase at which
-- the next element is due and the divider.
pub data Sends (f : Format) (z : StopLength) (q h : ℕ) : List ℕ → ℕ → ℕ → Sending → Bool → Type 0 where
  rests : {p : List ℕ} {x d : ℕ} → Ended f (h * q) p x → Sends f z q h p x d Idle true
  sends : {c : ℕ} {p : List ℕ} {x d n word count : ℕ} {out : Bool} (k : ℕ) → k + count ≡ samples f → 0 < n → 2 * k * (h * q) ≤ x → x + n * q ≡ (2 * k + 2) * (h * q) + d →
      word ≡ word_of f c / 2 ^ k → out ≡ element f c k → Sends f z q h (c ∷ p) x d (Element (internal n) word count z) out
  stops : {c : ℕ} {p : List ℕ} {x d n : ℕ} → 0 < n → (2 * samples f + 2) * (h * q) ≤ x → x + n * q ≡ (2 * samples f + 2 + half_bits z) * (h * q) + d → Sends f z q h (c ∷ p) x d (Stop (internal n)) true

-- what an internal clock leaves; b: a start began
pub record Sent (f : Format) (z : StopLength) (q h : ℕ) (xbre : Bool) (buffer : ℕ) (p : List ℕ) (x : ℕ) (b : Bool) (y : Transmitter) : Type 0 where
  pub next : Next f (h * q) p x (cond b (buffer ∷ p) p) (cond b 0 (suc x))
  pub sending : Sends f z q h (cond b (buffer ∷ p) p) (cond b 0 (suc x)) 0 y.state y.xout
  pub xbre_is : y.xbre ≡ cond b true xbre
  pub buffer_is : y.buffer ≡ buffer

word_next : (w k : ℕ) → w / 2 ^ k / 2 ≡ w / 2 ^ suc k
word_next w k = div-div-eq-div-mul w (2 ^ k) 2 ∙ ap (λ y. w / y) (sym (pow-suc 2 k))

module _ (q h : ℕ) (some_q : 0 < q) (some_h : 0 < h) where
  some_T : 0 < h * q
  some_T = let m : 1 * 1 ≤ h * q = mul-le-mul some_h some_q in omega arith

  pub pred_mul : (n : ℕ) → 1 < n → (n - 1) * q + q ≡ n * q
  pred_mul n l = let e : n ≡ suc (n - 1) = omega arith in let g : n * q ≡ suc (n - 1) * q = ap (λ k. k * q) e in omega arith

  module _ (f : Format) (z : StopLength) where
    -- the level sent is that of the waveform
    pub sends_level : {p : List ℕ} {x d : ℕ} {st : Sending} {out : Bool} → d < q → Sends f z q h p x d st out → out ≡ level_at f (h * q) p x
    sends_level hd (rests {p = p} {x = x} e) = sym (mark_stopped f (h * q) some_T p x (ended_stopped f (h * q) some_T p x e))
    sends_level hd (sends {c = c} {x = x} {n = n} k hk hn lo due r o) =
        let b : 1 * q ≤ n * q = mul-le-mul_right q hn in
        o ∙ sym (wave_in f (h * q) some_T c x k lo (omega arith))
    sends_level hd (stops {c = c} {p = p} {x = x} hn lo due) = sym (mark_stopped f (h * q) some_T (c ∷ p) x lo)

    -- a φ clock without an internal clock
    pub waits : {p : List ℕ} {x d : ℕ} {st : Sending} {out : Bool} → Sends f z q h p x d st out → Sends f z q h p (suc x) (suc d) st out
    waits (rests {p = p} {x = x} e) = rests (ended_on f (h * q) some_T p x e)
    waits (sends k hk hn lo due r o) = sends k hk hn (omega arith) (omega arith) r o
    waits (stops hn lo due) = stops hn (omega arith) (omega arith)

-- an internal clock
module _ (control rate q : ℕ) (some_q : 0 < q) (xbre : Bool) (buffer : ℕ) (go : Bool) where
  abbrev f : Format
  f = (control_of control).format

  abbrev z : StopLength
  z = (control_of control).stop

  abbrev h : ℕ
  h = half_count rate

  abbrev tx : Sending → Bool → Transmitter
  tx st out = record { state = st; xout = out; xbre = xbre; buffer = buffer }

  -- the idle rules
  idles : (p : List ℕ) (x : ℕ) (st : Sending) → Ended f (h * q) p (suc x) → Sent f z q h xbre buffer p x (not xbre && go) (idle_rules control rate false go (tx st true))
  idles p x st e = by (not xbre && go) refl
    where
      by : (b : Bool) → (not xbre && go) ≡ b → Sent f z q h xbre buffer p x (not xbre && go) (idle_rules control rate false go (tx st true))
      by true y =
          let s : 0 < h = half_count_some rate in
          let g : Sends f z q h (buffer ∷ p) 0 0 (Element (internal (h * 2)) (word_of f buffer) (samples f) z) false = sends 0 (omega arith) (omega arith) (omega arith) (omega arith) (sym (div-one (word_of f buffer))) refl in
          rw y (record { next = fresh e; sending = g; xbre_is = refl; buffer_is = refl })
      by false y = rw y (record { next = on; sending = rests e; xbre_is = refl; buffer_is = refl })

  -- the next element
  goes_on : (c : ℕ) (p : List ℕ) (x n k word count : ℕ) (out : Bool) → k + count ≡ samples f → suc x ≡ (2 * k + 2) * (h * q) → word ≡ word_of f c / 2 ^ k →
      Sent f z q h xbre buffer (c ∷ p) x false (next_element rate word count z (tx (Element (internal n) word count z) out))
  goes_on c p x n k word zero out hk now r =
      let l : k ≡ samples f = omega arith in
      let s : 0 < h = half_count_some rate in
      let g : (2 * k + 2) * (h * q) ≡ (2 * samples f + 2) * (h * q) = ap (λ i. (2 * i + 2) * (h * q)) l in
      let m : 1 * 2 ≤ h * half_bits z = mul-le-mul s (two_stops z) in
      record { next = on; sending = stops (omega arith) (omega arith) (omega arith); xbre_is = refl; buffer_is = refl }
  goes_on c p x n k word (suc count) out hk now r =
      let more : eqb (suc count) 0 ≡ false = ne_eqb (suc count) 0 (λ y. omega arith) in
      let less : suc count - 1 ≡ count = omega arith in
      let s : 0 < h = half_count_some rate in
      let inside : ltb k (samples f) ≡ true = lt-ltb k (samples f) (omega arith) in
      let shifted : word / 2 ≡ word_of f c / 2 ^ suc k = ap (λ y. y / 2) r ∙ word_next (word_of f c) k in
      let shown : eqb (word % 2) 1 ≡ cond (ltb k (samples f)) (bit k (word_of f c)) true = ap (λ y. eqb (y % 2) 1) r ∙ rw inside refl in
      let g : Sends f z q h (c ∷ p) (suc x) 0 (Element (internal (h * 2)) (word / 2) count z) (eqb (word % 2) 1) = sends (suc k) (omega arith) (omega arith) (omega arith) (omega arith) shifted shown in
      rw (more, less) (record { next = on; sending = g; xbre_is = refl; buffer_is = refl })

  pub clocks : {p : List ℕ} {x d : ℕ} {st : Sending} {out : Bool} → suc d ≡ q → Sends f z q h p x d st out → Sent f z q h xbre buffer p x (starts xbre go st) (send control rate false go (tx st out))
  unfolding send
  clocks hd (rests {p = p} {x = x} e) = idles p x Idle (ended_on f (h * q) (some_T q h some_q (half_count_some rate)) p x e)
  clocks hd (sends {c = c} {p = p} {x = x} {n = n} {word = word} {count = count} {out = out} k hk hn lo due r o) = by (cases_lt 1 n)
    where
      by : (1 < n) ⊎ (n ≤ 1) → Sent f z q h xbre buffer (c ∷ p) x false (sent (Element (internal n) word count z) control rate false go (tx (Element (internal n) word count z) out))
      by (inl l) =
          let b : leb n 1 ≡ false = lt-leb n 1 l in
          let m = pred_mul q h some_q (half_count_some rate) n l in
          let g : Sends f z q h (c ∷ p) (suc x) 0 (Element (internal (n - 1)) word count z) out = sends k hk (omega arith) (omega arith) (omega arith) r o in
          rw b (record { next = on; sending = g; xbre_is = refl; buffer_is = refl })
      by (inr l) =
          let b : leb n 1 ≡ true = le-leb n 1 l in
          rw b (goes_on c p x n k word count out hk (omega (arith, ap (λ i. i * q) (let y : n ≡ 1 = omega arith in y))) r)
  clocks hd (stops {c = c} {p = p} {x = x} {n = n} hn lo due) = by (cases_lt 1 n)
    where
      by : (1 < n) ⊎ (n ≤ 1) → Sent f z q h xbre buffer (c ∷ p) x (leb n 1 && (not xbre && go)) (sent (Stop (internal n)) control rate false go (tx (Stop (internal n)) true))
      by (inl l) =
          let b : leb n 1 ≡ false = lt-leb n 1 l in
          let m = pred_mul q h some_q (half_count_some rate) n l in
          let g : Sends f z q h (c ∷ p) (suc x) 0 (Stop (internal (n - 1))) true = stops (omega arith) (omega arith) (omega arith) in
          rw b (record { next = on; sending = g; xbre_is = refl; buffer_is = refl })
      by (inr l) =
          let b : leb n 1 ≡ true = le-leb n 1 l in
          let g : 2 * (h * q) ≤ half_bits z * (h * q) = mul-le-mul_right (h * q) (two_stops z) in
          let now : suc x ≡ (2 * samples f + 2 + half_bits z) * (h * q) = omega (arith, ap (λ i. i * q) (let y : n ≡ 1 = omega arith in y)) in
          rw b (idles (c ∷ p) x (Stop (internal n)) (omega arith))
