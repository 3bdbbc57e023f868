-- What a transmitter puts on the line from the start of a character on. Assumes nothing.
use Rattle.std.proofs.Common.{◌≡◌, ℕ, zero, suc, ◌+◌, ◌-◌, ◌*◌, ◌/◌, ◌%◌, ◌<◌, ◌≤◌, Bool, true, false, eqb, leb, List, [], ◌∷◌, ◌++◌, length, drop, replicate, sym, refl, ap, ◌∙◌, append_assoc, append-nil, add-zero, mul-suc, add-one, arith, length-drop, ne_eqb}
use borrow.Author.Tests.{lt-leb}
use Rattle.std.proofs.lemmas.Nat.{mul-le}
use Rattle.timing.proofs.Bits.{bits_low, bits_above}
use Rattle.timing.proofs.HalfBits.{half_count_some}
use Rattle.timing.specs.declared.registers.Format.{Format}
use Rattle.timing.specs.declared.registers.Parity.{Parity}
use Rattle.timing.specs.declared.registers.Parity.TheVariants.{Disabled, Even, Odd}
use Rattle.timing.specs.declared.registers.StopLength.{StopLength}
use Rattle.timing.specs.declared.registers.StopLength.TheVariants.{One, OneAndHalf, Two}
use Rattle.timing.specs.Counts.{internal}
use Rattle.timing.specs.Ones.{bits, parity_bit}
use Rattle.timing.specs.Registers.{width, samples, parity_bits, half_bits, half_count, control_of}
use Rattle.sections.specs.declared.transmitter.Sending.{Sending}
use Rattle.sections.specs.declared.transmitter.Sending.TheVariants.{Idle, Element, Stop}
use Rattle.sections.specs.declared.transmitter.Transmitter.{Transmitter}
use Rattle.sections.specs.Transmit.{send, sent, begun, idle_rules, next_element, countdown, word_of}
use Rattle.laws.specs.Laws.{each_for, parity_level, TransmitterSendsItsCharacter}
use Rattle.laws.specs.Runs.{levels, transmitter_after, sends, SendingAt}

abbrev tx : Sending → Bool → Bool → ℕ → Transmitter
tx s level xbre buffer = record { state = s; xout = level; xbre = xbre; buffer = buffer }

stop_some : (s : StopLength) → 0 < half_bits s
stop_some One = omega arith
stop_some OneAndHalf = omega arith
stop_some Two = omega arith

module _ (rate : ℕ) (x : Bool) (b : ℕ) where
  -- from a state on, these levels stand on the line, and then the transmitter is this one
  Goes : List SendingAt → Transmitter → List Bool → Transmitter → Type 0
  Goes ps t vs u = (levels rate ps t ≡ vs) × (transmitter_after rate ps t ≡ u)

  -- an element stands for its countdown, and then the next one begins
  holds : (m w c : ℕ) (s : StopLength) (v : Bool) (ps : List SendingAt) → 0 < m → m ≤ length ps → Goes ps (tx (Element (internal m) w c s) v x b) (replicate m v ++ levels rate (drop m ps) (next_element rate w c s (tx Idle v x b))) (transmitter_after rate (drop m ps) (next_element rate w c s (tx Idle v x b)))
  unfolding Goes levels transmitter_after send
  holds zero w c s v ps some h = absurd (omega arith)
  holds (suc n) w c s v [] some h = absurd (omega arith)
  holds (suc zero) w c s v (p ∷ ps) some h = (refl, refl)
  holds (suc (suc n)) w c s v (p ∷ ps) some h =
      let on : leb (suc (suc n)) 1 ≡ false = lt-leb (suc (suc n)) 1 (omega arith) in
      let less : suc (suc n) - 1 ≡ suc n = omega arith in
      let rest = holds (suc n) w c s v ps (omega arith) (omega arith) in
      (rw (on, less) (ap (λ l. v ∷ l) rest.0), rw (on, less) rest.1)

  -- the stop stands to the end
  stops : (m : ℕ) (ps : List SendingAt) → suc (length ps) ≡ m → Goes ps (tx (Stop (internal m)) true x b) (replicate m true) (tx (Stop (internal 1)) true x b)
  unfolding Goes levels transmitter_after send
  stops zero ps h = absurd (omega arith)
  stops (suc zero) [] h = (refl, refl)
  stops (suc zero) (p ∷ ps) h = absurd (omega arith)
  stops (suc (suc n)) [] h = absurd (omega arith)
  stops (suc (suc n)) (p ∷ ps) h =
      let on : leb (suc (suc n)) 1 ≡ false = lt-leb (suc (suc n)) 1 (omega arith) in
      let less : suc (suc n) - 1 ≡ suc n = omega arith in
      let rest = stops (suc n) ps (omega arith) in
      (rw (on, less) (ap (λ l. true ∷ l) rest.0), rw (on, less) rest.1)

  -- the element at hand, c bits of a word, and the stop
  elements : (c w : ℕ) (s : StopLength) (v : Bool) (ps : List SendingAt) → suc (length ps) ≡ half_count rate * 2 * suc c + half_count rate * half_bits s → Goes ps (tx (Element (countdown rate 2) w c s) v x b) (each_for (half_count rate * 2) (v ∷ bits c w) ++ replicate (half_count rate * half_bits s) true) (tx (Stop (internal 1)) true x b)
  unfolding Goes each_for bits
  elements zero w s v ps h =
      let bit = half_count rate * 2 in
      let some : 0 < bit = omega (arith, half_count_some rate) in
      let stop : 0 < half_count rate * half_bits s = mul-le 1 1 (half_count rate) (half_bits s) (half_count_some rate) (stop_some s) in
      let left : suc (length (drop bit ps)) ≡ half_count rate * half_bits s = omega (arith, length-drop bit ps) in
      let first = holds bit w 0 s v ps some (omega arith) in
      let rest = stops (half_count rate * half_bits s) (drop bit ps) left in (
        first.0 ∙ ap (λ l. replicate bit v ++ l) rest.0 ∙ sym (append_assoc (replicate bit v) [] (replicate (half_count rate * half_bits s) true)),
        first.1 ∙ rest.1,
      )
  elements (suc c) w s v ps h =
      let bit = half_count rate * 2 in
      let some : 0 < bit = omega (arith, half_count_some rate) in
      let more : bit * suc (suc c) ≡ bit * suc c + bit = mul-suc bit (suc c) in
      let stop : 0 < half_count rate * half_bits s = mul-le 1 1 (half_count rate) (half_bits s) (half_count_some rate) (stop_some s) in
      let left : suc (length (drop bit ps)) ≡ bit * suc c + half_count rate * half_bits s = omega (arith, length-drop bit ps) in
      let less : suc c - 1 ≡ c = omega arith in
      let more_bits : eqb (suc c) 0 ≡ false = ne_eqb (suc c) 0 (λ z. omega arith) in
      let first = holds bit w (suc c) s v ps some (omega arith) in
      let rest = elements c (w / 2) s (eqb (w % 2) 1) (drop bit ps) left in (
        first.0
            ∙ rw (less, more_bits) (ap (λ l. replicate bit v ++ l) rest.0)
            ∙ sym (append_assoc (replicate bit v) (each_for bit (eqb (w % 2) 1 ∷ bits c (w / 2))) (replicate (half_count rate * half_bits s) true)),
        first.1 ∙ rw (less, more_bits) rest.1,
      )

no_parity : (f : Format) (c : ℕ) → f.parity ≡ Disabled → parity_bit f c ≡ false
unfolding parity_bit
no_parity f c e = rw e

-- the bits of a word are the data bits and the parity bit, if there is one
word_bits : (f : Format) (c : ℕ) → bits (samples f) (word_of f c) ≡ bits (width f.length) c ++ parity_level f.parity (parity_bit f c)
word_bits f c = by f.parity refl
  where
    with_parity : bits (width f.length + 1) (word_of f c) ≡ bits (width f.length) c ++ parity_bit f c ∷ []
    with_parity = rw add-one (bits_above (width f.length) c (parity_bit f c))

    by : (p : Parity) → f.parity ≡ p → bits (width f.length + parity_bits p) (word_of f c) ≡ bits (width f.length) c ++ parity_level p (parity_bit f c)
    by Disabled e =
        let none : parity_bit f c ≡ false = no_parity f c e in
        rw (none, add-zero, add-zero, append-nil) (bits_low (width f.length) c)
    by Even e = with_parity
    by Odd e = with_parity

-- a full transmitter that is idle and may go begins
begins : (control rate : ℕ) (brkon : Bool) (t : Transmitter) → t.state ≡ Idle → t.xout ≡ true → t.xbre ≡ false → send control rate brkon true t ≡ begun (control_of control) rate t
unfolding send
begins control rate brkon t idle mark full = by brkon
  where
    by : (brk : Bool) → sent t.state control rate brk true t ≡ begun (control_of control) rate t
    by true = rw (idle, full, mark)
    by false = rw (idle, mark, full)

-- a stop that runs out leaves the idle rules to the clock
ends : (rate : ℕ) (x : Bool) (b : ℕ) (p : SendingAt) → sends rate p (tx (Stop (internal 1)) true x b) ≡ idle_rules p.control rate p.brkon p.go (tx (Stop (internal 1)) true x b)
unfolding send
ends rate x b p = refl

pub character_sent : TransmitterSendsItsCharacter
unfolding Goes
character_sent control rate brkon t ps idle mark full h =
    let e = begins control rate brkon t idle mark full in
    let f = (control_of control).format in
    let stop = (control_of control).stop in
    let g = elements rate true t.buffer (samples f) (word_of f t.buffer) stop false ps h in
    let last = ap (transmitter_after rate ps) e ∙ g.1 in (
      ap (λ (u : Transmitter). u.xbre) e,
      ap (levels rate ps) e ∙ g.0 ∙ ap (λ bs. each_for (half_count rate * 2) (false ∷ bs) ++ replicate (half_count rate * half_bits stop) true) (word_bits f t.buffer),
      λ p. ap (sends rate p) last ∙ ends rate true t.buffer p ∙ sym (ap (idle_rules p.control rate p.brkon p.go) last),
    )
