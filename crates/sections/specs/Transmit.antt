-- The transmitter at an internal clock. Assumes nothing.
use Rattle.std.specs.Prelude.{ℕ, ◌+◌, ◌-◌, ◌*◌, ◌/◌, ◌%◌, ◌^◌, Bool, true, false, cond, not, ◌&&◌, ◌==◌, nat_le, nat_lt}
use Rattle.timing.specs.declared.counts.InternalCount.{InternalCount}
use Rattle.timing.specs.declared.registers.Control.{Control}
use Rattle.timing.specs.declared.registers.Format.{Format}
use Rattle.timing.specs.declared.registers.StopLength.{StopLength}
use Rattle.timing.specs.Counts.{internal}
use Rattle.timing.specs.Registers.{width, samples, half_bits, control_of, half_count}
use Rattle.timing.specs.Ones.{parity_bit}
use Rattle.sections.specs.Bits.{bit_written}
use Rattle.sections.specs.declared.transmitter.Sending.{Sending}
use Rattle.sections.specs.declared.transmitter.Sending.TheVariants.{Idle, Element, Stop}
use Rattle.sections.specs.declared.transmitter.Transmitter.{Transmitter}

-- a countdown of n half-bits at a rate register
abbrev pub countdown : ℕ → ℕ → InternalCount
countdown rate n = internal (half_count rate * n)

-- one internal clock less
abbrev pub lowered : InternalCount → InternalCount
lowered left = internal (left.0 - 1)

-- a countdown that is lowered now comes to 0
abbrev pub runs_out : InternalCount → Bool
runs_out left = nat_le left.0 1

-- the bits between start and stop: L data bits, and the parity bit above them
abbrev pub word_of : Format → ℕ → ℕ
word_of f c = c % 2 ^ width f.length + cond (parity_bit f c) (2 ^ width f.length) 0

-- XSRE is 1 while the shift register is empty
abbrev pub xsre_by : Sending → Bool
xsre_by Idle = true
xsre_by (Element left word count stop) = false
xsre_by (Stop left) = false

abbrev pub xsre : Transmitter → Bool
xsre t = xsre_by t.state

-- with another state and level
abbrev pub at_level : Sending → Bool → Transmitter → Transmitter
at_level s level t = record { state = s; xout = level; xbre = t.xbre; buffer = t.buffer }

-- the start begins: space for 2 half-bits; the buffer moves to the shift register and XBRE becomes 1
abbrev pub begun : Control → ℕ → Transmitter → Transmitter
begun control rate t = record {
  state = Element (countdown rate 2) (word_of control.format t.buffer) (samples control.format) control.stop;
  xout = false;
  xbre = true;
  buffer = t.buffer;
}

-- an idle transmitter applies the first rule that fits; go: RTS and CTS are active
--   with BRKON 1, XBRE 1 and go, XOUT is space: a break
--   after a break, one internal clock of mark
--   with XBRE 0 and go, the start begins
--   otherwise mark
abbrev pub idle_rules : ℕ → ℕ → Bool → Bool → Transmitter → Transmitter
idle_rules control rate brkon go t =
    cond (brkon && (t.xbre && go)) (at_level Idle false t)
    (cond (not t.xout) (at_level Idle true t)
    (cond (not t.xbre && go) (begun (control_of control) rate t) (at_level Idle true t)))

-- the next element: a bit of the word for 2 half-bits, or the stop for its length
abbrev pub next_element : ℕ → ℕ → ℕ → StopLength → Transmitter → Transmitter
next_element rate word count stop t =
    cond (count == 0) (at_level (Stop (countdown rate (half_bits stop))) true t)
    (at_level (Element (countdown rate 2) (word / 2) (count - 1) stop) (word % 2 == 1) t)

-- one internal clock: a busy transmitter lowers its countdown, and at 0 the next element begins; after the stop the idle
-- rules hold in this same clock
abbrev pub sent : Sending → ℕ → ℕ → Bool → Bool → Transmitter → Transmitter
sent Idle control rate brkon go t = idle_rules control rate brkon go t
sent (Element left word count stop) control rate brkon go t =
    cond (runs_out left) (next_element rate word count stop t) (at_level (Element (lowered left) word count stop) t.xout t)
sent (Stop left) control rate brkon go t =
    cond (runs_out left) (idle_rules control rate brkon go t) (at_level (Stop (lowered left)) t.xout t)

unfoldable pub send : ℕ → ℕ → Bool → Bool → Transmitter → Transmitter
send control rate brkon go t = sent t.state control rate brkon go t

-- no countdown over 32,768, and no more than 9 bits of one character
abbrev pub sound_sending : Sending → Bool
sound_sending Idle = true
sound_sending (Element left word count stop) = nat_le left.0 32768 && (nat_lt word 512 && nat_le count 9)
sound_sending (Stop left) = nat_le left.0 32768

abbrev pub sound_transmitter : Transmitter → Bool
sound_transmitter t = sound_sending t.state

-- as open leaves it: empty, and the line at mark
abbrev pub empty_transmitter : Transmitter
empty_transmitter = record { state = Idle; xout = true; xbre = true; buffer = 0 }

-- a write to bit k of the transmit buffer; bit 7 resets XBRE as it loads
abbrev pub buffer_written : ℕ → Bool → Transmitter → Transmitter
buffer_written k v t = record {
  state = t.state;
  xout = t.xout;
  xbre = cond (k == 7) false t.xbre;
  buffer = bit_written 8 k v t.buffer;
}

-- a character into the transmit buffer
abbrev pub buffer_loaded : ℕ → Transmitter → Transmitter
buffer_loaded c t = record { state = t.state; xout = t.xout; xbre = false; buffer = c }

-- a reset keeps the buffer's bits
abbrev pub reset_transmitter : Transmitter → Transmitter
reset_transmitter t = record { state = Idle; xout = true; xbre = true; buffer = t.buffer }
