-- The receiver at an internal clock. Assumes nothing.
use Rattle.std.specs.Prelude.{ℕ, ◌+◌, ◌%◌, ◌^◌, Bool, true, false, cond, not, ◌&&◌, nat_le, nat_lt}
use Rattle.timing.specs.declared.counts.InternalCount.{InternalCount}
use Rattle.timing.specs.declared.registers.Format.{Format}
use Rattle.timing.specs.declared.registers.Parity.{Parity}
use Rattle.timing.specs.declared.registers.Parity.TheVariants.{Disabled, Even, Odd}
use Rattle.timing.specs.Registers.{width, samples, control_of}
use Rattle.timing.specs.Ones.{bits, odd_among}
use Rattle.sections.specs.declared.receiver.Receiving.{Receiving}
use Rattle.sections.specs.declared.receiver.Receiving.TheVariants.{Idle, Half, Character}
use Rattle.sections.specs.declared.receiver.Receiver.{Receiver}
use Rattle.sections.specs.Transmit.{countdown, lowered, runs_out}

-- RSBD: inside a character
abbrev pub rsbd_by : Receiving → Bool
rsbd_by Idle = false
rsbd_by (Half left) = false
rsbd_by (Character f left held taken) = true

abbrev pub rsbd : Receiver → Bool
rsbd r = rsbd_by r.state

-- RFBD: inside a character, from its first sample on
abbrev pub rfbd_by : Receiving → Bool
rfbd_by Idle = false
rfbd_by (Half left) = false
rfbd_by (Character f left held taken) = nat_lt 0 taken

abbrev pub rfbd : Receiver → Bool
rfbd r = rfbd_by r.state

-- in another state, having seen this level
abbrev pub in_state : Receiving → Bool → Receiver → Receiver
in_state s level r = record { state = s; seen = level; buffer = r.buffer; rbrl = r.rbrl; rfer = r.rfer; rover = r.rover; rper = r.rper }

-- an odd number of the samples held, at most nine, are mark
unfoldable pub odd_held : ℕ → Bool
odd_held n = odd_among (bits 9 n)

-- even parity wants an even number of marks among data and parity bit, odd parity an odd one; without parity none is wrong
abbrev pub wrong_parity : Parity → ℕ → Bool
wrong_parity Disabled n = false
wrong_parity Even n = odd_held n
wrong_parity Odd n = not (odd_held n)

-- at the stop sample the character is stored right-justified: ROVER is the old RBRL, RPER tells wrong parity, RFER a space,
-- RBRL becomes 1, and the receiver is idle
abbrev pub stored : Format → ℕ → Bool → Receiver → Receiver
stored f n level r = record {
  state = Idle;
  seen = r.seen;
  buffer = n % 2 ^ width f.length;
  rbrl = true;
  rfer = not level;
  rover = r.rbrl;
  rper = wrong_parity f.parity n;
}

-- idle: mark at the preceding internal clock and space now start a countdown of H
abbrev pub after_idle : ℕ → Bool → Bool → Receiving
after_idle rate true false = Half (countdown rate 1)
after_idle rate true true = Idle
after_idle rate false level = Idle

-- the start sample: space starts a countdown of 2H and fixes the format, mark returns to idle
abbrev pub after_start : ℕ → ℕ → Bool → Receiving
after_start control rate true = Idle
after_start control rate false = Character (control_of control).format (countdown rate 2) 0 0

-- inside a character, having seen this level: the countdown, one of the L + P samples, or the stop sample
abbrev pub heard_character : Format → InternalCount → ℕ → ℕ → ℕ → Bool → Receiver → Receiver
heard_character f left n taken rate level r =
    cond (runs_out left)
    (cond (nat_lt taken (samples f))
    (in_state (Character f (countdown rate 2) (n + cond level (2 ^ taken) 0) (taken + 1)) r.seen r)
    (stored f n level r))
    (in_state (Character f (lowered left) n taken) r.seen r)

-- one internal clock; the level is seen whatever the state
abbrev pub heard : Receiving → ℕ → ℕ → Bool → Receiver → Receiver
heard Idle control rate level r = in_state (after_idle rate r.seen level) level r
heard (Half left) control rate level r =
    in_state (cond (runs_out left) (after_start control rate level) (Half (lowered left))) level r
heard (Character f left n taken) control rate level r = heard_character f left n taken rate level (in_state r.state level r)

unfoldable pub listen : ℕ → ℕ → Bool → Receiver → Receiver
listen control rate level r = heard r.state control rate level r

-- no countdown over 32,768, no more than 9 samples, each in its place
abbrev pub sound_receiving : Receiving → Bool
sound_receiving Idle = true
sound_receiving (Half left) = nat_le left.0 32768
sound_receiving (Character f left n taken) = nat_le left.0 32768 && (nat_le taken 9 && nat_lt n (2 ^ taken))

abbrev pub sound_receiver : Receiver → Bool
sound_receiver r = sound_receiving r.state

-- as open leaves it: idle having seen mark, nothing received
abbrev pub idle_receiver : Receiver
idle_receiver = record { state = Idle; seen = true; buffer = 0; rbrl = false; rfer = false; rover = false; rper = false }

-- RBRL is reset, and nothing else
abbrev pub released : Receiver → Receiver
released r = record { state = r.state; seen = r.seen; buffer = r.buffer; rbrl = false; rfer = r.rfer; rover = r.rover; rper = r.rper }

-- a reset: idle having seen space, no flag set; the buffer keeps its bits
abbrev pub reset_receiver : Receiver → Receiver
reset_receiver r = record { state = Idle; seen = false; buffer = r.buffer; rbrl = false; rfer = false; rover = false; rper = false }
