-- Sections over several internal clocks. Assumes nothing.
use Rattle.std.specs.Prelude.{ℕ, zero, suc, ◌+◌, ◌/◌, ◌%◌, Bool, false, cond, List, [], ◌∷◌, ◌==◌}
use Rattle.sections.specs.declared.receiver.Receiver.{Receiver}
use Rattle.sections.specs.declared.timer.Timer.{Timer}
use Rattle.sections.specs.declared.transmitter.Transmitter.{Transmitter}
use Rattle.sections.specs.Bits.{bit_written}
use Rattle.sections.specs.Receive.{listen, released}
use Rattle.sections.specs.Time.{tick_of}
use Rattle.sections.specs.Transmit.{send}

-- the timer after n internal clocks
unfoldable pub timer_after : ℕ → ℕ → Bool → Timer → Timer
timer_after zero interval tstmd t = t
timer_after (suc n) interval tstmd t = tick_of interval tstmd (timer_after n interval tstmd t)

-- what stands at an internal clock of the receiver: its registers, and whether RBRL was reset before it
pub record Hearing : Type 0 where
  pub control : ℕ
  pub rate : ℕ
  pub seen_before : Bool

-- the receiver after internal clocks at which the line is at space
unfoldable pub low_after : List Hearing → Receiver → Receiver
low_after [] r = r
low_after (h ∷ hs) r = low_after hs (listen h.control h.rate false (cond h.seen_before (released r) r))

-- what stands at an internal clock of the transmitter: the control register, BRKON, and whether RTS and CTS are active
pub record SendingAt : Type 0 where
  pub control : ℕ
  pub brkon : Bool
  pub go : Bool

-- one internal clock of the transmitter at a rate
abbrev pub sends : ℕ → SendingAt → Transmitter → Transmitter
sends rate p t = send p.control rate p.brkon p.go t

-- the levels of XOUT now and after each internal clock
unfoldable pub levels : ℕ → List SendingAt → Transmitter → List Bool
levels rate [] t = t.xout ∷ []
levels rate (p ∷ ps) t = t.xout ∷ levels rate ps (sends rate p t)

-- the transmitter after these internal clocks
unfoldable pub transmitter_after : ℕ → List SendingAt → Transmitter → Transmitter
transmitter_after rate [] t = t
transmitter_after rate (p ∷ ps) t = transmitter_after rate ps (sends rate p t)

-- a rate register after a write of n bits of a number, lowest first, from bit k on
unfoldable pub filled : ℕ → ℕ → ℕ → ℕ → ℕ
filled zero k v r = r
filled (suc n) k v r = filled n (k + 1) (v / 2) (bit_written 11 k (v % 2 == 1) r)
