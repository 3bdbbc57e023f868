-- Laws of one chip. Assumes nothing.
use Rattle.std.specs.Prelude.{◌≡◌, ℕ, suc, ◌+◌, ◌*◌, ◌<◌, Bool, true, false, ◌||◌, List, [], ◌∷◌, ◌++◌, length, replicate}
use Rattle.timing.specs.declared.counts.InternalCount.{InternalCount}
use Rattle.timing.specs.declared.registers.Control.{Control}
use Rattle.timing.specs.declared.registers.Format.{Format}
use Rattle.timing.specs.declared.registers.Parity.{Parity}
use Rattle.timing.specs.declared.registers.Parity.TheVariants.{Disabled, Even, Odd}
use Rattle.timing.specs.Counts.{internal}
use Rattle.timing.specs.Ones.{bits, parity_bit}
use Rattle.timing.specs.Registers.{width, samples, half_bits, half_count, control_of}
use Rattle.sections.specs.declared.receiver.Receiver.{Receiver}
use Rattle.sections.specs.declared.receiver.Receiving.TheVariants.{Half, Character, Idle as IdleReceiving}
use Rattle.sections.specs.declared.timer.Timer.{Timer}
use Rattle.sections.specs.declared.transmitter.Sending.TheVariants.{Idle}
use Rattle.sections.specs.declared.transmitter.Transmitter.{Transmitter}
use Rattle.sections.specs.Receive.{listen}
use Rattle.sections.specs.Time.{prescaler_limit}
use Rattle.sections.specs.Transmit.{send, idle_rules, runs_out, countdown}
use Rattle.acc.specs.declared.chip.Acc.{Acc}
use Rattle.acc.specs.declared.chip.LoadFlags.{LoadFlags}
use Rattle.acc.specs.Calls.{bits_written}
use Rattle.acc.specs.Outputs.{write_of}
use Rattle.acc.specs.State.{with_load}
use Rattle.laws.specs.Runs.{timer_after, Hearing, low_after, SendingAt, sends, levels, transmitter_after, filled}

-- A timer that stands at its interval, above 0, with the prescaler at 0, elapses after interval × 64 internal clocks, in test
-- mode interval × 2, and not before. It then stands at its interval again with the prescaler at 0, so it elapses with that period.
abbrev pub TimerElapsesEachInterval : Type 0
TimerElapsesEachInterval =
    (interval : ℕ) (tstmd : Bool) (t : Timer) → 0 < interval → t.prescaler ≡ internal 0 → t.count ≡ interval →
    ((n : ℕ) → n < prescaler_limit tstmd * interval →
    ((timer_after n interval tstmd t).timelp ≡ t.timelp) × ((timer_after n interval tstmd t).timerr ≡ t.timerr))
    × (timer_after (prescaler_limit tstmd * interval) interval tstmd t
    ≡ record { prescaler = internal 0; count = interval; timelp = true; timerr = t.timerr || t.timelp })

-- each of these levels for n clocks
unfoldable pub each_for : ℕ → List Bool → List Bool
each_for n [] = []
each_for n (b ∷ bs) = replicate n b ++ each_for n bs

-- the parity bit, if there is one
abbrev pub parity_level : Parity → Bool → List Bool
parity_level Disabled b = []
parity_level Even b = b ∷ []
parity_level Odd b = b ∷ []

-- the levels of a character on the line at each internal clock: the start, the L data bits lowest first, the parity bit if
-- there is one, each for 2 half-bits, and the stop for its own
abbrev pub line_of : Format → ℕ → ℕ → ℕ → List Bool
line_of f stop half c =
    each_for (half * 2) (false ∷ (bits (width f.length) c ++ parity_level f.parity (parity_bit f c))) ++ replicate (half * stop) true

-- the internal clocks of a whole character: a start, L + P bits and the stop
abbrev pub character_time : ℕ → Control → ℕ
character_time half c = half * 2 * suc (samples c.format) + half * half_bits c.stop

-- An idle transmitter whose buffer is full, with XOUT at mark and RTS and CTS active, begins a start at this internal clock and empties
-- its buffer. While the transmit rate stays, XOUT then has the levels of that character, in the format and with the stop length that
-- the control register gave at the start, whatever becomes of the control register, BRKON, RTS and CTS meanwhile. When its time is over
-- the idle rules hold, at that very clock.
abbrev pub TransmitterSendsItsCharacter : Type 0
TransmitterSendsItsCharacter =
    (control rate : ℕ) (brkon : Bool) (t : Transmitter) (ps : List SendingAt) → t.state ≡ Idle → t.xout ≡ true → t.xbre ≡ false →
    suc (length ps) ≡ character_time (half_count rate) (control_of control) →
    let begins = send control rate brkon true t in
    (begins.xbre ≡ true)
    × (levels rate ps begins ≡ line_of (control_of control).format (half_bits (control_of control).stop) (half_count rate) t.buffer)
    × ((p : SendingAt) → sends rate p (transmitter_after rate ps begins) ≡ idle_rules p.control rate p.brkon p.go (transmitter_after rate ps begins))

-- Where a stop sample finds space, RFER is set. As long as the line then stays low, the receiver is idle having seen space, whatever
-- becomes of its registers and of RBRL: no start begins. Once it has seen mark, a space starts a countdown of H again.
abbrev pub SpaceAfterFramingErrorStartsNothing : Type 0
SpaceAfterFramingErrorStartsNothing =
    (control rate : ℕ) (r : Receiver) (f : Format) (left : InternalCount) (held : ℕ) → r.state ≡ Character f left held (samples f) → runs_out left ≡ true →
    ((listen control rate false r).rfer ≡ true)
    × ((hs : List Hearing) → (c₁ r₁ c₂ r₂ : ℕ) →
    let low = low_after hs (listen control rate false r) in
    (low.state ≡ IdleReceiving) × (low.seen ≡ false) × ((listen c₂ r₂ false (listen c₁ r₁ true low)).state ≡ Half (countdown r₂ 1)))

-- the rates are selected, and nothing else
abbrev pub rates_selected : LoadFlags
rates_selected = record { ldctrl = false; ldir = false; lrdr = true; lxdr = true }

-- With LRDR and LXDR set, and LDCTRL and LDIR not, eleven bits from address 0 on fill both rate registers alike; LRDR is then reset, and
-- LXDR stands.
abbrev pub RateReachesBothRegisters : Type 0
RateReachesBothRegisters =
    (v : ℕ) (e : Acc) →
    let after = bits_written 11 0 v (with_load rates_selected e) in
    (after.registers.receive_rate ≡ filled 11 0 v e.registers.receive_rate)
    × (after.registers.transmit_rate ≡ filled 11 0 v e.registers.transmit_rate)
    × (after.load.lrdr ≡ false)
    × (after.load.lxdr ≡ true)

-- A reset keeps the registers, both buffers, the DSR setting, and the levels last taken and last compared.
abbrev pub ResetKeepsRegisters : Type 0
ResetKeepsRegisters =
    (v : Bool) (e : Acc) →
    let after = write_of 31 v e in
    (after.registers ≡ e.registers)
    × (after.transmitter.buffer ≡ e.transmitter.buffer)
    × (after.receiver.buffer ≡ e.receiver.buffer)
    × (after.lines.cts ≡ e.lines.cts)
    × (after.lines.dsr ≡ e.lines.dsr)
    × (after.lines.rin ≡ e.lines.rin)
    × (after.lines.dsr_setting ≡ e.lines.dsr_setting)
    × (after.lines.cts_before ≡ e.lines.cts_before)
    × (after.lines.dsr_before ≡ e.lines.dsr_before)
