-- The half-bit count and the deadline as a host asks for them. Assumes nothing.
use Rattle.std.specs.Prelude.{ℕ, ◌+◌, ◌*◌, Bool, cond, ◌&&◌, Ok, Err, Result, nat_le}
use Rattle.timing.specs.declared.counts.PhiCount.{PhiCount}
use Rattle.timing.specs.declared.counts.InternalCount.{InternalCount}
use Rattle.timing.specs.declared.registers.Format.{Format}
use Rattle.timing.specs.declared.registers.Control.{Control}
use Rattle.faults.specs.declared.Fault.{Fault}
use Rattle.faults.specs.declared.Cause.TheVariants.{OutOfRange}
use Rattle.timing.specs.Counts.{q}
use Rattle.timing.specs.Registers.{samples, control_of, half_count}
use Rattle.faults.specs.Faults.{unplaced}

-- a control register has eight bits, a rate register eleven, and a delay is a number of at most sixteen bits
abbrev pub control_fits : ℕ → Bool
control_fits c = nat_le c 255

abbrev pub rate_fits : ℕ → Bool
rate_fits r = nat_le r 2047

abbrev pub delay_fits : ℕ → Bool
delay_fits d = nat_le d 65535

-- the half-bits from the edge of the start to the stop sample: one to the start sample, two to each of the L + P samples
-- after it, two to the stop sample
abbrev pub deadline_half_bits : Format → ℕ
deadline_half_bits f = 2 * samples f + 3

-- 2q + D + q × H × (2 × (L + P) + 3) φ clocks: at most q until the sender has an internal clock, D in the cable, at most
-- q until the receiver has one, and then the receiver's half-bits of H internal clocks each
abbrev pub deadline_over : Control → ℕ → ℕ → ℕ
deadline_over c half delay = 2 * q c.divider + delay + q c.divider * (half * deadline_half_bits c.format)

-- the deadline of a control register, a rate register and a delay
abbrev pub deadline_of : ℕ → ℕ → ℕ → ℕ
deadline_of control rate delay = deadline_over (control_of control) (half_count rate) delay

-- what a host is answered: the count, or cause 5 with no event and no end
abbrev pub half_bit_answer : ℕ → Result InternalCount Fault
half_bit_answer rate = cond (rate_fits rate) (Ok (record { 0 = half_count rate })) (Err (unplaced OutOfRange))

abbrev pub deadline_answer : ℕ → ℕ → ℕ → Result PhiCount Fault
deadline_answer control rate delay =
    cond (control_fits control && (rate_fits rate && delay_fits delay)) (Ok (record { 0 = deadline_of control rate delay })) (Err (unplaced OutOfRange))
