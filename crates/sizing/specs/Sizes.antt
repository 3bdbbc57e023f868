-- The times of a line and what it can carry. Assumes nothing.
use Rattle.std.specs.Prelude.{ℕ, ◌+◌, ◌*◌, Bool, ◌&&◌, nat_le}
use Rattle.timing.specs.declared.registers.Control.{Control}
use Rattle.timing.specs.Counts.{q}
use Rattle.timing.specs.Registers.{control_of, half_count, half_bits, samples}
use Rattle.timing.specs.Calls.{control_fits, rate_fits, delay_fits}

-- a label has 1 to 65,535 characters
abbrev pub label_fits : ℕ → Bool
label_fits n = nat_le 1 n && nat_le n 65535

abbrev pub line_fits : ℕ → ℕ → ℕ → ℕ → Bool
line_fits control rate delay label = control_fits control && (rate_fits rate && (delay_fits delay && label_fits label))

-- the φ clocks of one bit: two half-bits
abbrev pub bit_clocks : ℕ → ℕ → ℕ
bit_clocks control rate = q (control_of control).divider * (2 * half_count rate)

-- a character sent back to back takes two half-bits for the start and for each of the L + P bits, and its stop
abbrev pub character_half_bits : Control → ℕ
character_half_bits c = 2 + 2 * samples c.format + half_bits c.stop

abbrev pub character_clocks : ℕ → ℕ → ℕ
character_clocks control rate = q (control_of control).divider * (half_count rate * character_half_bits (control_of control))

abbrev pub label_clocks : ℕ → ℕ → ℕ → ℕ
label_clocks control rate label = label * character_clocks control rate
