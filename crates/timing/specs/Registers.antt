-- What the control register and a rate register say. Assumes nothing.
use Rattle.std.specs.Prelude.{ℕ, ◌+◌, ◌*◌, ◌/◌, ◌%◌, ◌^◌, Bool, cond, ◌==◌}
use Rattle.timing.specs.declared.counts.Divider.{Divider}
use Rattle.timing.specs.declared.counts.Divider.TheVariants.{By3, By4}
use Rattle.timing.specs.declared.registers.CharacterLength.{CharacterLength}
use Rattle.timing.specs.declared.registers.CharacterLength.TheVariants.{Five, Six, Seven, Eight}
use Rattle.timing.specs.declared.registers.Parity.{Parity}
use Rattle.timing.specs.declared.registers.Parity.TheVariants.{Disabled, Even, Odd}
use Rattle.timing.specs.declared.registers.StopLength.{StopLength}
use Rattle.timing.specs.declared.registers.StopLength.TheVariants.{One, OneAndHalf, Two}
use Rattle.timing.specs.declared.registers.Format.{Format}
use Rattle.timing.specs.declared.registers.Control.{Control}

-- bit k of a number
abbrev pub bit : ℕ → ℕ → Bool
bit k n = n / 2 ^ k % 2 == 1

-- L, the data bits
abbrev pub width : CharacterLength → ℕ
width Five = 5
width Six = 6
width Seven = 7
width Eight = 8

-- P, 1 with a parity bit
abbrev pub parity_bits : Parity → ℕ
parity_bits Disabled = 0
parity_bits Even = 1
parity_bits Odd = 1

-- the stop length in half-bits
abbrev pub half_bits : StopLength → ℕ
half_bits One = 2
half_bits OneAndHalf = 3
half_bits Two = 4

-- L + P
abbrev pub samples : Format → ℕ
samples f = width f.length + parity_bits f.parity

-- bits 1 and 0 of the control register: 5 to 8 data bits
abbrev pub length_select : ℕ → CharacterLength
length_select c = cond (bit 1 c) (cond (bit 0 c) Eight Seven) (cond (bit 0 c) Six Five)

-- bit 5 turns parity on, bit 4 makes it odd
abbrev pub parity_select : ℕ → Parity
parity_select c = cond (bit 5 c) (cond (bit 4 c) Odd Even) Disabled

-- bits 7 and 6: 00 is one and a half stop bits, 01 is two, 10 and 11 are one
abbrev pub stop_select : ℕ → StopLength
stop_select c = cond (bit 7 c) One (cond (bit 6 c) Two OneAndHalf)

-- bit 3: φ is divided by 4, else by 3
abbrev pub divider_select : ℕ → Divider
divider_select c = cond (bit 3 c) By4 By3

abbrev pub decoded : ℕ → Control
decoded c = record {
  format = record { length = length_select c; parity = parity_select c };
  stop = stop_select c;
  divider = divider_select c;
}

-- the control register, decoded
unfoldable pub control_of : ℕ → Control
control_of c = decoded c

-- bit 10 of a rate register: m is 8, else 1
abbrev pub multiplier : ℕ → ℕ
multiplier r = cond (bit 10 r) 8 1

-- the low ten bits, n, of which 0 counts as 1024
abbrev pub count : ℕ → ℕ
count r = cond (r % 1024 == 0) 1024 (r % 1024)

abbrev pub half_count_by_bits : ℕ → ℕ
half_count_by_bits r = multiplier r * count r

-- H = m × n, the half-bit count of a rate register, in internal clocks
unfoldable pub half_count : ℕ → ℕ
half_count r = half_count_by_bits r
