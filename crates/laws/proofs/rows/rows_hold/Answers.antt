-- Every row is computed.
use Rattle.std.proofs.Common.{refl}
use Rattle.timing.specs.Registers.{control_of, half_count}
use Rattle.timing.specs.Ones.{bits, odd_among, parity_bit}
use Rattle.sections.specs.Time.{tick_of}
use Rattle.sections.specs.Bits.{bit_written}
use Rattle.laws.specs.Runs.{timer_after, filled}
use Rattle.laws.proofs.rows.rows_hold.Goals as goal

pub returns : goal.returns
unfolding control_of half_count bits odd_among parity_bit tick_of timer_after filled bit_written
returns c = (
  (refl, refl, refl, refl),
  (record { length = refl; parity = refl; stop_length = refl; divider = refl }, record { length = refl; parity = refl; stop_length = refl; divider = refl }),
  (refl, refl),
  (refl, refl),
  ((refl, refl), (refl, refl)),
  (refl, refl, refl),
)
