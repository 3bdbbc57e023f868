-- Every row is computed.
use Rattle.std.proofs.Common.{refl}
use Rattle.timing.specs.Ones.{bits, odd_among, odd_ones, parity_bit}
use Rattle.timing.specs.Registers.{control_of, half_count}
use Rattle.sections.specs.Bits.{bit_written}
use Rattle.sections.specs.Receive.{listen, odd_held}
use Rattle.sections.specs.Time.{tick_of}
use Rattle.sections.specs.Transmit.{send}
use Rattle.cable.specs.Channels.{invert_at, struck, remaining, handed, stepped, all_mark}
use Rattle.cable.specs.Turnings.{change_at, changed_by, count_handed}
use Rattle.acc.specs.Calls.{bits_written, put_answer, put_of, get_answer, load_answer, load_of, take_answer, take_of}
use Rattle.acc.specs.Clock.{serve_of, clock_of}
use Rattle.acc.specs.Outputs.{write_of}
use Rattle.pair.specs.Calls.{moves}
use Rattle.pair.specs.Moment.{set_all, write_all, moved, moment_refusal, first_of, first_repeat, first_shut, how_many, number_each, served_list}
use Rattle.pair.specs.Runs.{after, run}
use Rattle.pair.specs.Law.{writes_allowed_bits, calls_allowed, cts_at_next_internal_clock}
use Rattle.pair.specs.Copies.{stored_in}
use Rattle.acc.specs.Inputs.{bits_read, read_of}
use Rattle.pair.proofs.rows.further_rows_hold.Goals as goal

pub returns : goal.returns
unfolding bits odd_among odd_ones parity_bit control_of half_count bit_written listen odd_held tick_of send invert_at struck change_at changed_by remaining handed stepped all_mark bits_written put_answer put_of load_answer load_of take_answer take_of serve_of clock_of write_of moves set_all write_all moved moment_refusal first_of first_repeat first_shut how_many number_each served_list after run count_handed writes_allowed_bits calls_allowed cts_at_next_internal_clock stored_in get_answer bits_read read_of
returns c = (
  (refl, refl, refl, refl, refl, refl),
  ((refl, refl, refl, refl), (refl, refl, refl, refl), (refl, refl, refl, refl, refl), refl, refl, refl, (refl, refl), (refl, refl)),
  (refl, refl, refl, refl, refl, refl),
)
