-- Every row is computed.
use Rattle.std.proofs.Common.{refl}
use Rattle.timing.specs.Ones.{bits, odd_among, odd_ones, parity_bit}
use Rattle.timing.specs.Registers.{control_of, half_count}
use Rattle.sections.specs.Bits.{bit_written}
use Rattle.sections.specs.Receive.{listen, odd_held}
use Rattle.sections.specs.Time.{tick_of}
use Rattle.sections.specs.Transmit.{send}
use Rattle.cable.specs.Channels.{invert_at, struck, remaining, handed, stepped, all_mark}
use Rattle.acc.specs.Calls.{bits_written, put_answer, put_of, load_answer, load_of, take_answer, take_of}
use Rattle.acc.specs.Clock.{serve_of, clock_of}
use Rattle.acc.specs.Outputs.{write_of}
use Rattle.pair.specs.Calls.{moves}
use Rattle.pair.specs.Moment.{set_all, write_all, moved, moment_refusal, first_of, first_repeat, first_shut, how_many, number_each, served_list}
use Rattle.pair.specs.Runs.{after, run}
use Rattle.pair.proofs.rows.rows_hold.Goals as goal

pub returns : goal.returns
unfolding bits odd_among odd_ones parity_bit control_of half_count bit_written listen odd_held tick_of send invert_at struck remaining handed stepped all_mark bits_written put_answer put_of load_answer load_of take_answer take_of serve_of clock_of write_of moves set_all write_all moved moment_refusal first_of first_repeat first_shut how_many number_each served_list after run
returns c = ((refl, refl, refl, refl), refl, (refl, refl, refl, refl, refl, refl), (refl, refl, refl, refl), refl)
