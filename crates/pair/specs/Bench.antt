-- A bench: two chips, the meaning of the cable between them, and the clock. Assumes nothing.
use Rattle.std.specs.Prelude.{ℕ, ◌+◌, Bool}
use Rattle.faults.specs.declared.End.{End}
use Rattle.faults.specs.declared.End.TheVariants as end
pub use Rattle.faults.specs.Faults.{end_of, at_place}
use Rattle.cable.specs.declared.direction.Direction.TheVariants.{TowardB, TowardA}
use Rattle.cable.specs.Channels.{Channels, handed, channels_stepped}
use Rattle.acc.specs.declared.chip.Acc.{Acc}
use Rattle.acc.specs.Clock.{clock_of}

pub record Bench : Type 0 where
  pub a : Acc
  pub b : Acc
  pub channels : Channels
  pub clock : ℕ
  pub is_open : Bool

abbrev pub chip : End → Bench → Acc
chip end.A m = m.a
chip end.B m = m.b

abbrev pub with_chip : End → Acc → Bench → Bench
with_chip end.A e m = record { a = e; b = m.b; channels = m.channels; clock = m.clock; is_open = m.is_open }
with_chip end.B e m = record { a = m.a; b = e; channels = m.channels; clock = m.clock; is_open = m.is_open }

-- the last clock
abbrev pub last_clock : ℕ
last_clock = 4000000000

-- what a chip puts on the cable: its XOUT and its RTS
abbrev pub sent_by : Acc → Bool × Bool
sent_by e = (e.transmitter.xout, e.lines.rts)

-- One φ clock: the cable steps once each way with the XOUT and RTS that stand, giving RIN and CTS of the other end; then each chip has its φ
-- clock, by which a recovery count falls before the divider advances.
abbrev pub clocked : Bench → Bench
clocked m =
    let to_b = handed m.channels.toward_b (sent_by m.a) in
    let to_a = handed m.channels.toward_a (sent_by m.b) in
    record {
      a = clock_of to_a.0 to_a.1 m.a;
      b = clock_of to_b.0 to_b.1 m.b;
      channels = channels_stepped TowardA (sent_by m.b) (channels_stepped TowardB (sent_by m.a) m.channels);
      clock = m.clock + 1;
      is_open = m.is_open;
    }
