-- One φ clock of a chip, which is handed the levels of its lines. Assumes nothing.
use Rattle.std.specs.Prelude.{ℕ, ◌+◌, ◌-◌, Bool, true, false, cond, not, ◌&&◌, ◌||◌, nat_le}
use Rattle.timing.specs.Counts.{q, phi}
use Rattle.timing.specs.Ones.{differ}
use Rattle.timing.specs.Registers.{control_of}
use Rattle.sections.specs.Receive.{listen}
use Rattle.sections.specs.Time.{tick_of}
use Rattle.sections.specs.Transmit.{send, xsre}
use Rattle.acc.specs.declared.chip.Lines.{Lines}
use Rattle.acc.specs.declared.chip.Acc.{Acc}
use Rattle.acc.specs.State.{with_lines, with_transmitter, with_receiver, with_timer, with_divider, with_recovery}

-- the levels that the clock takes; in test mode the chip's own RTS and XOUT, as they stood before, and DSR active
abbrev pub lines_taken : Bool → Bool → Acc → Lines
lines_taken rin cts e = record {
  rtson = e.lines.rtson;
  rts = e.lines.rts;
  cts = cond e.modes.tstmd e.lines.rts cts;
  dsr = cond e.modes.tstmd true e.lines.dsr_setting;
  rin = cond e.modes.tstmd e.transmitter.xout rin;
  dsr_setting = e.lines.dsr_setting;
  cts_before = e.lines.cts_before;
  dsr_before = e.lines.dsr_before;
  dsch = e.lines.dsch;
}

-- the divider adds one; where it reaches q or more it returns to 0 and there is an internal clock
abbrev pub q_of : Acc → ℕ
q_of e = q (control_of e.registers.control).divider

abbrev pub fires : Acc → Bool
fires e = nat_le (q_of e) (e.divider.0 + 1)

abbrev pub divided : Acc → Acc
divided e = with_divider (phi (cond (fires e) 0 (e.divider.0 + 1))) e

-- DSCH is set when DSR or CTS differs from the preceding internal clock
abbrev pub status_compared : Lines → Lines
status_compared l = record {
  rtson = l.rtson;
  rts = l.rts;
  cts = l.cts;
  dsr = l.dsr;
  rin = l.rin;
  dsr_setting = l.dsr_setting;
  cts_before = l.cts;
  dsr_before = l.dsr;
  dsch = l.dsch || (differ l.cts l.cts_before || differ l.dsr l.dsr_before);
}

abbrev pub compared : Acc → Acc
compared e = with_lines (status_compared e.lines) e

abbrev pub timed : Acc → Acc
timed e = with_timer (tick_of e.registers.interval e.modes.tstmd e.timer) e

abbrev pub listened : Acc → Acc
listened e = with_receiver (listen e.registers.control e.registers.receive_rate e.lines.rin e.receiver) e

-- the transmitter may go on while RTS and CTS are active
abbrev pub transmitted : Acc → Acc
transmitted e =
    with_transmitter (send e.registers.control e.registers.transmit_rate e.modes.brkon (e.lines.rts && e.lines.cts) e.transmitter) e

abbrev pub without_rts : Lines → Lines
without_rts l = record {
  rtson = l.rtson;
  rts = false;
  cts = l.cts;
  dsr = l.dsr;
  rin = l.rin;
  dsr_setting = l.dsr_setting;
  cts_before = l.cts_before;
  dsr_before = l.dsr_before;
  dsch = l.dsch;
}

-- last, RTS goes inactive if RTSON is 0, XSRE 1, XBRE 1 and BRKON 0
abbrev pub rts_ended : Acc → Acc
rts_ended e =
    cond (not e.lines.rtson && (xsre e.transmitter && (e.transmitter.xbre && not e.modes.brkon))) (with_lines (without_rts e.lines) e) e

-- an internal clock serves status change, timer, receiver, transmitter, in this order
abbrev pub served : Acc → Acc
served e = rts_ended (transmitted (listened (timed (compared e))))

unfoldable pub serve_of : Acc → Acc
serve_of e = served e

-- a recovery count above 0 falls by one, before the divider
abbrev pub begun_clock : Bool → Bool → Acc → Acc
begun_clock rin cts e = with_recovery (phi (e.recovery.0 - 1)) (with_lines (lines_taken rin cts e) e)

abbrev pub clocked : Bool → Bool → Acc → Acc
clocked rin cts e =
    cond (fires (begun_clock rin cts e)) (serve_of (divided (begun_clock rin cts e))) (divided (begun_clock rin cts e))

unfoldable pub clock_of : Bool → Bool → Acc → Acc
clock_of rin cts e = clocked rin cts e
