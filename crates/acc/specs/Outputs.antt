-- What a write to an output bit does. Assumes nothing.
use Rattle.std.specs.Prelude.{ℕ, Bool, true, false, cond, not, ◌&&◌, ◌||◌, ◌==◌, nat_le}
use Rattle.timing.specs.Counts.{phi}
use Rattle.sections.specs.Bits.{bit_written}
use Rattle.sections.specs.Receive.{released, reset_receiver}
use Rattle.sections.specs.Time.{timer_loaded, timer_at, acknowledged}
use Rattle.sections.specs.Transmit.{buffer_written, reset_transmitter}
use Rattle.acc.specs.declared.chip.Registers.{Registers}
use Rattle.acc.specs.declared.chip.LoadFlags.{LoadFlags}
use Rattle.acc.specs.declared.chip.Lines.{Lines}
use Rattle.acc.specs.declared.chip.Acc.{Acc}
use Rattle.acc.specs.State.{with_registers, with_load, with_modes, with_enables, with_lines, with_transmitter, with_receiver, with_timer, with_control, with_interval, with_ldctrl, with_ldir, with_lrdr, with_lxdr, with_tstmd, with_brkon, with_rienb, with_xbienb, with_timenb, with_dscenb, with_dsch}

-- LDIR falls from 1 to 0: the timer is loaded from the interval register
abbrev pub ldir_fallen : Acc → Acc
ldir_fallen e = with_timer (timer_loaded e.registers.interval e.timer) (with_load (with_ldir false e.load) e)

-- a bit of the control register; bit 7 resets LDCTRL as it loads
abbrev pub control_written : ℕ → Bool → Acc → Acc
control_written a v e =
    with_load (with_ldctrl (cond (a == 7) false e.load.ldctrl) e.load)
    (with_registers (with_control (bit_written 8 a v e.registers.control) e.registers) e)

-- a bit of the interval register; bit 7 resets LDIR as it loads
abbrev pub interval_bit : ℕ → Bool → Acc → Acc
interval_bit a v e = with_registers (with_interval (bit_written 8 a v e.registers.interval) e.registers) e

abbrev pub interval_written : ℕ → Bool → Acc → Acc
interval_written a v e = cond (a == 7) (ldir_fallen (interval_bit a v e)) (interval_bit a v e)

-- a bit of the receive rate under LRDR and of the transmit rate under LXDR, both if both stand; bit 10 resets LRDR
abbrev pub rates_bit : ℕ → Bool → LoadFlags → Registers → Registers
rates_bit a v l r = record {
  control = r.control;
  interval = r.interval;
  receive_rate = cond l.lrdr (bit_written 11 a v r.receive_rate) r.receive_rate;
  transmit_rate = cond l.lxdr (bit_written 11 a v r.transmit_rate) r.transmit_rate;
}

abbrev pub rates_written : ℕ → Bool → Acc → Acc
rates_written a v e =
    with_load (with_lrdr (cond (a == 10) false e.load.lrdr) e.load)
    (with_registers (rates_bit a v e.load e.registers) e)

-- 0 to 10: the control register under LDCTRL, else the interval under LDIR, else the rates under LRDR and LXDR, else, with
-- BRKON 0, the transmit buffer
abbrev pub low_written : ℕ → Bool → Acc → Acc
low_written a v e =
    cond e.load.ldctrl (control_written a v e)
    (cond e.load.ldir (interval_written a v e)
    (cond (e.load.lrdr || e.load.lxdr) (rates_written a v e)
    (cond e.modes.brkon e (with_transmitter (buffer_written a v e.transmitter) e))))

-- LDIR set or reset
abbrev pub ldir_written : Bool → Acc → Acc
ldir_written v e = cond (e.load.ldir && not v) (ldir_fallen e) (with_load (with_ldir v e.load) e)

-- 11 to 14 set or reset LXDR, LRDR, LDIR, LDCTRL
abbrev pub flag_written : ℕ → Bool → Acc → Acc
flag_written a v e =
    cond (a == 11) (with_load (with_lxdr v e.load) e)
    (cond (a == 12) (with_load (with_lrdr v e.load) e)
    (cond (a == 13) (ldir_written v e) (with_load (with_ldctrl v e.load) e)))

-- 16 sets RTSON and RTS, or resets RTSON alone
abbrev pub rtson_written : Bool → Lines → Lines
rtson_written v l = record {
  rtson = v;
  rts = cond v true l.rts;
  cts = l.cts;
  dsr = l.dsr;
  rin = l.rin;
  dsr_setting = l.dsr_setting;
  cts_before = l.cts_before;
  dsr_before = l.dsr_before;
  dsch = l.dsch;
}

-- 15 is TSTMD, 16 RTSON, 17 BRKON; 18 to 21 are RIENB, XBIENB, TIMENB, DSCENB, of which 18 also resets RBRL, 20 TIMELP and
-- TIMERR, 21 DSCH
abbrev pub mode_written : ℕ → Bool → Acc → Acc
mode_written a v e =
    cond (a == 15) (with_modes (with_tstmd v e.modes) e)
    (cond (a == 16) (with_lines (rtson_written v e.lines) e)
    (cond (a == 17) (with_modes (with_brkon v e.modes) e)
    (cond (a == 18) (with_receiver (released e.receiver) (with_enables (with_rienb v e.enables) e))
    (cond (a == 19) (with_enables (with_xbienb v e.enables) e)
    (cond (a == 20) (with_timer (acknowledged e.timer) (with_enables (with_timenb v e.enables) e))
    (with_lines (with_dsch false e.lines) (with_enables (with_dscenb v e.enables) e)))))))

-- RTSON 0, RTS inactive, DSCH 0; the levels last seen stay
abbrev pub reset_lines : Lines → Lines
reset_lines l = record {
  rtson = false;
  rts = false;
  cts = l.cts;
  dsr = l.dsr;
  rin = l.rin;
  dsr_setting = l.dsr_setting;
  cts_before = l.cts_before;
  dsr_before = l.dsr_before;
  dsch = false;
}

-- 31 resets the chip: bits 15 to 21 and all status flags 0, XSRE, XBRE and the load flags 1, RTS inactive, XOUT mark, the
-- receiver idle having seen space, timer, prescaler and divider 0, and 11 φ clocks of recovery; registers and buffers stay
abbrev pub reset_chip : Acc → Acc
reset_chip e = record {
  registers = e.registers;
  load = record { ldctrl = true; ldir = true; lrdr = true; lxdr = true };
  modes = record { tstmd = false; brkon = false };
  enables = record { rienb = false; xbienb = false; timenb = false; dscenb = false };
  lines = reset_lines e.lines;
  transmitter = reset_transmitter e.transmitter;
  receiver = reset_receiver e.receiver;
  timer = timer_at 0;
  divider = phi 0;
  recovery = phi 11;
}

-- what a write does depends on its address and on the flags that stand; 22 to 30 do nothing
abbrev pub written : ℕ → Bool → Acc → Acc
written a v e =
    cond (nat_le a 10) (low_written a v e)
    (cond (nat_le a 14) (flag_written a v e)
    (cond (nat_le a 21) (mode_written a v e)
    (cond (a == 31) (reset_chip e) e)))

unfoldable pub write_of : ℕ → Bool → Acc → Acc
write_of a v e = written a v e
