-- What a host may ask of one chip, when it is refused, and what it leaves. Assumes nothing.
use Rattle.std.specs.Prelude.{ℕ, zero, suc, ◌+◌, ◌/◌, ◌%◌, Bool, true, false, cond, List, ◌++◌, Ok, Err, Result, ◌==◌, nat_lt, codes, decimal}
use Rattle.faults.specs.declared.Cause.{Cause}
use Rattle.faults.specs.declared.Cause.TheVariants.{Recovering, BufferNotEnabled, BufferFull, NothingReceived}
use Rattle.timing.specs.Counts.{phi}
use Rattle.sections.specs.Receive.{idle_receiver, released}
use Rattle.sections.specs.Time.{timer_at}
use Rattle.sections.specs.Transmit.{empty_transmitter, buffer_loaded}
use Rattle.acc.specs.declared.chip.Registers.{Registers}
use Rattle.acc.specs.declared.chip.Lines.{Lines}
use Rattle.acc.specs.declared.chip.Received.{Received}
use Rattle.acc.specs.declared.chip.Pins.{Pins}
use Rattle.acc.specs.declared.chip.Acc.{Acc}
use Rattle.acc.specs.Inputs.{flag, interrupt, bits_read}
use Rattle.acc.specs.Outputs.{write_of}
use Rattle.acc.specs.State.{with_lines, with_transmitter, with_receiver, with_dsr_setting}

-- RTS, CTS and DSR inactive, RIN mark
abbrev pub inactive_lines : Lines
inactive_lines = record {
  rtson = false;
  rts = false;
  cts = false;
  dsr = false;
  rin = true;
  dsr_setting = false;
  cts_before = false;
  dsr_before = false;
  dsch = false;
}

-- as open leaves a chip: XSRE and XBRE 1, all other flags and buffers 0, the receiver idle having seen mark, XOUT and RIN
-- mark, RTS, CTS and DSR inactive, divider and prescaler 0, and the timer at the interval
abbrev pub opened_chip : Registers → Acc
opened_chip r = record {
  registers = r;
  load = record { ldctrl = false; ldir = false; lrdr = false; lxdr = false };
  modes = record { tstmd = false; brkon = false };
  enables = record { rienb = false; xbienb = false; timenb = false; dscenb = false };
  lines = inactive_lines;
  transmitter = empty_transmitter;
  receiver = idle_receiver;
  timer = timer_at r.interval;
  divider = phi 0;
  recovery = phi 0;
}

abbrev pub dsr_set : Bool → Acc → Acc
dsr_set v e = with_lines (with_dsr_setting v e.lines) e

abbrev pub pins_of : Acc → Pins
pins_of e = record { xout = e.transmitter.xout; rts = e.lines.rts; int = interrupt e }

-- the pins as people read them: XOUT, RTS and INT as 0 or 1
abbrev pub pins_text : Pins → List ℕ
pins_text p = decimal (cond p.xout 1 0) ++ (codes " " ++ (decimal (cond p.rts 1 0) ++ (codes " " ++ decimal (cond p.int 1 0))))

-- a call that is refused leaves the chip as it was
abbrev pub unless_refused : {T : Type 0} → Result T Cause → Acc → Acc → Acc
unless_refused (Ok x) after before = after
unless_refused (Err c) after before = before

-- the chip was reset less than 11 φ clocks ago
abbrev pub recovering : Acc → Bool
recovering e = nat_lt 0 e.recovery.0

-- a transfer has at most 16 bits
abbrev pub transfer : ℕ → ℕ
transfer n = cond (nat_lt n 16) n 16

-- n bits of a number, lowest first, written upward from an address, each under the flags that stand then
unfoldable pub bits_written : ℕ → ℕ → ℕ → Acc → Acc
bits_written zero a v e = e
bits_written (suc n) a v e = bits_written n (a + 1) (v / 2) (write_of a (v % 2 == 1) e)

abbrev pub put_checked : Acc → Result (Unit {0}) Cause
put_checked e = cond (recovering e) (Err Recovering) (Ok tt)

unfoldable pub put_answer : Acc → Result (Unit {0}) Cause
put_answer e = put_checked e

abbrev pub put_done : ℕ → ℕ → ℕ → Acc → Acc
put_done a n v e = unless_refused (put_checked e) (bits_written (transfer n) a v e) e

unfoldable pub put_of : ℕ → ℕ → ℕ → Acc → Acc
put_of a n v e = put_done a n v e

abbrev pub get_checked : ℕ → ℕ → Acc → Result ℕ Cause
get_checked a n e = cond (recovering e) (Err Recovering) (Ok (bits_read (transfer n) a e))

unfoldable pub get_answer : ℕ → ℕ → Acc → Result ℕ Cause
get_answer a n e = get_checked a n e

-- load puts a character into the transmit buffer and resets XBRE
abbrev pub load_checked : Acc → Result (Unit {0}) Cause
load_checked e =
    cond (recovering e) (Err Recovering) (cond (flag e) (Err BufferNotEnabled) (cond e.transmitter.xbre (Ok tt) (Err BufferFull)))

unfoldable pub load_answer : Acc → Result (Unit {0}) Cause
load_answer e = load_checked e

abbrev pub load_done : ℕ → Acc → Acc
load_done c e = unless_refused (load_checked e) (with_transmitter (buffer_loaded c e.transmitter) e) e

unfoldable pub load_of : ℕ → Acc → Acc
load_of c e = load_done c e

-- a received character as people read it: its number, and RFER, ROVER and RPER as 0 or 1
abbrev pub received_text : Received → List ℕ
received_text r =
    decimal r.character ++ (codes " " ++ (decimal (cond r.rfer 1 0) ++ (codes " " ++ (decimal (cond r.rover 1 0) ++ (codes " " ++ decimal (cond r.rper 1 0))))))

-- take answers the character with RFER, ROVER and RPER, and resets RBRL
abbrev pub received_of : Acc → Received
received_of e = record { character = e.receiver.buffer; rfer = e.receiver.rfer; rover = e.receiver.rover; rper = e.receiver.rper }

abbrev pub take_checked : Acc → Result Received Cause
take_checked e = cond (recovering e) (Err Recovering) (cond e.receiver.rbrl (Ok (received_of e)) (Err NothingReceived))

unfoldable pub take_answer : Acc → Result Received Cause
take_answer e = take_checked e

abbrev pub take_done : Acc → Acc
take_done e = unless_refused (take_checked e) (with_receiver (released e.receiver) e) e

unfoldable pub take_of : Acc → Acc
take_of e = take_done e
