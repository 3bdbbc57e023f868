-- The calls of a bench: what each answers, and what it leaves. A refused call leaves the bench, its cable and the list as they
-- were. Assumes nothing.
use Rattle.std.specs.Prelude.{ℕ, zero, suc, ◌+◌, Bool, true, cond, ◌&&◌, List, [], Some, None, Ok, Err, Option, Result, nat_le, nat_lt}
use Rattle.faults.specs.declared.Cause.{Cause}
use Rattle.faults.specs.declared.Cause.TheVariants.{NoSuchEnd, OutOfRange, CableNotClear, NotOpen, ClockLimit}
use Rattle.faults.specs.declared.End.{End}
use Rattle.faults.specs.declared.Fault.{Fault}
use Rattle.faults.specs.Faults.{unplaced}
use Rattle.timing.specs.Calls.{control_fits, rate_fits}
use Rattle.cable.specs.Channels.{Channels, is_clear}
use Rattle.acc.specs.declared.chip.Acc.{Acc}
use Rattle.acc.specs.declared.chip.Received.{Received}
use Rattle.acc.specs.declared.chip.Registers.{Registers}
use Rattle.acc.specs.Calls.{opened_chip, put_answer, put_of, get_answer, load_answer, load_of, take_answer, take_of}
use Rattle.pair.specs.declared.event.Event.{Event}
pub use Rattle.pair.specs.declared.opening.Opening.{Opening}
use Rattle.pair.specs.Bench.{Bench, chip, with_chip, end_of, at_place, last_clock}
use Rattle.pair.specs.Moment.{moment_refusal, moved, served_list}

abbrev pub opening_fits : Opening → Bool
opening_fits o = nat_le o.start last_clock && (control_fits o.control && (rate_fits o.x && (rate_fits o.r && nat_le o.interval 255)))

-- A sends at x and receives at r, B the reverse
abbrev pub registers_of : Opening → ℕ → ℕ → Registers
registers_of o send receive = record { control = o.control; interval = o.interval; receive_rate = receive; transmit_rate = send }

-- two chips just opened with these registers, A's first, over a cable, at a clock
abbrev pub started : Registers → Registers → Channels → ℕ → Bench
started a b c clock = record { a = opened_chip a; b = opened_chip b; channels = c; clock = clock; is_open = true }

-- the cable is kept
abbrev pub opened : Opening → Bench → Bench
opened o m = record {
  a = opened_chip (registers_of o o.x o.r);
  b = opened_chip (registers_of o o.r o.x);
  channels = m.channels;
  clock = o.start;
  is_open = true;
}

abbrev pub open_answer : Opening → Bench → Result (Unit {0}) Fault
open_answer o m =
    cond (opening_fits o) (cond (is_clear m.channels) (Ok tt) (Err (unplaced CableNotClear))) (Err (unplaced OutOfRange))

-- what a call leaves
abbrev pub after_call : {T : Type 0} → Result T Fault → Bench → Bench → Bench
after_call (Ok x) after before = after
after_call (Err f) after before = before

abbrev pub open_of : Opening → Bench → Bench
open_of o m = after_call (open_answer o m) (opened o m) m

-- a refusal of a chip, with its end
abbrev pub at_end : {T : Type 0} → End → Result T Cause → Result T Fault
at_end e (Ok x) = Ok x
at_end e (Err c) = Err (at_place 0 (Some e) c)

-- a call to one end: 4, then 5, then 9, then what the chip says
abbrev pub asked : {T : Type 0} → Option End → Bool → (Acc → Result T Cause) → Bench → Result T Fault
asked None fits ask m = Err (unplaced NoSuchEnd)
asked (Some e) fits ask m =
    cond fits (cond m.is_open (at_end e (ask (chip e m))) (Err (at_place 0 (Some e) NotOpen))) (Err (at_place 0 (Some e) OutOfRange))

abbrev pub done_at : Option End → (Acc → Acc) → Bench → Bench
done_at None f m = m
done_at (Some e) f m = with_chip e (f (chip e m)) m

abbrev pub load_reply : ℕ → ℕ → Bench → Result (Unit {0}) Fault
load_reply e c m = asked (end_of e) (nat_le c 255) load_answer m

abbrev pub load_done : ℕ → ℕ → Bench → Bench
load_done e c m = after_call (load_reply e c m) (done_at (end_of e) (load_of c) m) m

abbrev pub take_reply : ℕ → Bench → Result Received Fault
take_reply e m = asked (end_of e) true take_answer m

abbrev pub take_done : ℕ → Bench → Bench
take_done e m = after_call (take_reply e m) (done_at (end_of e) take_of m) m

-- 1 to 16 bits that do not pass address 31
abbrev pub span_fits : ℕ → ℕ → Bool
span_fits address count = nat_le 1 count && (nat_le count 16 && nat_le (address + count) 32)

abbrev pub put_reply : ℕ → ℕ → ℕ → ℕ → Bench → Result (Unit {0}) Fault
put_reply e address count value m = asked (end_of e) (span_fits address count && nat_le value 65535) put_answer m

abbrev pub put_done : ℕ → ℕ → ℕ → ℕ → Bench → Bench
put_done e address count value m = after_call (put_reply e address count value m) (done_at (end_of e) (put_of address count value) m) m

abbrev pub get_reply : ℕ → ℕ → ℕ → Bench → Result ℕ Fault
get_reply e address count m = asked (end_of e) (span_fits address count) (get_answer address count) m

-- a moment
abbrev pub refused_or_done : Option Fault → Result (Unit {0}) Fault
refused_or_done (Some f) = Err f
refused_or_done None = Ok tt

abbrev pub moment_reply : List Event → Bench → Result (Unit {0}) Fault
moment_reply vs m = refused_or_done (moment_refusal vs m)

abbrev pub moment_done : List Event → Bench → Bench
moment_done vs m = after_call (moment_reply vs m) (moved vs m) m

-- the list that a moment leaves
abbrev pub list_after : Result (Unit {0}) Fault → List Event → List Event
list_after (Ok x) vs = served_list vs
list_after (Err f) vs = vs

-- n moments without events, at most 100,000, as one call: all of them or none
unfoldable pub moves : ℕ → Bench → Bench
moves zero m = m
moves (suc n) m = moves n (moved [] m)

abbrev pub moments_reply : ℕ → Bench → Result (Unit {0}) Fault
moments_reply n m = cond (nat_lt 100000 n) (Err (unplaced OutOfRange)) (cond m.is_open (cond (nat_le (m.clock + n) last_clock) (Ok tt) (Err (unplaced ClockLimit))) (Err (unplaced NotOpen)))

abbrev pub moments_done : ℕ → Bench → Bench
moments_done n m = after_call (moments_reply n m) (moves n m) m
