-- The law of faithful transmission, over whole runs of a bench just opened over any clear cable, whatever its delays and flips. Assumes nothing.
use Rattle.std.specs.Prelude.{◌≡◌, ℕ, ◌+◌, ◌*◌, ◌≤◌, Bool, true, cond, not, ◌&&◌, ◌||◌, List, [], ◌∷◌, ◌++◌, length, is_ok, Some, ◌==◌}
use Rattle.faults.specs.declared.End.{End}
use Rattle.faults.specs.declared.End.TheVariants as end
use Rattle.faults.specs.Faults.{end_number}
use Rattle.timing.specs.declared.registers.Format.{Format}
use Rattle.timing.specs.Calls.{deadline_of, deadline_half_bits}
use Rattle.timing.specs.Counts.{q}
use Rattle.timing.specs.Registers.{samples, control_of, half_count}
use Rattle.cable.specs.declared.direction.Direction.{Direction}
use Rattle.cable.specs.declared.direction.Direction.TheVariants.{TowardB, TowardA}
use Rattle.cable.specs.Channels.{Channel, Channels, channel, is_clear}
use Rattle.cable.specs.Turnings.{is_inverted, flip_arrives}
use Rattle.sections.specs.Receive.{rsbd}
use Rattle.sections.specs.Transmit.{xsre}
use Rattle.acc.specs.declared.chip.Registers.{Registers}
use Rattle.acc.specs.Clock.{fires}
use Rattle.pair.specs.declared.event.Event.{Event}
use Rattle.pair.specs.Bench.{Bench, chip}
use Rattle.pair.specs.Calls.{Opening, opened, started, load_reply, moment_reply}
use Rattle.pair.specs.Moment.{is_write, after_rank_2}
use Rattle.pair.specs.Runs.{Stored, Call, load, take, moment, history, Run, start_of, after, run}
use Rattle.pair.specs.Copies.{stored_in, nth, Copy, StoredIsLoadedInOrder, OverrunTellsAnUntakenCharacter, TakeAnswersTheLastStoredOnce}

abbrev pub opposite : End → End
opposite end.A = end.B
opposite end.B = end.A

-- the direction that ends there
abbrev pub direction_to : End → Direction
direction_to end.A = TowardA
direction_to end.B = TowardB

abbrev pub channel_to : End → Bench → Channel
channel_to e m = channel (direction_to e) m.channels

-- What a run must keep to. First: it writes only RTSON, XBIENB, TIMENB and DSCENB, the output bits 16, 19, 20 and 21.
abbrev pub bit_allowed : ℕ → Bool
bit_allowed a = a == 16 || (a == 19 || (a == 20 || a == 21))

unfoldable pub writes_allowed_bits : List Event → Bool
writes_allowed_bits [] = true
writes_allowed_bits (v ∷ vs) = (not (is_write v) || bit_allowed v.address) && writes_allowed_bits vs

-- Second: every flip that arrives falls inside a character, that is, at a later clock than a start sample of space at the end reached and at an
-- earlier one than the stop sample due after it. RSBD is 1 from the clock of such a start sample up to that of the stop sample, so it is 1 before
-- the clock and still after it. o is the bench as open left it; the step of a moment is numbered by the moments since open.
abbrev pub falls_inside_a_character : Bench → End → List Event → Run → Bool
falls_inside_a_character o e vs r =
    not (flip_arrives (channel_to e o) r.time) || (rsbd (chip e r.bench).receiver && rsbd (chip e (after_rank_2 vs r.bench)).receiver)

-- refused calls, loads and takes are free, and so are DSR settings
abbrev pub call_allowed : Bench → Call → Run → Bool
call_allowed o (load e c) r = true
call_allowed o (take e) r = true
call_allowed o (moment vs) r =
    not (is_ok (moment_reply vs r.bench)) || (writes_allowed_bits vs && (falls_inside_a_character o end.A vs r && falls_inside_a_character o end.B vs r))

unfoldable pub calls_allowed : Bench → List Call → Run → Bool
calls_allowed o [] r = true
calls_allowed o (c ∷ cs) r = call_allowed o c r && calls_allowed o cs (after c r)

-- the format in which an end sends
abbrev pub sent_format : End → Bench → Format
sent_format e m = (control_of (chip e m).registers.control).format

-- what a run has done at end e is what was loaded opposite, let through by the cable
pub record Faithful (o : Bench) (e : End) (r : Run) : Type 0 where
  pub in_order : StoredIsLoadedInOrder (sent_format (opposite e) o) (is_inverted (channel_to e o)) (history (opposite e) r).loaded (history e r).happened
  pub overruns : OverrunTellsAnUntakenCharacter (history e r).happened
  pub takes : TakeAnswersTheLastStoredOnce (history e r).happened

-- CTS of end e is active at its next internal clock, if these calls have one
unfoldable pub cts_at_next_internal_clock : End → List Call → Run → Bool
cts_at_next_internal_clock e [] r = true
cts_at_next_internal_clock e (load x c ∷ cs) r = cts_at_next_internal_clock e cs (after (load x c) r)
cts_at_next_internal_clock e (take x ∷ cs) r = cts_at_next_internal_clock e cs (after (take x) r)
cts_at_next_internal_clock e (moment vs ∷ cs) r =
    cond (is_ok (moment_reply vs r.bench) && fires (chip e r.bench))
    (chip e (after_rank_2 vs r.bench)).lines.cts
    (cts_at_next_internal_clock e cs (after (moment vs) r))

-- a character that is loaded at end e is sent at once: the load is accepted, so XBRE was 1, RTS is active, XSRE is 1, and CTS is active at
-- the next internal clock
pub record SentAtOnce (e : End) (c : ℕ) (cs : List Call) (r : Run) : Type 0 where
  pub accepted : is_ok (load_reply (end_number e) c r.bench) ≡ true
  pub rts : (chip e r.bench).lines.rts ≡ true
  pub empty : xsre (chip e r.bench).transmitter ≡ true
  pub cts : cts_at_next_internal_clock e cs (after (load e c) r) ≡ true

-- the n-th character stored at end e is a copy of c
abbrev pub IsStored : Bench → End → ℕ → ℕ → Run → Type 0
IsStored o e n c r = (s : Stored) × (nth (stored_in (history e r).happened) n ≡ Some s) × Copy (sent_format (opposite e) o) (is_inverted (channel_to e o)) c s

-- The law at end e of a bench that open left as o. In time: once t φ clocks have passed since the load of a character that is sent at once, it is
-- stored, as the one that it is among those loaded.
pub record LawAt (o : Bench) (e : End) (t : ℕ) : Type 0 where
  pub faithful : (cs : List Call) → calls_allowed o cs (start_of o) ≡ true → Faithful o e (run cs (start_of o))
  pub in_time :
      (cs : List Call) (c : ℕ) (ds : List Call) → calls_allowed o (cs ++ load (opposite e) c ∷ ds) (start_of o) ≡ true → SentAtOnce (opposite e) c ds (run cs (start_of o)) →
      (run cs (start_of o)).time + t ≤ (run (cs ++ load (opposite e) c ∷ ds) (start_of o)).time →
      IsStored o e (length (history (opposite e) (run cs (start_of o))).loaded) c (run (cs ++ load (opposite e) c ∷ ds) (start_of o))

-- the φ clocks of an internal clock of a board, and those of half a bit that it sends, and that it receives
abbrev pub q_at : Registers → ℕ
q_at g = q (control_of g.control).divider

abbrev pub sent_half_bit : Registers → ℕ
sent_half_bit g = half_count g.transmit_rate * q_at g

abbrev pub received_half_bit : Registers → ℕ
received_half_bit g = half_count g.receive_rate * q_at g

abbrev pub samples_of : Registers → ℕ
samples_of g = samples (control_of g.control).format

-- A board r receives what a board s sends: the format is the same, and whatever the phase, sample k falls into element k (0 is the start, L + P + 1
-- the stop), since 2k half-bits of the sender have passed at the earliest moment of the sample and 2k + 2 have not at the latest.
pub record Receives (s r : Registers) : Type 0 where
  pub same_format : (control_of r.control).format ≡ (control_of s.control).format
  pub not_early : (k : ℕ) → k ≤ samples_of s + 1 → 2 * k * sent_half_bit s ≤ (2 * k + 1) * received_half_bit r
  pub not_late : (k : ℕ) → k ≤ samples_of s + 1 → (2 * k + 1) * received_half_bit r + q_at r ≤ (2 * k + 2) * sent_half_bit s

-- the deadline from one board to another over a delay of d
abbrev pub deadline_between : Registers → Registers → ℕ → ℕ
deadline_between s r d = q_at s + d + q_at r + received_half_bit r * deadline_half_bits (control_of s.control).format

-- between any two boards of which one receives what the other sends, over any clear cable
abbrev pub TransmissionBetweenBoardsIsFaithful : Type 0
TransmissionBetweenBoardsIsFaithful =
    (a b : Registers) (c : Channels) (clock : ℕ) → is_clear c ≡ true → (e : End) →
    Receives (chip (opposite e) (started a b c clock)).registers (chip e (started a b c clock)).registers →
    LawAt (started a b c clock) e (deadline_between (chip (opposite e) (started a b c clock)).registers (chip e (started a b c clock)).registers (length (channel_to e (started a b c clock)).waiting))

-- the rate register of the direction that ends at e
abbrev pub rate_to : End → Opening → ℕ
rate_to end.A o = o.r
rate_to end.B o = o.x

-- the law at either end of the bench that an open left, with the deadline of each direction, in which D is the length of the list
abbrev pub LawFrom : Opening → Bench → Type 0
LawFrom o b = (e : End) → LawAt b e (deadline_of o.control (rate_to e o) (length (channel_to e b).waiting))

-- so it is for every bench that is opened over a clear cable
abbrev pub TransmissionIsFaithful : Type 0
TransmissionIsFaithful = (o : Opening) (m : Bench) → is_clear m.channels ≡ true → LawFrom o (opened o m)
