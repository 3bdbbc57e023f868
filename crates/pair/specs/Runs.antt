-- Runs: loads, takes and moments, which are what sends characters and receives them, made one after the other from a bench just opened; and
-- beside the bench a history of what became of the characters. The history is never part of the bench. Assumes nothing.
use Rattle.std.specs.Prelude.{ℕ, ◌+◌, Bool, false, cond, not, ◌&&◌, List, [], ◌∷◌, ◌++◌, is_ok, Ok, Err, Result, ◌==◌, nat_lt}
use Rattle.faults.specs.declared.End.{End}
use Rattle.faults.specs.declared.End.TheVariants as end
use Rattle.faults.specs.declared.Fault.{Fault}
use Rattle.faults.specs.Faults.{end_number}
use Rattle.timing.specs.Registers.{samples}
use Rattle.sections.specs.declared.receiver.Receiving.{Receiving}
use Rattle.sections.specs.declared.receiver.Receiving.TheVariants.{Idle, Half, Character}
use Rattle.sections.specs.Transmit.{runs_out}
use Rattle.acc.specs.declared.chip.Acc.{Acc}
use Rattle.acc.specs.declared.chip.Received.{Received}
use Rattle.acc.specs.Calls.{received_of}
use Rattle.acc.specs.Clock.{fires}
use Rattle.pair.specs.declared.event.Event.{Event}
use Rattle.pair.specs.Bench.{Bench, clocked}
use Rattle.pair.specs.Calls.{load_reply, load_done, take_reply, take_done, moment_reply, moment_done}
use Rattle.pair.specs.Moment.{with_both, set_all}

pub data Call : Type 0 where
  load : End → ℕ → Call
  take : End → Call
  moment : List Event → Call

-- a character as the receiver stored it, and the numbers of the cable's steps, from 0 at open, at whose clocks its samples were taken, lowest
-- bit first
pub record Stored : Type 0 where
  pub received : Received
  pub steps : List ℕ

-- what became of received characters, in order
pub data Happening : Type 0 where
  stored : Stored → Happening
  taken : Received → Happening

-- the history of one end: the characters that accepted loads put in, what became of those received, both newest first, and the steps of
-- the samples of the one that is coming in, oldest first
pub record History : Type 0 where
  pub loaded : List ℕ
  pub happened : List Happening
  pub sampled : List ℕ

abbrev pub no_history : History
no_history = record { loaded = []; happened = []; sampled = [] }

-- the bench, the moments since open, and the two histories
pub record Run : Type 0 where
  pub bench : Bench
  pub time : ℕ
  pub at_a : History
  pub at_b : History

abbrev pub start_of : Bench → Run
start_of m = record { bench = m; time = 0; at_a = no_history; at_b = no_history }

abbrev pub history : End → Run → History
history end.A r = r.at_a
history end.B r = r.at_b

abbrev pub with_history : End → History → Bench → Run → Run
with_history end.A h m r = record { bench = m; time = r.time; at_a = h; at_b = r.at_b }
with_history end.B h m r = record { bench = m; time = r.time; at_a = r.at_a; at_b = h }

-- an internal clock of a receiver at this state takes one of the L + P samples, the first of them, or the stop sample
abbrev pub samples_at : Receiving → Bool
samples_at Idle = false
samples_at (Half left) = false
samples_at (Character f left held taken_so_far) = runs_out left && nat_lt taken_so_far (samples f)

abbrev pub first_sample : Receiving → Bool
first_sample Idle = false
first_sample (Half left) = false
first_sample (Character f left held taken_so_far) = taken_so_far == 0

abbrev pub stops_at : Receiving → Bool
stops_at Idle = false
stops_at (Half left) = false
stops_at (Character f left held taken_so_far) = runs_out left && not (nat_lt taken_so_far (samples f))

-- a φ clock, by which a chip went from before to after, adds to a history; t is the number of the step. The samples of a character that a
-- reset cut short are forgotten at the first sample of the next.
abbrev pub clock_noted : ℕ → Acc → Acc → History → History
clock_noted t before after h =
    cond (fires before && stops_at before.receiver.state)
    (record { loaded = h.loaded; happened = stored (record { received = received_of after; steps = h.sampled }) ∷ h.happened; sampled = [] })
    (cond (fires before && samples_at before.receiver.state)
    (record { loaded = h.loaded; happened = h.happened; sampled = cond (first_sample before.receiver.state) [] h.sampled ++ t ∷ [] })
    h)

-- a moment that is accepted; what is stored is noted before the writes of that moment
abbrev pub moment_noted : List Event → Run → Run
moment_noted vs r =
    let before = with_both (λ e. set_all e vs) r.bench in
    let after = clocked before in
    record {
      bench = moment_done vs r.bench;
      time = r.time + 1;
      at_a = clock_noted r.time before.a after.a r.at_a;
      at_b = clock_noted r.time before.b after.b r.at_b;
    }

abbrev pub load_noted : End → ℕ → Run → Run
load_noted e c r =
    let h = history e r in
    with_history e (record { loaded = c ∷ h.loaded; happened = h.happened; sampled = h.sampled }) (load_done (end_number e) c r.bench) r

abbrev pub take_noted : End → Result Received Fault → Run → Run
take_noted e (Ok x) r =
    let h = history e r in
    with_history e (record { loaded = h.loaded; happened = taken x ∷ h.happened; sampled = h.sampled }) (take_done (end_number e) r.bench) r
take_noted e (Err f) r = r

-- one call; a refused one changes nothing
unfoldable pub after : Call → Run → Run
after (load e c) r = cond (is_ok (load_reply (end_number e) c r.bench)) (load_noted e c r) r
after (take e) r = take_noted e (take_reply (end_number e) r.bench) r
after (moment vs) r = cond (is_ok (moment_reply vs r.bench)) (moment_noted vs r) r

-- a list of calls, the first one first
unfoldable pub run : List Call → Run → Run
run [] r = r
run (c ∷ cs) r = run cs (after c r)
