-- Worked examples of whole calls, as one theorem. Assumes nothing.
use Rattle.std.specs.Prelude.{◌≡◌, ℕ, false, List, [], ◌∷◌, map, replicate, Some, Ok, Err, Result}
use Rattle.faults.specs.declared.Cause.TheVariants.{NothingReceived, OutOfRange, TooManyEvents, RepeatedDsr, Recovering}
use Rattle.faults.specs.declared.Cause.{Cause}
use Rattle.faults.specs.declared.End.{End}
use Rattle.faults.specs.declared.End.TheVariants as end
use Rattle.faults.specs.declared.Fault.{Fault}
use Rattle.cable.specs.Channels.{Flip, Channels}
use Rattle.acc.specs.declared.chip.Received.{Received}
use Rattle.acc.specs.Calls.{opened_chip}
use Rattle.pair.specs.declared.event.Event.{Event}
use Rattle.pair.specs.Bench.{Bench, at_place}
use Rattle.pair.specs.Moment.{served_list}
use Rattle.pair.specs.Runs.{Call, load, moment, stored, run, start_of}
use Rattle.pair.specs.Calls.{Opening, registers_of, open_of, put_done, load_done, take_reply, put_reply, moment_reply, moment_done, moments_done}

-- nothing waits either way, and these flips lie ahead toward B
abbrev pub flipped_cable : List Flip → Channels
flipped_cable fs = record { toward_b = record { waiting = []; flips = fs }; toward_a = record { waiting = []; flips = [] } }

-- 8 data bits, no parity, one stop bit, the fastest rate both ways
abbrev pub fastest : Opening
fastest = record { start = 0; control = 131; x = 1; r = 1; interval = 0 }

-- some bench over that cable, which open then sets up
abbrev pub fresh : List Flip → Bench
fresh fs = record {
  a = opened_chip (registers_of fastest 0 0);
  b = opened_chip (registers_of fastest 0 0);
  channels = flipped_cable fs;
  clock = 0;
  is_open = false;
}

-- open, RTS on at both ends, and 65 loaded at A; then n moments, and B is asked for a character
abbrev pub taken_after : ℕ → List Flip → Result Received Fault
taken_after n fs = take_reply 1 (moments_done n (load_done 0 65 (put_done 1 16 1 1 (put_done 0 16 1 1 (open_of fastest (fresh fs))))))

abbrev pub plain : ℕ → Result Received Fault
plain c = Ok (record { character = c; rfer = false; rover = false; rper = false })

-- a flip that turns over the pair of step n
abbrev pub at_step : ℕ → List Flip
at_step n = record { place = 0; position = n } ∷ []

-- nothing is stored after 62 moments, 65 after 63; a flip on the sample of bit 0, which step 14 hands out, gives 64, and one beside it 65
abbrev pub CallRows : Type 0
CallRows =
    (taken_after 62 [] ≡ Err (at_place 0 (Some end.B) NothingReceived))
    × (taken_after 63 [] ≡ plain 65)
    × (taken_after 63 (at_step 14) ≡ plain 64)
    × (taken_after 63 (at_step 13) ≡ plain 65)

-- a write of 1 to an output bit
abbrev pub sets_bit : ℕ → ℕ → Event
sets_bit e address = record { end = e; kind = 1; address = address; value = 1; served = 0 }

-- RTS on at both ends by the events of a first moment, 65 loaded at A, and 62 moments more
abbrev pub calls : List Call
calls = moment (sets_bit 0 16 ∷ sets_bit 1 16 ∷ []) ∷ load end.A 65 ∷ replicate 62 (moment [])

-- the same as a run: B's history has the character, with the steps of its eight samples
abbrev pub RunRow : Type 0
RunRow =
    (run calls (start_of (open_of fastest (fresh [])))).at_b.happened
    ≡ stored (record { received = record { character = 65; rfer = false; rover = false; rper = false }; steps = 14 ∷ 20 ∷ 26 ∷ 32 ∷ 38 ∷ 44 ∷ 50 ∷ 56 ∷ [] }) ∷ []

-- a bench that was just opened
abbrev pub open_bench : Bench
open_bench = open_of fastest (fresh [])

-- an event of these numbers, not served yet
abbrev pub event : ℕ → ℕ → ℕ → ℕ → Event
event e kind address value = record { end = e; kind = kind; address = address; value = value; served = 0 }

abbrev pub refused_at : ℕ → End → Cause → Result (Unit {0}) Fault
refused_at i e c = Err (at_place i (Some e) c)

-- a write to address 31 is accepted and one to 32 refused; 32 events are accepted and a list of 33 refused at the last; a second setting of
-- one end's DSR is refused, and so is a write behind a reset of its end
abbrev pub MomentRows : Type 0
MomentRows =
    (moment_reply (event 0 1 31 1 ∷ []) open_bench ≡ Ok tt)
    × (moment_reply (event 0 0 0 1 ∷ event 1 1 32 1 ∷ []) open_bench ≡ refused_at 1 end.B OutOfRange)
    × (moment_reply (replicate 32 (event 0 1 19 1)) open_bench ≡ Ok tt)
    × (moment_reply (replicate 33 (event 1 1 19 1)) open_bench ≡ refused_at 32 end.B TooManyEvents)
    × (moment_reply (event 0 0 99 1 ∷ event 1 0 99 1 ∷ event 0 0 99 1 ∷ []) open_bench ≡ refused_at 2 end.A RepeatedDsr)
    × (moment_reply (event 0 1 31 1 ∷ event 1 1 19 1 ∷ event 0 0 0 1 ∷ event 0 1 19 1 ∷ []) open_bench ≡ refused_at 3 end.A Recovering)

-- after a reset, 10 further moments are too few for a put and 11 enough
abbrev pub reset_bench : Bench
reset_bench = moment_done (event 0 1 31 1 ∷ []) open_bench

abbrev pub RecoveryRows : Type 0
RecoveryRows =
    (put_reply 0 16 1 1 (moments_done 10 reset_bench) ≡ refused_at 0 end.A Recovering)
    × (put_reply 0 16 1 1 (moments_done 11 reset_bench) ≡ Ok tt)
    × (moment_reply (event 0 1 16 1 ∷ []) (moments_done 9 reset_bench) ≡ refused_at 0 end.A Recovering)
    × (moment_reply (event 0 1 16 1 ∷ []) (moments_done 10 reset_bench) ≡ Ok tt)

-- the serving number of each event
abbrev pub numbers : List Event → List ℕ
numbers vs = map (λ (v : Event). v.served) (served_list vs)

-- DSR settings are served first, then the writes at A, then those at B, each in list order
abbrev pub ServingRow : Type 0
ServingRow = numbers (event 1 1 19 1 ∷ event 0 1 19 1 ∷ event 1 0 0 1 ∷ event 0 1 20 0 ∷ event 0 0 0 0 ∷ event 1 1 21 1 ∷ []) ≡ 5 ∷ 3 ∷ 1 ∷ 4 ∷ 2 ∷ 6 ∷ []

abbrev pub Rows : Type 0
Rows = CallRows × RunRow × MomentRows × RecoveryRows × ServingRow
