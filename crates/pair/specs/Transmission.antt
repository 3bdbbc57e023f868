-- Worked examples of transmission in whole runs, as one theorem. Assumes nothing.
use Rattle.std.specs.Prelude.{◌≡◌, ℕ, Bool, true, false, ◌&&◌, List, [], ◌∷◌, ◌++◌, map, replicate, is_ok, Some, Ok, Err}
use Rattle.faults.specs.Faults.{end_number, unplaced}
use Rattle.timing.specs.Calls.{deadline_of}
use Rattle.sections.specs.Transmit.{xsre}
use Rattle.faults.specs.declared.Cause.TheVariants.{NothingReceived, NoSuchEnd, OutOfRange}
use Rattle.faults.specs.declared.End.{End}
use Rattle.faults.specs.declared.End.TheVariants as end
use Rattle.cable.specs.Channels.{Flip, Channel, Channels}
use Rattle.cable.specs.Turnings.{turnings}
use Rattle.acc.specs.declared.chip.Received.{Received}
use Rattle.acc.specs.Calls.{opened_chip}
use Rattle.pair.specs.Bench.{Bench, chip, at_place}
use Rattle.pair.specs.Runs.{Stored, Run, Call, load, moment, history, after, run, start_of}
use Rattle.pair.specs.Rows.{flipped_cable, fastest, fresh, at_step, sets_bit, calls, open_bench, refused_at}
use Rattle.pair.specs.Copies.{stored_in}
use Rattle.pair.specs.Law.{calls_allowed, cts_at_next_internal_clock}
use Rattle.pair.specs.Calls.{Opening, registers_of, open_of, load_reply, take_reply, take_done, put_reply, get_reply, moment_done}

-- one pair waits; two flips turn over the pair of step 5, and one that of step 7
abbrev pub two_flips : Channel
two_flips = record { waiting = (true, false) ∷ []; flips = record { place = 1; position = 5 } ∷ record { place = 0; position = 7 } ∷ record { place = 0; position = 5 } ∷ [] }

-- the same calls over a cable with flips toward B, and what the law asks of them
abbrev pub allowed_with : List Flip → Bool
allowed_with fs = calls_allowed (open_of fastest (fresh fs)) calls (start_of (open_of fastest (fresh fs)))

-- The start sample is that of step 8 and the stop sample that of step 62, so a flip that arrives at steps 9 to 61 falls inside the character, and one
-- that arrives at step 8 or 62 does not. A flip at place 1 of a cable with one pair waiting arrives at its position too, as a second one at place 0 does.
abbrev pub ConditionRows : Type 0
ConditionRows =
    (allowed_with [] ≡ true)
    × (allowed_with (at_step 8) ≡ false)
    × (allowed_with (at_step 9) ≡ true)
    × (allowed_with (at_step 61) ≡ true)
    × (allowed_with (at_step 62) ≡ false)
    × (map (turnings two_flips) (4 ∷ 5 ∷ 6 ∷ 7 ∷ []) ≡ 0 ∷ 2 ∷ 0 ∷ 1 ∷ [])

-- Transmission within runs. A first moment sets RTS at both ends, and two more bring the dividers to 0 again; then a character is loaded at an
-- end, and n moments follow.
abbrev pub first_moments : List Call
first_moments = moment (sets_bit 0 16 ∷ sets_bit 1 16 ∷ []) ∷ moment [] ∷ moment [] ∷ []

abbrev pub bench_with : Opening → Channels → Bench
bench_with o c = open_of o (record { a = opened_chip (registers_of o 0 0); b = opened_chip (registers_of o 0 0); channels = c; clock = 0; is_open = false })

-- the run up to the load, and the calls from it on
abbrev pub before_load : Opening → Channels → Run
before_load o c = run first_moments (start_of (bench_with o c))

abbrev pub whole_run : Opening → Channels → End → ℕ → ℕ → Run
whole_run o c e v n = run (first_moments ++ load e v ∷ replicate n (moment [])) (start_of (bench_with o c))

-- the load finds all that makes the character be sent at once
abbrev pub sent_at_once : Opening → Channels → End → ℕ → ℕ → Bool
sent_at_once o c e v n =
    is_ok (load_reply (end_number e) v (before_load o c).bench)
    && ((chip e (before_load o c).bench).lines.rts
    && (xsre (chip e (before_load o c).bench).transmitter && cts_at_next_internal_clock e (replicate n (moment [])) (after (load e v) (before_load o c))))

abbrev pub received_at : End → Run → List Received
received_at e r = map (λ (s : Stored). s.received) (stored_in (history e r).happened)

abbrev pub answer : ℕ → Bool → Received
answer c rper = record { character = c; rfer = false; rover = false; rper = rper }

-- the deadline of 63 is met at the last moment: control 131, rates 1, straight cable, from A to B
abbrev pub InTimeRows : Type 0
InTimeRows =
    (sent_at_once fastest (flipped_cable []) end.A 65 63 ≡ true)
    × (deadline_of 131 1 0 ≡ 63)
    × (received_at end.B (whole_run fastest (flipped_cable []) end.A 65 62) ≡ [])
    × (received_at end.B (whole_run fastest (flipped_cable []) end.A 65 63) ≡ answer 65 false ∷ [])

-- toward A, at rate 2, while A sends at rate 1: the deadline of 120 is met at the last moment
abbrev pub slower_back : Opening
slower_back = record { start = 0; control = 131; x = 1; r = 2; interval = 0 }

abbrev pub BackRows : Type 0
BackRows =
    (sent_at_once slower_back (flipped_cable []) end.B 90 120 ≡ true)
    × (deadline_of 131 2 0 ≡ 120)
    × (received_at end.A (whole_run slower_back (flipped_cable []) end.B 90 119) ≡ [])
    × (received_at end.A (whole_run slower_back (flipped_cable []) end.B 90 120) ≡ answer 90 false ∷ [])

-- 7 data bits and even parity, over one waiting pair toward B and these flips: the sample of bit 0 is that of step 17, the parity sample that of step 59
abbrev pub even_parity : Opening
even_parity = record { start = 0; control = 162; x = 1; r = 1; interval = 0 }

abbrev pub delayed_cable : List Flip → Channels
delayed_cable fs = record { toward_b = record { waiting = (true, false) ∷ []; flips = fs }; toward_a = record { waiting = []; flips = [] } }

abbrev pub flip : ℕ → ℕ → Flip
flip place position = record { place = place; position = position }

abbrev pub with_flips : List Flip → List Received
with_flips fs = received_at end.B (whole_run even_parity (delayed_cable fs) end.A 65 63)

abbrev pub allowed_with_flips : List Flip → Bool
allowed_with_flips fs =
    calls_allowed (bench_with even_parity (delayed_cable fs)) (first_moments ++ load end.A 65 ∷ replicate 63 (moment [])) (start_of (bench_with even_parity (delayed_cable fs)))

abbrev pub ParityRows : Type 0
ParityRows =
    (with_flips [] ≡ answer 65 false ∷ [])
    × (with_flips (flip 1 17 ∷ []) ≡ answer 64 true ∷ [])
    × (with_flips (flip 1 17 ∷ flip 0 17 ∷ []) ≡ answer 65 false ∷ [])
    × (with_flips (flip 0 59 ∷ []) ≡ answer 65 true ∷ [])
    × (allowed_with_flips (flip 1 17 ∷ flip 0 17 ∷ flip 0 59 ∷ []) ≡ true)

-- two characters of which the first is not taken: the second shows the overrun. The second is loaded as soon as the buffer is free.
abbrev pub two_loads : List Call
two_loads = first_moments ++ load end.A 65 ∷ (replicate 3 (moment []) ++ load end.A 66 ∷ replicate 120 (moment []))

abbrev pub OverrunRow : Type 0
OverrunRow =
    received_at end.B (run two_loads (start_of (open_of fastest (fresh []))))
    ≡ record { character = 66; rfer = false; rover = true; rper = false } ∷ answer 65 false ∷ []

-- where only A has RTS on, CTS of A is inactive at its internal clock, and nothing is sent
abbrev pub NoCtsRow : Type 0
NoCtsRow =
    (received_at end.B (run (moment (sets_bit 0 16 ∷ []) ∷ load end.A 65 ∷ replicate 80 (moment [])) (start_of (open_of fastest (fresh [])))) ≡ [])
    × (cts_at_next_internal_clock end.A (replicate 4 (moment [])) (run (moment (sets_bit 0 16 ∷ []) ∷ load end.A 65 ∷ []) (start_of (open_of fastest (fresh [])))) ≡ false)

-- a write takes effect after the clock of its moment: RTS that is set in a moment is carried by the cable in the next
abbrev pub WriteRow : Type 0
WriteRow =
    ((moment_done (sets_bit 0 16 ∷ []) (open_of fastest (fresh []))).b.lines.cts ≡ false)
    × ((moment_done [] (moment_done (sets_bit 0 16 ∷ []) (open_of fastest (fresh [])))).b.lines.cts ≡ true)

-- odd parity, and a character that is taken once and not again
abbrev pub odd_parity : Opening
odd_parity = record { start = 0; control = 178; x = 1; r = 1; interval = 0 }

abbrev pub OddRow : Type 0
OddRow = received_at end.B (whole_run odd_parity (flipped_cable []) end.A 65 63) ≡ answer 65 false ∷ []

abbrev pub TakeRow : Type 0
TakeRow = take_reply 1 (take_done 1 (whole_run fastest (flipped_cable []) end.A 65 63).bench) ≡ Err (at_place 0 (Some end.B) NothingReceived)

abbrev pub TransmissionRows : Type 0
TransmissionRows = InTimeRows × BackRows × ParityRows × OddRow × TakeRow × OverrunRow × NoCtsRow × WriteRow

-- put at address 31 and at 32
abbrev pub PutRows : Type 0
PutRows =
    (put_reply 0 31 1 1 open_bench ≡ Ok tt)
    × (put_reply 0 32 1 1 open_bench ≡ refused_at 0 end.A OutOfRange)
    × (put_reply 1 16 16 0 open_bench ≡ Ok tt)
    × (put_reply 1 17 16 0 open_bench ≡ refused_at 0 end.B OutOfRange)
    × (get_reply 0 21 3 open_bench ≡ Ok 6)
    × (get_reply 2 0 1 open_bench ≡ Err (unplaced NoSuchEnd))

abbrev pub FurtherRows : Type 0
FurtherRows = ConditionRows × TransmissionRows × PutRows
