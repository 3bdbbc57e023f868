-- What the order within a moment means, and that n moments without events are n moments. Assumes nothing.
use Rattle.std.specs.Prelude.{◌≡◌, ℕ, Bool, true, false, not, ◌&&◌, ◌||◌, List, [], ◌∷◌, replicate, is_ok, ◌==◌}
use Rattle.faults.specs.declared.End.{End}
use Rattle.sections.specs.declared.receiver.Receiver.{Receiver}
use Rattle.sections.specs.Receive.{listen}
use Rattle.acc.specs.declared.chip.Received.{Received}
use Rattle.acc.specs.Clock.{fires}
use Rattle.pair.specs.declared.event.Event.{Event}
use Rattle.pair.specs.Bench.{Bench, chip}
use Rattle.pair.specs.Calls.{moments_reply, moments_done}
use Rattle.pair.specs.Moment.{write_at, moved}
use Rattle.pair.specs.Runs.{Run, moment, stops_at, run}

-- the next φ clock is that of a stop sample at end e
abbrev pub stop_sample_due : End → Bench → Bool
stop_sample_due e m = fires (chip e m) && stops_at (chip e m).receiver.state

-- one of the events writes this output bit of end e
unfoldable pub writes_bit : ℕ → End → List Event → Bool
writes_bit a e [] = false
writes_bit a e (v ∷ vs) = (write_at e v && v.address == a) || writes_bit a e vs

-- A moment in which a stop sample is due shows an overrun, whatever it writes short of a reset: ROVER is afterwards the RBRL that stood before it. RBRL
-- is then 1, unless bit 18 was written.
abbrev pub OverrunsShow : List Event → Bench → Bench → Type 0
OverrunsShow vs before after =
    (e : End) → stop_sample_due e before ≡ true → writes_bit 31 e vs ≡ false →
    ((chip e after).receiver.rover ≡ (chip e before).receiver.rbrl) × ((chip e after).receiver.rbrl ≡ not (writes_bit 18 e vs))

-- so a write in the moment of a stop sample cannot hide an overrun
abbrev pub WritesCannotHideAnOverrun : Type 0
WritesCannotHideAnOverrun = (vs : List Event) (m : Bench) → OverrunsShow vs m (moved vs m)

-- n moments without events, as one call that is accepted, leave the bench that n calls of one such moment leave
abbrev pub MomentsAreSingleMoments : Type 0
MomentsAreSingleMoments = (n : ℕ) (r : Run) → is_ok (moments_reply n r.bench) ≡ true → (run (replicate n (moment [])) r).bench ≡ moments_done n r.bench

-- what a receiver holds for the processor: the character with its flags, and RBRL
abbrev pub held_for_the_processor : Receiver → Received × Bool
held_for_the_processor r = (record { character = r.buffer; rfer = r.rfer; rover = r.rover; rper = r.rper }, r.rbrl)

-- A receiver stores a character exactly at the internal clocks that a history notes as stop samples: at no other does what it holds change, and at
-- these RBRL is set and ROVER tells the RBRL before it.
abbrev pub StoredExactlyAtStopSamples : Type 0
StoredExactlyAtStopSamples =
    (control rate : ℕ) (level : Bool) (r : Receiver) →
    (stops_at r.state ≡ false → held_for_the_processor (listen control rate level r) ≡ held_for_the_processor r)
    × (stops_at r.state ≡ true → ((listen control rate level r).rover ≡ r.rbrl) × ((listen control rate level r).rbrl ≡ true))
