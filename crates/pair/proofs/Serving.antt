-- What the order within a moment means. Assumes nothing.
use Rattle.std.proofs.Common.{◌≡◌, ℕ, zero, suc, ◌+◌, ◌<◌, ◌≤◌, Bool, true, false, cond, not, ◌&&◌, eqb, List, [], ◌∷◌, replicate, is_ok, sym, refl, ap, ◌∙◌, subst, arith}
use Rattle.std.proofs.lemmas.Bool.Decides.{nat_tests}
use Rattle.std.proofs.lemmas.Bool.{and_parts, lt-leb}
use Rattle.faults.specs.declared.End.{End}
use Rattle.sections.specs.declared.receiver.Receiving.{Receiving}
use Rattle.sections.specs.declared.receiver.Receiver.{Receiver}
use Rattle.sections.specs.Receive.{released, listen, heard}
use Rattle.acc.specs.declared.chip.Acc.{Acc}
use Rattle.acc.specs.Clock.{fires, clock_of}
use Rattle.acc.specs.Outputs.{write_of, low_written, flag_written, mode_written}
use Rattle.pair.specs.declared.event.Event.{Event}
use Rattle.pair.specs.Bench.{Bench, chip, last_clock}
use Rattle.pair.specs.Calls.{moves, moment_reply, moment_done}
use Rattle.pair.specs.Moment.{write_at, level_of, set_all, write_all, moved, moment_refusal, first_of, first_repeat, first_shut}
use Rattle.pair.specs.Runs.{Run, moment, stops_at, after, run}
use Rattle.pair.specs.Ranks.{writes_bit, OverrunsShow, WritesCannotHideAnOverrun, MomentsAreSingleMoments, held_for_the_processor, StoredExactlyAtStopSamples}
use Rattle.pair.specs.Law.{q_at}
use Rattle.pair.proofs.Link.{due}
use Rattle.pair.proofs.Ends.{Core, set_core, clock_full}
use Rattle.pair.proofs.Directions.{done_ok, moment_after}
use Rattle.pair.proofs.Steps.{line_to, ticked, chip_moved}

-- of the receiver a write to bit 18 resets RBRL, and no other but a reset changes anything
module _ (a : ℕ) (v : Bool) (x : Acc) where
  abbrev left : Receiver
  left = cond (eqb a 18) (released x.receiver) x.receiver

  low_receiver : (low_written a v x).receiver ≡ x.receiver
  low_receiver = grind arith

  flag_receiver : (flag_written a v x).receiver ≡ x.receiver
  flag_receiver = grind arith

  mode_receiver : (mode_written a v x).receiver ≡ left
  mode_receiver = grind (arith, nat_tests)

  write_receiver : eqb a 31 ≡ false → (write_of a v x).receiver ≡ left
  unfolding write_of
  write_receiver h = grind (arith, nat_tests, low_receiver, flag_receiver, mode_receiver)

-- the writes at an end
writes_receiver : (e : End) (vs : List Event) (x : Acc) → writes_bit 31 e vs ≡ false →
    ((write_all e vs x).receiver.rover ≡ x.receiver.rover) × ((write_all e vs x).receiver.rbrl ≡ (x.receiver.rbrl && not (writes_bit 18 e vs)))
unfolding write_all writes_bit
writes_receiver e [] x h = grind arith
writes_receiver e (v ∷ vs) x h =
    let one = write_receiver v.address (level_of v) x in
    let rest = writes_receiver e vs (cond (write_at e v) (write_of v.address (level_of v) x) x) in
    grind (arith, nat_tests)

-- a stop sample
stop_heard : (control rate : ℕ) (v : Bool) (r : Receiver) (st : Receiving) → stops_at st ≡ true → ((heard st control rate v r).rover ≡ r.rbrl) × ((heard st control rate v r).rbrl ≡ true)
stop_heard control rate v r st h = grind (arith, nat_tests)

no_stop_heard : (control rate : ℕ) (v : Bool) (r : Receiver) (st : Receiving) → stops_at st ≡ false → held_for_the_processor (heard st control rate v r) ≡ held_for_the_processor r
no_stop_heard control rate v r st h = grind (arith, nat_tests)

pub stored_exactly : StoredExactlyAtStopSamples
unfolding listen
stored_exactly control rate level r = (no_stop_heard control rate level r r.state, stop_heard control rate level r r.state)

ticked_receiver : (rin cts : Bool) (x : Acc) → fires x ≡ true → stops_at x.receiver.state ≡ true → ((clock_of rin cts x).receiver.rover ≡ x.receiver.rbrl) × ((clock_of rin cts x).receiver.rbrl ≡ true)
unfolding listen
ticked_receiver rin cts x f h =
    let c = ap (λ (k : Core). k.receiver) (clock_full rin cts x) in
    let s = stop_heard x.registers.control x.registers.receive_rate (cond x.modes.tstmd x.transmitter.xout rin) x.receiver x.receiver.state h in
    let r : (clock_of rin cts x).receiver ≡ heard x.receiver.state x.registers.control x.registers.receive_rate (cond x.modes.tstmd x.transmitter.xout rin) x.receiver = c ∙ rw f refl in
    (ap (λ (y : Receiver). y.rover) r ∙ s.0, ap (λ (y : Receiver). y.rbrl) r ∙ s.1)

pub overrun_shows : WritesCannotHideAnOverrun
overrun_shows vs m e at_stop none =
    let both = and_parts (fires (chip e m)) (stops_at (chip e m).receiver.state) at_stop in
    let same = set_core e vs (chip e m) in
    let f : fires (set_all e vs (chip e m)) ≡ true = ap (λ (k : Core). due (q_at k.registers) k.divider.0) same ∙ both.0 in
    let h : stops_at (set_all e vs (chip e m)).receiver.state ≡ true = ap (λ (k : Core). stops_at k.receiver.state) same ∙ both.1 in
    let c = ticked_receiver (line_to e vs m).0 (line_to e vs m).1 (set_all e vs (chip e m)) f h in
    let w = writes_receiver e vs (ticked e vs m) none in
    let moved_is = chip_moved e vs m in (
      ap rover_of moved_is ∙ w.0 ∙ c.0 ∙ ap (λ (k : Core). k.receiver.rbrl) same,
      ap rbrl_of moved_is ∙ w.1 ∙ ap (λ b. b && not (writes_bit 18 e vs)) c.1,
    )
  where
    rover_of : Acc → Bool
    rover_of x = x.receiver.rover

    rbrl_of : Acc → Bool
    rbrl_of x = x.receiver.rbrl

pub accepted_shows : (vs : List Event) (m : Bench) → is_ok (moment_reply vs m) ≡ true → OverrunsShow vs m (moment_done vs m)
accepted_shows vs m h = subst (OverrunsShow vs m) (sym (done_ok (moment_reply vs m) (moved vs m) m h)) (overrun_shows vs m)

-- a moment without events is accepted on an open bench before the last clock
idle_accepted : (m : Bench) → m.is_open ≡ true → m.clock < last_clock → is_ok (moment_reply [] m) ≡ true
unfolding moment_refusal first_of first_repeat first_shut
idle_accepted m o c = rw (o, lt-leb last_clock m.clock c) refl

moved_open : (m : Bench) → (moved [] m).is_open ≡ m.is_open
unfolding moved
moved_open m = refl

moved_clock : (m : Bench) → (moved [] m).clock ≡ m.clock + 1
unfolding moved
moved_clock m = refl

single_moves : (n : ℕ) (r : Run) → r.bench.is_open ≡ true → r.bench.clock + n ≤ last_clock → (run (replicate n (moment [])) r).bench ≡ moves n r.bench
unfolding run moves
single_moves zero r o c = refl
single_moves (suc n) r o c =
    let ok = idle_accepted r.bench o (omega arith) in
    let step = moment_after [] r ok in
    let same : (after (moment []) r).bench ≡ moved [] r.bench = ap (λ (u : Run). u.bench) step in
    single_moves n (after (moment []) r) (ap (λ (m : Bench). m.is_open) same ∙ moved_open r.bench ∙ o) (omega (arith, ap (λ (m : Bench). m.clock) same, moved_clock r.bench))
    ∙ ap (moves n) same

pub single_moments : MomentsAreSingleMoments
single_moments n r h = let all = single_moves n r in grind (arith, nat_tests)
