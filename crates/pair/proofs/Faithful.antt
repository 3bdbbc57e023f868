-- The law of faithful transmission. Assumes nothing.
use Rattle.std.proofs.Common.{◌≡◌, ℕ, suc, ◌+◌, ◌-◌, ◌*◌, ◌<◌, ◌≤◌, Bool, true, false, cond, ◌&&◌, List, [], ◌∷◌, ◌++◌, length, is_ok, Some, Ok, Err, Result, sym, refl, ap, ◌∙◌, subst, mul-le-mul_right, mul-le-mul, arith}
use Rattle.std.proofs.lemmas.Bool.{both_ways, and_from}
use Rattle.faults.specs.declared.End.{End}
use Rattle.faults.specs.declared.End.TheVariants as end
use Rattle.faults.specs.declared.Fault.{Fault}
use Rattle.faults.specs.Faults.{end_number}
use Rattle.timing.specs.Calls.{deadline_of}
use Rattle.timing.specs.Counts.{q}
use Rattle.timing.specs.Registers.{samples, control_of, half_count}
use Rattle.timing.proofs.HalfBits.{half_count_some}
use Rattle.sections.specs.declared.transmitter.Sending.{Sending}
use Rattle.sections.specs.declared.transmitter.Sending.TheVariants.{Idle, Element, Stop}
use Rattle.sections.specs.Transmit.{xsre_by, xsre}
use Rattle.cable.specs.Turnings.{is_inverted}
use Rattle.acc.specs.declared.chip.Acc.{Acc}
use Rattle.acc.specs.declared.chip.Received.{Received}
use Rattle.acc.specs.declared.chip.Registers.{Registers}
use Rattle.acc.specs.Clock.{fires}
use Rattle.pair.specs.declared.event.Event.{Event}
use Rattle.pair.specs.Bench.{Bench, chip}
use Rattle.pair.specs.Calls.{Opening, opened, started, registers_of, load_reply, take_reply, moment_reply}
use Rattle.pair.specs.Moment.{set_all, after_rank_2, moved}
use Rattle.pair.specs.Runs.{Run, Call, load, take, moment, history, start_of, load_noted, take_noted, after, run}
use Rattle.pair.specs.Copies.{stored_in, nth, Copy}
use Rattle.pair.specs.Consequences.{ALabelArrivesWhole}
use Rattle.pair.specs.Law.{opposite, channel_to, sent_format, Faithful, cts_at_next_internal_clock, SentAtOnce, IsStored, LawAt, q_at, Receives, deadline_between, TransmissionBetweenBoardsIsFaithful, rate_to, TransmissionIsFaithful}
use Rattle.pair.proofs.Conditions.{WritesAllowedBits, FallsInsideACharacter, CallAllowed, CallsAllowed, calls_are_allowed}
use Rattle.pair.proofs.Carrying.{carries_length}
use Rattle.pair.proofs.Link.{Boards, format, heard_count, some_q, Link, due, clocked, level, Inv, Fit, clock_keeps}
use Rattle.pair.proofs.InTime.{Queues, Moves, length_left, queue_waits, queue_begins, moves_on, not_queued, stored_then, sent_moves}
use Rattle.pair.proofs.Ends.{Core, normal, set_core, set_rts, write_rts, clock_cts, clock_rts}
use Rattle.pair.proofs.Directions.{loaded_run, taken_run, moved_run, Does, nothing, loads, takes, moves, does, load_empty, load_run, moment_after, moment_refused}
use Rattle.pair.proofs.Steps.{link_to, boards_to, Steady, line_to, chip_ticked, chip_moved, ticked, link_moved, moved_inside, control_to, go_to, link_load, link_take, load_keeps, take_keeps, load_at, take_at, steady_step, steady_run, Kept, kept_run, inv_kept, inv_opened, steady_opened}
use Rattle.pair.proofs.InOrder.{Oldest, oldest_same, oldest_push, nth_there, nth_few, nth_oldest, nth_last, in_order}

-- boards of which one receives what the other sends fit each other
fits : (s r : Registers) → Receives s r → Fit (record { s = s; r = r })
fits s r h =
    let m : 1 * 1 ≤ half_count s.transmit_rate * q_at s = mul-le-mul (half_count_some s.transmit_rate) (some_q (control_of s.control).divider) in
    record {
      same = h.same_format;
      windows = record {
        some_q = some_q (control_of r.control).divider;
        some_T = omega arith;
        low = λ k l. h.not_early k (omega arith);
        high = λ k l. h.not_late k (omega arith);
      };
    }

-- what a call leaves of the time
time_step : {o : Bench} {r s : Run} → Does o r s → r.time ≤ s.time
time_step nothing = omega arith
time_step (loads end.A c h) = omega arith
time_step (loads end.B c h) = omega arith
time_step (takes end.A h) = omega arith
time_step (takes end.B h) = omega arith
time_step (moves vs w f) = omega arith

time_run : (o : Bench) (cs : List Call) (r : Run) → CallsAllowed o cs r → r.time ≤ (run cs r).time
unfolding CallsAllowed run
time_run o [] r f = omega arith
time_run o (c ∷ cs) r f = let a = time_step (does o c r f.0) in let b = time_run o cs (after c r) f.1 in omega arith

load_time : (x : End) (c : ℕ) (r : Run) → (after (load x c) r).time ≡ r.time
unfolding after
load_time end.A c r = by (is_ok (load_reply 0 c r.bench))
  where
    by : (b : Bool) → (cond b (load_noted end.A c r) r).time ≡ r.time
    by true = refl
    by false = refl
load_time end.B c r = by (is_ok (load_reply 1 c r.bench))
  where
    by : (b : Bool) → (cond b (load_noted end.B c r) r).time ≡ r.time
    by true = refl
    by false = refl

take_time : (x : End) (r : Run) → (after (take x) r).time ≡ r.time
unfolding after
take_time x r = by x (take_reply (end_number x) r.bench)
  where
    by : (x : End) (z : Result Received Fault) → (take_noted x z r).time ≡ r.time
    by end.A (Ok y) = refl
    by end.B (Ok y) = refl
    by x (Err f) = refl

-- one list of calls after another
pub run_more : (cs ds : List Call) (r : Run) → run (cs ++ ds) r ≡ run ds (run cs r)
unfolding run
run_more [] ds r = refl
run_more (c ∷ cs) ds r = run_more cs ds (after c r)

allowed_more : (o : Bench) (cs ds : List Call) (r : Run) → CallsAllowed o (cs ++ ds) r → CallsAllowed o cs r × CallsAllowed o ds (run cs r)
unfolding CallsAllowed run
allowed_more o [] ds r h = (tt, h)
allowed_more o (c ∷ cs) ds r h = let z = allowed_more o cs ds (after c r) h.1 in ((h.0, z.0), z.1)

idle_is : (s : Sending) → xsre_by s ≡ true → s ≡ Idle
idle_is Idle e = refl
idle_is (Element left word count stop) e = absurd (both_ways false refl e)
idle_is (Stop left) e = absurd (both_ways false refl e)

rts_load : (e x : End) (c : ℕ) (r : Run) → (chip e (loaded_run x c r).bench).lines.rts ≡ (chip e r.bench).lines.rts
rts_load end.A end.A c r = refl
rts_load end.A end.B c r = refl
rts_load end.B end.A c r = refl
rts_load end.B end.B c r = refl

rts_take : (e x : End) (r : Run) → (chip e (taken_run x r).bench).lines.rts ≡ (chip e r.bench).lines.rts
rts_take end.A end.A r = refl
rts_take end.A end.B r = refl
rts_take end.B end.A r = refl
rts_take end.B end.B r = refl

link_loaded : (e : End) (c : ℕ) (r : Run) → link_to e (loaded_run (opposite e) c r) ≡ link_load c (link_to e r)
link_loaded end.A c r = refl
link_loaded end.B c r = refl

module _ (o : Bench) (e : End) (fit : Fit (boards_to e o)) where
  abbrev b : Boards
  b = boards_to e o

  abbrev σ : ℕ → Bool
  σ = is_inverted (channel_to e o)

  abbrev s : End
  s = opposite e

  -- the delay stays
  Delayed : ℕ → Link → Type 0
  Delayed d l = (i : Inv b σ l) × (length i.under_way ≡ d)

  delay_kept : (d : ℕ) → Kept b σ (Delayed d)
  unfolding Delayed load_keeps take_keeps clock_keeps
  delay_kept d = record {
    by_load = λ c l h x. (load_keeps b σ c l h x.0, x.1);
    by_take = λ l h x. (take_keeps b σ l h x.0, x.1);
    by_clock = λ go control l h x. (clock_keeps b fit σ go control l x.0 h, length_left b x.0.under_way x.0.sent ∙ x.1);
  }

  -- what was loaded is loaded
  loaded_kept : (xs : List ℕ) → Kept b σ (λ l. Oldest xs l.loaded)
  loaded_kept xs = record {
    by_load = λ c l h x. oldest_push c xs l.loaded x;
    by_take = λ l h x. x;
    by_clock = λ go control l h x. x;
  }

  module _ (n t : ℕ) where
    -- the n-th character waits to be sent, or is on its way, and will be stored at time t
    Waiting : Link → Type 0
    Waiting l = (i : Inv b σ l) × Queues b fit σ n (t - l.time) l i

    Coming : Link → Type 0
    Coming l = (i : Inv b σ l) × Moves b fit σ n (t - l.time) l i

    later : (k : ℕ) → t - k - 1 ≡ t - (k + 1)
    later k = omega arith

    coming_kept : Kept b σ Coming
    unfolding Coming load_keeps take_keeps
    coming_kept = record {
      by_load = λ c l h x. (load_keeps b σ c l h x.0, x.1);
      by_take = λ l h x. (take_keeps b σ l h x.0, x.1);
      by_clock = λ go control l h x. (
        clock_keeps b fit σ go control l x.0 h,
        subst (λ k. Moves b fit σ n k (clocked b go control l) (clock_keeps b fit σ go control l x.0 h)) (later l.time) (moves_on b fit σ n (t - l.time) go control l x.0 h x.1),
      );
    }

    waiting_loads : (c : ℕ) (l : Link) → l.tx.xbre ≡ true → Waiting l → Waiting (link_load c l)
    unfolding Waiting
    waiting_loads c l h x = absurd (both_ways l.tx.xbre x.1.full h)

    waiting_takes : (l : Link) → l.rx.rbrl ≡ true → Waiting l → Waiting (link_take l)
    unfolding Waiting take_keeps
    waiting_takes l h x = (take_keeps b σ l h x.0, record { idle = x.1.idle; full = x.1.full; next = x.1.next; cost = x.1.cost })

    -- the character waits with RTS active, or its start has begun
    data Then (cs : List Call) (r : Run) : Type 0 where
      still : Waiting (link_to e r) → (chip s r.bench).lines.rts ≡ true → cts_at_next_internal_clock s cs r ≡ true → Then cs r
      begun : Coming (link_to e r) → Then cs r

    -- a call that is no moment
    waiting_step : {r u : Run} → Does o r u → u.time ≡ r.time → Waiting (link_to e r) → (chip s r.bench).lines.rts ≡ true → Waiting (link_to e u) × ((chip s u.bench).lines.rts ≡ true)
    waiting_step nothing same x h = (x, h)
    waiting_step (loads {r = r} y c k) same x h = (load_at e y c r Waiting k (waiting_loads c (link_to e r)) x, rts_load s y c r ∙ h)
    waiting_step (takes {r = r} y k) same x h = (take_at e y r Waiting k (waiting_takes (link_to e r)) x, rts_take s y r ∙ h)
    waiting_step (moves vs w f) same x h = absurd (omega arith)

    module _ (vs : List Event) (r : Run) (w : WritesAllowedBits vs) (z : Steady o r.bench) (f : FallsInsideACharacter o e vs r) where
      abbrev m : Bench
      m = r.bench

      fires_is : (g : Registers) → (chip s m).registers ≡ g → fires (chip s m) ≡ due (q_at g) (chip s m).divider.0
      fires_is g p = ap (λ (x : Registers). due (q_at x) (chip s m).divider.0) p

      due_is : fires (chip s m) ≡ due (q_at b.s) (link_to e r).s_div
      due_is = fires_is (chip s o).registers (z s).0

      set_modes : (set_all s vs (chip s m)).modes ≡ normal
      set_modes = ap (λ (k : Core). k.modes) (set_core s vs (chip s m)) ∙ (z s).1

      go_is : (chip s m).lines.rts ≡ true → (chip s (after_rank_2 vs m)).lines.cts ≡ true → go_to o vs r w z e ≡ true
      go_is h k =
          and_from (control_to o vs r w z e) (line_to s vs m).1 (set_rts s vs (chip s m) ∙ h)
          (sym (clock_cts (line_to s vs m).0 (line_to s vs m).1 (set_all s vs (chip s m)) set_modes) ∙ sym (ap (λ (x : Acc). x.lines.cts) (chip_ticked s vs m)) ∙ k)

      begins : Waiting (link_to e r) → fires (chip s m) ≡ true → go_to o vs r w z e ≡ true → Coming (link_to e (moved_run vs r))
      unfolding Waiting Coming
      begins x g k =
          subst Coming (sym (link_moved o vs r w z e)) (
            clock_keeps b fit σ (go_to o vs r w z e) (control_to o vs r w z e) (link_to e r) x.0 (moved_inside o vs r w z e f),
            subst (λ j. Moves b fit σ n j (clocked b (go_to o vs r w z e) (control_to o vs r w z e) (link_to e r)) (clock_keeps b fit σ (go_to o vs r w z e) (control_to o vs r w z e) (link_to e r) x.0 (moved_inside o vs r w z e f))) (later r.time)
                (queue_begins b fit σ n (t - r.time) (go_to o vs r w z e) (control_to o vs r w z e) (link_to e r) x.0 (moved_inside o vs r w z e f) (sym due_is ∙ g) k x.1),
          )

      waits : Waiting (link_to e r) → fires (chip s m) ≡ false → Waiting (link_to e (moved_run vs r))
      unfolding Waiting
      waits x g =
          subst Waiting (sym (link_moved o vs r w z e)) (
            clock_keeps b fit σ (go_to o vs r w z e) (control_to o vs r w z e) (link_to e r) x.0 (moved_inside o vs r w z e f),
            subst (λ j. Queues b fit σ n j (clocked b (go_to o vs r w z e) (control_to o vs r w z e) (link_to e r)) (clock_keeps b fit σ (go_to o vs r w z e) (control_to o vs r w z e) (link_to e r) x.0 (moved_inside o vs r w z e f))) (later r.time)
                (queue_waits b fit σ n (t - r.time) (go_to o vs r w z e) (control_to o vs r w z e) (link_to e r) x.0 (moved_inside o vs r w z e f) (sym due_is ∙ g) x.1),
          )

      rts_stays : (chip s m).lines.rts ≡ true → fires (chip s m) ≡ false → (chip s (moved vs m)).lines.rts ≡ true
      rts_stays h g =
          let k : fires (set_all s vs (chip s m)) ≡ false = ap (λ (c : Core). due (q_at c.registers) c.divider.0) (set_core s vs (chip s m)) ∙ g in
          ap (λ (x : Acc). x.lines.rts) (chip_moved s vs m)
          ∙ write_rts s vs (ticked s vs m) w (clock_rts (line_to s vs m).0 (line_to s vs m).1 (set_all s vs (chip s m)) k ∙ set_rts s vs (chip s m) ∙ h)

    then_step : (c : Call) (cs : List Call) (r : Run) → CallAllowed o c r → Steady o r.bench → Waiting (link_to e r) → (chip s r.bench).lines.rts ≡ true → cts_at_next_internal_clock s (c ∷ cs) r ≡ true → Then cs (after c r)
    unfolding cts_at_next_internal_clock
    then_step (load x c) cs r f z p h g = let k = waiting_step (does o (load x c) r f) (load_time x c r) p h in still k.0 k.1 g
    then_step (take x) cs r f z p h g = let k = waiting_step (does o (take x) r f) (take_time x r) p h in still k.0 k.1 g
    then_step (moment vs) cs r f z p h g = by (is_ok (moment_reply vs r.bench)) refl (fires (chip s r.bench)) refl g
      where
        by : (a : Bool) → is_ok (moment_reply vs r.bench) ≡ a → (d : Bool) → fires (chip s r.bench) ≡ d →
            cond (a && d) (chip s (after_rank_2 vs r.bench)).lines.cts (cts_at_next_internal_clock s cs (after (moment vs) r)) ≡ true → Then cs (after (moment vs) r)
        by false a d k y = subst (λ u. Waiting (link_to e u) → (chip s u.bench).lines.rts ≡ true → Then cs (after (moment vs) r)) (moment_refused vs r a) (λ q j. still q j y) p h
        by true a true k y = subst (Then cs) (sym (moment_after vs r a)) (begun (begins vs r (f a).0 z ((f a).1 e) p k (go_is vs r (f a).0 z ((f a).1 e) h y)))
        by true a false k y = subst (λ u. Waiting (link_to e u) → (chip s u.bench).lines.rts ≡ true → Then cs (after (moment vs) r)) (moment_after vs r a) (λ q j. still q j y) (waits vs r (f a).0 z ((f a).1 e) p k) (rts_stays vs r (f a).0 z ((f a).1 e) h k)

    coming_run : (cs : List Call) (r : Run) → CallsAllowed o cs r → Steady o r.bench → t ≤ (run cs r).time → Coming (link_to e r) → n ≤ length (stored_in (history e (run cs r)).happened)
    unfolding Coming
    coming_run cs r f z late x =
        let y = kept_run o e Coming coming_kept cs r f z x in
        let none : t - (run cs r).time ≡ 0 = omega arith in
        stored_then b fit σ n (link_to e (run cs r)) y.0 (subst (λ k. Moves b fit σ n k (link_to e (run cs r)) y.0) none y.1)

    then_run : (cs : List Call) (r : Run) → CallsAllowed o cs r → Steady o r.bench → t ≤ (run cs r).time → Then cs r → n ≤ length (stored_in (history e (run cs r)).happened)
    unfolding CallsAllowed run Waiting
    then_run [] r f z late (begun x) = coming_run [] r f z late x
    then_run (c ∷ cs) r f z late (begun x) = coming_run (c ∷ cs) r f z late x
    then_run [] r f z late (still x h g) = absurd (not_queued b fit σ n (link_to e r) x.0 (subst (λ k. Queues b fit σ n k (link_to e r) x.0) (let none : t - r.time ≡ 0 = omega arith in none) x.1))
    then_run (c ∷ cs) r f z late (still x h g) = then_run cs (after c r) f.1 (steady_step o (does o c r f.0) z) late (then_step c cs r f.0 z x h g)

  abbrev limit : ℕ → ℕ
  limit d = deadline_between b.s b.r d

  cost_is : (q u R m d l a time : ℕ) → 0 < u → l ≡ d → q + l + (u - 1 + (2 * m + 3) * R) + 1 ≤ time + (q + d + u + R * (2 * m + 3)) - time + a
  cost_is q u R m d l a time hu same = omega arith

  -- a load that finds XSRE and XBRE 1
  queue_load : (c d : ℕ) (r : Run) → (chip s r.bench).transmitter.xbre ≡ true → xsre (chip s r.bench).transmitter ≡ true → Delayed d (link_to e r) →
      Waiting (suc (length (history s r).loaded)) (r.time + limit d) (link_load c (link_to e r))
  unfolding Waiting Delayed load_keeps
  queue_load c d r h x i = (
    load_keeps b σ c (link_to e r) h i.0,
    record {
      idle = idle_is (chip s r.bench).transmitter.state x;
      full = refl;
      next = ap (λ (p : List ℕ). suc (length p)) (sym (rw h at i.0.loads));
      cost = cost_is (q_at b.s) (q_at b.r) (heard_count b * q_at b.r) (samples (format b)) d (length i.0.under_way) (chip s r.bench).divider.0 r.time (some_q (control_of b.r.control).divider) i.1;
    },
  )

  module _ (c d : ℕ) (ds : List Call) (r : Run) (x : Delayed d (link_to e r)) (z : Steady o r.bench) (f : CallsAllowed o (load s c ∷ ds) r) (p : SentAtOnce s c ds r) where
    all_loaded : after (load s c) r ≡ loaded_run s c r
    all_loaded = load_run s c r p.accepted

    stored_in_time : r.time + limit d ≤ (run (load s c ∷ ds) r).time → length (history s r).loaded < length (stored_in (history e (run (load s c ∷ ds) r)).happened)
    unfolding CallsAllowed run
    stored_in_time late =
        then_run (suc (length (history s r).loaded)) (r.time + limit d) ds (after (load s c) r) f.1 (steady_step o (does o (load s c) r f.0) z) late
        (subst (Then (suc (length (history s r).loaded)) (r.time + limit d) ds) (sym all_loaded)
        (still (subst (Waiting (suc (length (history s r).loaded)) (r.time + limit d)) (sym (link_loaded e c r)) (queue_load c d r (load_empty s c r.bench p.accepted) p.empty x)) (rts_load s s c r ∙ p.rts) (subst (λ u. cts_at_next_internal_clock s ds u ≡ true) all_loaded p.cts)))

    -- it is the one that it is among those loaded
    its_number : nth (history s (run (load s c ∷ ds) r)).loaded (length (history s r).loaded) ≡ Some c
    unfolding CallsAllowed run
    its_number =
        let first : Oldest (c ∷ (history s r).loaded) (link_to e (after (load s c) r)).loaded = subst (λ l. Oldest (c ∷ (history s r).loaded) l.loaded) (sym (ap (link_to e) all_loaded ∙ link_loaded e c r)) (oldest_same (c ∷ (history s r).loaded)) in
        let old = kept_run o e (λ l. Oldest (c ∷ (history s r).loaded) l.loaded) (loaded_kept (c ∷ (history s r).loaded)) ds (after (load s c) r) f.1 (steady_step o (does o (load s c) r f.0) z) first in
        nth_oldest (c ∷ (history s r).loaded) (history s (run ds (after (load s c) r))).loaded (length (history s r).loaded) old (omega arith) ∙ nth_last c (history s r).loaded

  faithful_by : (r : Run) → Inv b σ (link_to e r) → Faithful o e r
  faithful_by r i = record { in_order = in_order b σ (link_to e r) i; overruns = i.told.overruns; takes = i.told.takes }

  is_stored : (n c : ℕ) (r : Run) → Faithful o e r → nth (history s r).loaded n ≡ Some c → n < length (stored_in (history e r).happened) → IsStored o e n c r
  is_stored n c r f h l =
      let x = nth_there (stored_in (history e r).happened) n l in
      let y = f.in_order n x.0 x.1 in
      let g = y.1 in
      let same : y.0 ≡ c = cc in
      (x.0, x.1, subst (λ v. Copy (sent_format s o) (is_inverted (channel_to e o)) v x.0) same y.2)

  module _ (i : Inv b σ (link_to e (start_of o))) (z : Steady o o) where
    inv_run : (cs : List Call) → CallsAllowed o cs (start_of o) → Inv b σ (link_to e (run cs (start_of o)))
    inv_run cs f = kept_run o e (Inv b σ) (inv_kept b fit σ) cs (start_of o) f z i

    in_time : (cs : List Call) (c : ℕ) (ds : List Call) → CallsAllowed o (cs ++ load s c ∷ ds) (start_of o) → SentAtOnce s c ds (run cs (start_of o)) →
        (run cs (start_of o)).time + limit (length (channel_to e o).waiting) ≤ (run (cs ++ load s c ∷ ds) (start_of o)).time →
        IsStored o e (length (history s (run cs (start_of o))).loaded) c (run (cs ++ load s c ∷ ds) (start_of o))
    unfolding Delayed
    in_time cs c ds f p late =
        let same = run_more cs (load s c ∷ ds) (start_of o) in
        let fair = allowed_more o cs (load s c ∷ ds) (start_of o) f in
        let d = length (channel_to e o).waiting in
        let x = kept_run o e (Delayed d) (delay_kept d) cs (start_of o) fair.0 z (i, sym (carries_length (level b) i.carries)) in
        let y = steady_run o cs (start_of o) fair.0 z in
        let n = length (history s (run cs (start_of o))).loaded in
        is_stored n c (run (cs ++ load s c ∷ ds) (start_of o)) (faithful_by (run (cs ++ load s c ∷ ds) (start_of o)) (inv_run (cs ++ load s c ∷ ds) f))
        (subst (λ u. nth (history s u).loaded n ≡ Some c) (sym same) (its_number c d ds (run cs (start_of o)) x y fair.1 p))
        (subst (λ u. n < length (stored_in (history e u).happened)) (sym same) (stored_in_time c d ds (run cs (start_of o)) x y fair.1 p (subst (λ u. (run cs (start_of o)).time + limit d ≤ u.time) same late)))

    -- what an idle transmitter has sent is stored once the cable has handed it out
    all_arrive : (cs ds : List Call) → CallsAllowed o (cs ++ ds) (start_of o) → xsre (chip s (run cs (start_of o)).bench).transmitter ≡ true → (chip s (run cs (start_of o)).bench).transmitter.xbre ≡ true →
        (run cs (start_of o)).time + length (channel_to e o).waiting < (run (cs ++ ds) (start_of o)).time →
        (n c : ℕ) → nth (history s (run cs (start_of o))).loaded n ≡ Some c → IsStored o e n c (run (cs ++ ds) (start_of o))
    unfolding Delayed Coming
    all_arrive cs ds f empty_shift empty_buffer late n c h =
        let same = run_more cs ds (start_of o) in
        let fair = allowed_more o cs ds (start_of o) f in
        let d = length (channel_to e o).waiting in
        let r = run cs (start_of o) in
        let x = kept_run o e (Delayed d) (delay_kept d) cs (start_of o) fair.0 z (i, sym (carries_length (level b) i.carries)) in
        let y = steady_run o cs (start_of o) fair.0 z in
        let few = nth_few (history s r).loaded n c h in
        let k = length (history s r).loaded in
        let m = sent_moves b fit σ (link_to e r) x.0 (idle_is (chip s r.bench).transmitter.state empty_shift) empty_buffer (omega arith) in
        let t = r.time + (d + 1) in
        let left : length x.0.under_way + 1 ≡ t - r.time = omega (arith, x.1) in
        let m2 : Moves b fit σ k (t - r.time) (link_to e r) x.0 = subst (λ j. Moves b fit σ k j (link_to e r) x.0) left m in
        let all = coming_run k t ds r fair.1 y (omega (arith, ap (λ (u : Run). u.time) same)) (x.0, m2) in
        let old = kept_run o e (λ l. Oldest (history s r).loaded l.loaded) (loaded_kept (history s r).loaded) ds r fair.1 y (oldest_same (history s r).loaded) in
        is_stored n c (run (cs ++ ds) (start_of o)) (faithful_by (run (cs ++ ds) (start_of o)) (inv_run (cs ++ ds) f))
        (subst (λ u. nth (history s u).loaded n ≡ Some c) (sym same) (nth_oldest (history s r).loaded (history s (run ds r)).loaded n old few ∙ h))
        (subst (λ u. n < length (stored_in (history e u).happened)) (sym same) (omega arith))

    law_at : LawAt o e (limit (length (channel_to e o).waiting))
    law_at = record {
      faithful = λ cs f. faithful_by (run cs (start_of o)) (inv_run cs (calls_are_allowed o cs (start_of o) f));
      in_time = λ cs c ds f. in_time cs c ds (calls_are_allowed o (cs ++ load s c ∷ ds) (start_of o) f);
    }

pub between_boards : TransmissionBetweenBoardsIsFaithful
between_boards a b c clock clear e h =
    law_at (started a b c clock) e (fits (chip (opposite e) (started a b c clock)).registers (chip e (started a b c clock)).registers h) (inv_opened a b c clock e clear) (steady_opened a b c clock)

-- two boards that open makes alike
alike : (control interval rate other : ℕ) → Receives (record { control = control; interval = interval; receive_rate = other; transmit_rate = rate }) (record { control = control; interval = interval; receive_rate = rate; transmit_rate = other })
alike control interval rate other =
    let n = q (control_of control).divider in
    let m : 1 * n ≤ half_count rate * n = mul-le-mul_right n (half_count_some rate) in
    record { same_format = refl; not_early = λ k _. omega arith; not_late = λ k _. omega arith }

pub alike_fit : (o : Opening) (m : Bench) (e : End) → Receives (chip (opposite e) (opened o m)).registers (chip e (opened o m)).registers
alike_fit o m end.A = alike o.control o.interval o.r o.x
alike_fit o m end.B = alike o.control o.interval o.x o.r

deadline_is : (q h m d : ℕ) → q + d + q + h * q * (2 * m + 3) ≡ 2 * q + d + q * (h * (2 * m + 3))
deadline_is q h m d = omega arith

deadline_to : (o : Opening) (m : Bench) (e : End) → deadline_between (chip (opposite e) (opened o m)).registers (chip e (opened o m)).registers (length (channel_to e m).waiting) ≡ deadline_of o.control (rate_to e o) (length (channel_to e m).waiting)
deadline_to o m end.A = deadline_is (q (control_of o.control).divider) (half_count o.r) (samples (control_of o.control).format) (length m.channels.toward_a.waiting)
deadline_to o m end.B = deadline_is (q (control_of o.control).divider) (half_count o.x) (samples (control_of o.control).format) (length m.channels.toward_b.waiting)

pub transmission_is_faithful : TransmissionIsFaithful
transmission_is_faithful o m clear e =
    subst (LawAt (opened o m) e) (deadline_to o m e) (between_boards (registers_of o o.x o.r) (registers_of o o.r o.x) m.channels o.start clear e (alike_fit o m e))

pub label_arrives : ALabelArrivesWhole
label_arrives o m clear e cs ds f =
    all_arrive (opened o m) e (fits (chip (opposite e) (opened o m)).registers (chip e (opened o m)).registers (alike_fit o m e))
    (inv_opened (registers_of o o.x o.r) (registers_of o o.r o.x) m.channels o.start e clear) (steady_opened (registers_of o o.x o.r) (registers_of o o.r o.x) m.channels o.start)
    cs ds (calls_are_allowed (opened o m) (cs ++ ds) (start_of (opened o m)) f)
