-- Each direction of the bench is a link, and every call keeps what holds of it. Assumes nothing.
use Rattle.std.proofs.Common.{◌≡◌, ℕ, suc, ◌+◌, ◌%◌, Bool, true, false, cond, ◌&&◌, ltb, List, [], ◌∷◌, ◌++◌, length, replicate, sym, refl, ap, ◌∙◌, subst, zero-add, arith}
use Rattle.std.proofs.lemmas.Bool.{both_ways, and_parts, eqb-true, lt-ltb}
use Rattle.faults.specs.declared.End.{End}
use Rattle.faults.specs.declared.End.TheVariants as end
use Rattle.timing.specs.Registers.{control_of}
use Rattle.sections.specs.declared.receiver.Receiving.{Receiving}
use Rattle.sections.specs.declared.receiver.Receiver.{Receiver}
use Rattle.sections.specs.Receive.{rsbd, released, idle_receiver}
use Rattle.sections.specs.Transmit.{buffer_loaded, empty_transmitter}
use Rattle.cable.specs.Channels.{Pair, Channel, Channels, handed, stepped, all_mark, is_clear}
use Rattle.cable.specs.Turnings.{turnings, odd, is_inverted}
use Rattle.acc.specs.declared.chip.Acc.{Acc}
use Rattle.acc.specs.declared.chip.Received.{Received}
use Rattle.acc.specs.declared.chip.Registers.{Registers}
use Rattle.acc.specs.Clock.{fires, clock_of}
use Rattle.pair.specs.declared.event.Event.{Event}
use Rattle.pair.specs.Bench.{Bench, chip, sent_by}
use Rattle.pair.specs.Calls.{started}
use Rattle.pair.specs.Moment.{set_all, write_all, after_rank_2, moved}
use Rattle.pair.specs.Runs.{Stored, Happening, taken, History, Run, Call, history, start_of, samples_at, first_sample, stops_at, after, run}
use Rattle.pair.specs.Runs as runs
use Rattle.pair.specs.Copies.{stored_in, OverrunTellsAnUntakenCharacter, TakeAnswersTheLastStoredOnce}
use Rattle.pair.specs.Law.{opposite, channel_to, q_at}
use Rattle.pair.proofs.Conditions.{WritesAllowedBits, FallsInsideACharacter, CallsAllowed}
use Rattle.pair.proofs.Carrying.{Carries, none, more}
use Rattle.pair.proofs.Waves.{Tag, on}
use Rattle.pair.proofs.Sender as S
use Rattle.pair.proofs.Receiver as R
use Rattle.pair.proofs.Receiver.{held_by, Matches, Follows}
use Rattle.pair.proofs.Link.{Boards, format, sent_half, heard_count, some_q, Link, due, level_heard, rx_after, clocked, Step, level, Chain, Inv, Told, Fit, Inside, clock_keeps, noted}
use Rattle.pair.proofs.Ends.{Core, core, normal, set_core, write_core, core_clock, clock_core}
use Rattle.pair.proofs.Directions.{loaded_run, taken_run, chip_noted, moved_run, Does, nothing, loads, takes, moves, does}

-- what a history says of the characters received
abbrev pub received_part : History → History
received_part h = record { loaded = []; happened = h.happened; sampled = h.sampled }

-- the direction that ends at e
abbrev pub link_to : End → Run → Link
link_to e r = record {
  time = r.time;
  s_div = (chip (opposite e) r.bench).divider.0;
  r_div = (chip e r.bench).divider.0;
  tx = (chip (opposite e) r.bench).transmitter;
  channel = channel_to e r.bench;
  rx = (chip e r.bench).receiver;
  loaded = (history (opposite e) r).loaded;
  history = received_part (history e r);
}

abbrev pub boards_to : End → Bench → Boards
boards_to e o = record { s = (chip (opposite e) o).registers; r = (chip e o).registers }

-- no register and no mode has changed since open
abbrev pub Steady : Bench → Bench → Type 0
Steady o m = (e : End) → ((chip e m).registers ≡ (chip e o).registers) × ((chip e m).modes ≡ normal)

-- what end e is handed in a moment, and how its φ clock leaves it
abbrev pub line_to : End → List Event → Bench → Pair
line_to e vs m = handed (channel_to e m) (sent_by (set_all (opposite e) vs (chip (opposite e) m)))

abbrev pub ticked : End → List Event → Bench → Acc
ticked e vs m = clock_of (line_to e vs m).0 (line_to e vs m).1 (set_all e vs (chip e m))

pub chip_ticked : (e : End) (vs : List Event) (m : Bench) → chip e (after_rank_2 vs m) ≡ ticked e vs m
chip_ticked end.A vs m = refl
chip_ticked end.B vs m = refl

pub chip_moved : (e : End) (vs : List Event) (m : Bench) → chip e (moved vs m) ≡ write_all e vs (ticked e vs m)
unfolding moved
chip_moved end.A vs m = refl
chip_moved end.B vs m = refl

pub channel_moved : (e : End) (vs : List Event) (m : Bench) → channel_to e (moved vs m) ≡ stepped (channel_to e m) (sent_by (set_all (opposite e) vs (chip (opposite e) m)))
unfolding moved
channel_moved end.A vs m = refl
channel_moved end.B vs m = refl

history_moved : (e : End) (vs : List Event) (r : Run) → history e (moved_run vs r) ≡ chip_noted r.time (chip e r.bench) (chip e (after_rank_2 vs r.bench)) (history e r)
history_moved end.A vs r = refl
history_moved end.B vs r = refl

-- a clock adds nothing to what was loaded, and does not look at it
noted_loaded : (fired : Bool) (t : ℕ) (st : Receiving) (x : Received) (h : History) → (noted fired t st x h).loaded ≡ h.loaded
noted_loaded fired t st x h = by (fired && stops_at st) (fired && samples_at st)
  where
    by : (a b : Bool) → (cond a (record { loaded = h.loaded; happened = runs.stored (record { received = x; steps = h.sampled }) ∷ h.happened; sampled = [] }) (cond b (record { loaded = h.loaded; happened = h.happened; sampled = cond (first_sample st) [] h.sampled ++ t ∷ [] }) h)).loaded ≡ h.loaded
    by true b = refl
    by false true = refl
    by false false = refl

noted_received : (fired : Bool) (t : ℕ) (st : Receiving) (x : Received) (h : History) → received_part (noted fired t st x h) ≡ noted fired t st x (received_part h)
noted_received fired t st x h = by (fired && stops_at st) (fired && samples_at st)
  where
    abbreviated : Bool → Bool → History → History
    abbreviated a b g = cond a (record { loaded = g.loaded; happened = runs.stored (record { received = x; steps = g.sampled }) ∷ g.happened; sampled = [] }) (cond b (record { loaded = g.loaded; happened = g.happened; sampled = cond (first_sample st) [] g.sampled ++ t ∷ [] }) g)

    by : (a b : Bool) → received_part (abbreviated a b h) ≡ abbreviated a b (received_part h)
    by true b = refl
    by false true = refl
    by false false = refl

module _ (o : Bench) (vs : List Event) (r : Run) (w : WritesAllowedBits vs) (z : Steady o r.bench) where
  abbrev m : Bench
  m = r.bench

  ticked_core : (e : End) → core (ticked e vs m) ≡ core_clock (chip e o).registers ((set_all e vs (chip e m)).lines.rts && (line_to e vs m).1) (line_to e vs m).0 (core (chip e m))
  ticked_core e = clock_core (chip e o).registers (chip e m) (set_all e vs (chip e m)) (line_to e vs m).0 (line_to e vs m).1 (set_core e vs (chip e m)) (z e).0 (z e).1

  moved_core : (e : End) → core (chip e (moved vs m)) ≡ core_clock (chip e o).registers ((set_all e vs (chip e m)).lines.rts && (line_to e vs m).1) (line_to e vs m).0 (core (chip e m))
  moved_core e = ap core (chip_moved e vs m) ∙ write_core e vs (ticked e vs m) w ∙ ticked_core e

  pub moved_steady : Steady o (moved vs m)
  moved_steady e = (ap (λ (k : Core). k.registers) (moved_core e), ap (λ (k : Core). k.modes) (moved_core e))

  -- RTS of the sender, and whether it may go on
  abbrev pub control_to : End → Bool
  control_to e = (set_all (opposite e) vs (chip (opposite e) m)).lines.rts

  abbrev pub go_to : End → Bool
  go_to e = control_to e && (line_to (opposite e) vs m).1

  level_is : (e : End) → (line_to e vs m).0 ≡ level_heard (link_to e r) (control_to e)
  level_is e = ap (λ (k : Core). (handed (channel_to e m) (k.transmitter.xout, control_to e)).0) (set_core (opposite e) vs (chip (opposite e) m))

  rx_is : (e : End) → (ticked e vs m).receiver ≡ rx_after (boards_to e o) (level_heard (link_to e r) (control_to e)) (link_to e r)
  rx_is e = ap (λ (k : Core). k.receiver) (ticked_core e) ∙ ap (λ v. rx_after (boards_to e o) v (link_to e r)) (level_is e)

  -- a moment is one φ clock of either direction
  pub link_moved : (e : End) → link_to e (moved_run vs r) ≡ clocked (boards_to e o) (go_to e) (control_to e) (link_to e r)
  link_moved e = λ i. record {
    time = r.time + 1;
    s_div = (moved_core (opposite e) i).divider.0;
    r_div = (moved_core e i).divider.0;
    tx = (moved_core (opposite e) i).transmitter;
    channel = (channel_moved e vs m ∙ ap (λ (k : Core). stepped (channel_to e m) (k.transmitter.xout, control_to e)) (set_core (opposite e) vs (chip (opposite e) m))) i;
    rx = (ap (λ (k : Core). k.receiver) (moved_core e) ∙ ap (λ v. rx_after (boards_to e o) v (link_to e r)) (level_is e)) i;
    loaded = (ap (λ (h : History). h.loaded) (history_moved (opposite e) vs r) ∙ noted_loaded (fires (chip (opposite e) m)) r.time (chip (opposite e) m).receiver.state _ (history (opposite e) r)) i;
    history = (
        ap received_part (history_moved e vs r)
        ∙ noted_received (fires (chip e m)) r.time (chip e m).receiver.state (held_by (chip e (after_rank_2 vs m)).receiver) (history e r)
        ∙ ap (λ (g : Registers). noted (due (q_at g) (chip e m).divider.0) r.time (chip e m).receiver.state (held_by (chip e (after_rank_2 vs m)).receiver) (received_part (history e r))) (z e).0
        ∙ ap (λ (x : Receiver). noted (due (q_at (chip e o).registers) (chip e m).divider.0) r.time (chip e m).receiver.state (held_by x) (received_part (history e r))) (ap (λ (c : Acc). c.receiver) (chip_ticked e vs m) ∙ rx_is e)
        ) i;
  }

  odd_arrives : (n : ℕ) → odd n ≡ true → ltb 0 n ≡ true
  odd_arrives n h = let e = eqb-true (n % 2) 1 h in lt-ltb 0 n (omega arith)

  pub moved_inside : (e : End) → FallsInsideACharacter o e vs r → Inside (boards_to e o) (is_inverted (channel_to e o)) (control_to e) (link_to e r)
  moved_inside e h y =
      let k = h (odd_arrives (turnings (channel_to e o) r.time) y) in
      (k.0, ap rsbd (sym (ap (λ (c : Acc). c.receiver) (chip_ticked e vs m) ∙ rx_is e)) ∙ k.1)

-- load and take, on a link
abbrev pub link_load : ℕ → Link → Link
link_load v l = record { time = l.time; s_div = l.s_div; r_div = l.r_div; tx = buffer_loaded v l.tx; channel = l.channel; rx = l.rx; loaded = v ∷ l.loaded; history = l.history }

abbrev pub link_take : Link → Link
link_take l = record {
  time = l.time;
  s_div = l.s_div;
  r_div = l.r_div;
  tx = l.tx;
  channel = l.channel;
  rx = released l.rx;
  loaded = l.loaded;
  history = record { loaded = l.history.loaded; happened = taken (held_by l.rx) ∷ l.history.happened; sampled = l.history.sampled };
}

pub load_loads : (v : ℕ) (l : Link) (p : List ℕ) → l.tx.xbre ≡ true → l.loaded ≡ cond l.tx.xbre p (l.tx.buffer ∷ p) → v ∷ l.loaded ≡ v ∷ p
load_loads v l p e h = ap (λ q. v ∷ q) (rw e at h)

unfoldable pub load_keeps : (b : Boards) (σ : ℕ → Bool) (v : ℕ) (l : Link) → l.tx.xbre ≡ true → Inv b σ l → Inv b σ (link_load v l)
load_keeps b σ v l e i = record {
  arrived = i.arrived;
  under_way = i.under_way;
  sent = i.sent;
  counts = i.counts;
  s_low = i.s_low;
  r_low = i.r_low;
  sends = i.sends;
  loads = load_loads v l i.sent.past e i.loads;
  chain = i.chain;
  carries = i.carries;
  inverts = i.inverts;
  follows = i.follows;
  told = i.told;
}

pub take_follows : (b : Boards) (σ : ℕ → Bool) (l : Link) (i : Inv b σ l) →
    Follows (format b) (sent_half b) (q_at b.r) (heard_count b) σ (stored_in (taken (held_by l.rx) ∷ l.history.happened)) i.arrived.past i.arrived.phase l.r_div l.rx.state l.rx.seen l.history.sampled
unfolding stored_in
take_follows b σ l i = i.follows

pub take_told : (b : Boards) (σ : ℕ → Bool) (l : Link) → l.rx.rbrl ≡ true → Inv b σ l → Told (released l.rx) (taken (held_by l.rx) ∷ l.history.happened)
unfolding OverrunTellsAnUntakenCharacter TakeAnswersTheLastStoredOnce
take_told b σ l e i = record {
  overruns = i.told.overruns;
  takes = (i.told.latest (sym i.told.holds ∙ e), i.told.takes);
  holds = refl;
  latest = λ z. absurd (both_ways false refl z);
}

unfoldable pub take_keeps : (b : Boards) (σ : ℕ → Bool) (l : Link) → l.rx.rbrl ≡ true → Inv b σ l → Inv b σ (link_take l)
take_keeps b σ l e i = record {
  arrived = i.arrived;
  under_way = i.under_way;
  sent = i.sent;
  counts = i.counts;
  s_low = i.s_low;
  r_low = i.r_low;
  sends = i.sends;
  loads = i.loads;
  chain = i.chain;
  carries = i.carries;
  inverts = i.inverts;
  follows = take_follows b σ l i;
  told = take_told b σ l e i;
}

-- what a load or a take at end x does to the direction that ends at e
pub load_at : (e x : End) (c : ℕ) (r : Run) (P : Link → Type 0) → (chip x r.bench).transmitter.xbre ≡ true → ((link_to e r).tx.xbre ≡ true → P (link_to e r) → P (link_load c (link_to e r))) → P (link_to e r) → P (link_to e (loaded_run x c r))
load_at end.A end.A c r P h k p = p
load_at end.A end.B c r P h k p = k h p
load_at end.B end.A c r P h k p = k h p
load_at end.B end.B c r P h k p = p

pub take_at : (e x : End) (r : Run) (P : Link → Type 0) → (chip x r.bench).receiver.rbrl ≡ true → ((link_to e r).rx.rbrl ≡ true → P (link_to e r) → P (link_take (link_to e r))) → P (link_to e r) → P (link_to e (taken_run x r))
take_at end.A end.A r P h k p = k h p
take_at end.A end.B r P h k p = p
take_at end.B end.A r P h k p = p
take_at end.B end.B r P h k p = k h p

steady_load : (o : Bench) (x e : End) (c : ℕ) (r : Run) → Steady o r.bench → ((chip e (loaded_run x c r).bench).registers ≡ (chip e o).registers) × ((chip e (loaded_run x c r).bench).modes ≡ normal)
steady_load o end.A end.A c r z = z end.A
steady_load o end.A end.B c r z = z end.B
steady_load o end.B end.A c r z = z end.A
steady_load o end.B end.B c r z = z end.B

steady_take : (o : Bench) (x e : End) (r : Run) → Steady o r.bench → ((chip e (taken_run x r).bench).registers ≡ (chip e o).registers) × ((chip e (taken_run x r).bench).modes ≡ normal)
steady_take o end.A end.A r z = z end.A
steady_take o end.A end.B r z = z end.B
steady_take o end.B end.A r z = z end.A
steady_take o end.B end.B r z = z end.B

pub steady_step : (o : Bench) {r s : Run} → Does o r s → Steady o r.bench → Steady o s.bench
steady_step o nothing z = z
steady_step o (loads {r = r} x c h) z = λ e. steady_load o x e c r z
steady_step o (takes {r = r} x h) z = λ e. steady_take o x e r z
steady_step o (moves {r = r} vs w f) z = moved_steady o vs r w z

pub steady_run : (o : Bench) (cs : List Call) (r : Run) → CallsAllowed o cs r → Steady o r.bench → Steady o (run cs r).bench
unfolding CallsAllowed run
steady_run o [] r f z = z
steady_run o (c ∷ cs) r f z = steady_run o cs (after c r) f.1 (steady_step o (does o c r f.0) z)

-- what holds of a link and loads, takes and φ clocks keep, every run keeps
pub record Kept (b : Boards) (σ : ℕ → Bool) (P : Link → Type 0) : Type 0 where
  pub by_load : (c : ℕ) (l : Link) → l.tx.xbre ≡ true → P l → P (link_load c l)
  pub by_take : (l : Link) → l.rx.rbrl ≡ true → P l → P (link_take l)
  pub by_clock : (go control : Bool) (l : Link) → Inside b σ control l → P l → P (clocked b go control l)

module _ (o : Bench) (e : End) (P : Link → Type 0) (k : Kept (boards_to e o) (is_inverted (channel_to e o)) P) where
  pub kept_step : {r s : Run} → Does o r s → Steady o r.bench → P (link_to e r) → P (link_to e s)
  kept_step nothing z p = p
  kept_step (loads {r = r} x c h) z p = load_at e x c r P h (k.by_load c (link_to e r)) p
  kept_step (takes {r = r} x h) z p = take_at e x r P h (k.by_take (link_to e r)) p
  kept_step (moves {r = r} vs w f) z p =
      subst P (sym (link_moved o vs r w z e)) (k.by_clock (go_to o vs r w z e) (control_to o vs r w z e) (link_to e r) (moved_inside o vs r w z e (f e)) p)

  pub kept_run : (cs : List Call) (r : Run) → CallsAllowed o cs r → Steady o r.bench → P (link_to e r) → P (link_to e (run cs r))
  unfolding CallsAllowed run
  kept_run [] r f z p = p
  kept_run (c ∷ cs) r f z p = kept_run cs (after c r) f.1 (steady_step o (does o c r f.0) z) (kept_step (does o c r f.0) z p)

pub inv_kept : (b : Boards) → Fit b → (σ : ℕ → Bool) → Kept b σ (Inv b σ)
inv_kept b fit σ = record { by_load = load_keeps b σ; by_take = take_keeps b σ; by_clock = λ go control l h i. clock_keeps b fit σ go control l i h }

-- at open
tags_from : ℕ → List Pair → List Tag
tags_from k [] = []
tags_from k (p ∷ ps) = record { past = []; phase = k } ∷ tags_from (suc k) ps

tags_chain : (b : Boards) (k : ℕ) (ps : List Pair) → Chain b (record { past = []; phase = k }) (tags_from (suc k) ps) (record { past = []; phase = suc k + length ps })
unfolding tags_from Chain
tags_chain b k [] = subst (λ x. Step b (record { past = []; phase = k }) (record { past = []; phase = x })) (let e : suc k ≡ suc k + 0 = omega arith in e) on
tags_chain b k (p ∷ ps) = (on, subst (λ x. Chain b (record { past = []; phase = suc k }) (tags_from (suc (suc k)) ps) (record { past = []; phase = x })) (let e : suc (suc k) + length ps ≡ suc k + suc (length ps) = omega arith in e) (tags_chain b (suc k) ps))

clear_carries : (b : Boards) (k : ℕ) (ps : List Pair) → all_mark ps ≡ true → Carries (level b) ps (replicate (length ps) 0) (tags_from k ps)
unfolding tags_from all_mark
clear_carries b k [] h = none
clear_carries b k (p ∷ ps) h = let both = and_parts p.0 (all_mark ps) h in more both.0 (clear_carries b (suc k) ps both.1)

clear_to : (c : Channels) (clock : ℕ) (a b : Registers) (e : End) → is_clear c ≡ true → all_mark (channel_to e (started a b c clock)).waiting ≡ true
clear_to c clock a b end.A h = (and_parts (all_mark c.toward_b.waiting) (all_mark c.toward_a.waiting) h).1
clear_to c clock a b end.B h = (and_parts (all_mark c.toward_b.waiting) (all_mark c.toward_a.waiting) h).0

abbrev opened_link : Boards → Channel → Link
opened_link b c = record {
  time = 0;
  s_div = 0;
  r_div = 0;
  tx = empty_transmitter;
  channel = c;
  rx = idle_receiver;
  loaded = [];
  history = record { loaded = []; happened = []; sampled = [] };
}

opened_inv : (b : Boards) (c : Channel) → all_mark c.waiting ≡ true → Inv b (is_inverted c) (opened_link b c)
unfolding Matches stored_in OverrunTellsAnUntakenCharacter TakeAnswersTheLastStoredOnce
opened_inv b c h = record {
  arrived = record { past = []; phase = 0 };
  under_way = tags_from 1 c.waiting;
  sent = record { past = []; phase = 1 + length c.waiting };
  counts = replicate (length c.waiting) 0;
  s_low = some_q (control_of b.s.control).divider;
  r_low = some_q (control_of b.r.control).divider;
  sends = S.rests tt;
  loads = refl;
  chain = tags_chain b 0 c.waiting;
  carries = clear_carries b 1 c.waiting h;
  inverts = λ j. ap (is_inverted c) (zero-add j);
  follows = R.done tt tt;
  told = record { overruns = tt; takes = tt; holds = refl; latest = λ z. absurd (both_ways false refl z) };
}

pub inv_opened : (a b : Registers) (c : Channels) (clock : ℕ) (e : End) → is_clear c ≡ true → Inv (boards_to e (started a b c clock)) (is_inverted (channel_to e (started a b c clock))) (link_to e (start_of (started a b c clock)))
inv_opened a b c clock end.A h = opened_inv (boards_to end.A (started a b c clock)) c.toward_a (clear_to c clock a b end.A h)
inv_opened a b c clock end.B h = opened_inv (boards_to end.B (started a b c clock)) c.toward_b (clear_to c clock a b end.B h)

pub steady_opened : (a b : Registers) (c : Channels) (clock : ℕ) → Steady (started a b c clock) (started a b c clock)
steady_opened a b c clock end.A = (refl, refl)
steady_opened a b c clock end.B = (refl, refl)
