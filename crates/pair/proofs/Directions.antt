-- What calls do to a run, and to each of its two directions. Assumes nothing.
use Rattle.std.proofs.Common.{◌≡◌, ℕ, ◌+◌, Bool, true, false, cond, leb, List, ◌∷◌, is_ok, Some, Ok, Err, Result, sym, refl, ap, ◌∙◌, subst, arith}
use Rattle.faults.specs.declared.Cause.{Cause}
use Rattle.faults.specs.declared.Cause.TheVariants.{Recovering, NothingReceived}
use Rattle.faults.specs.declared.End.{End}
use Rattle.faults.specs.declared.End.TheVariants as end
use Rattle.faults.specs.declared.Fault.{Fault}
use Rattle.faults.specs.Faults.{end_number}
use Rattle.sections.specs.Receive.{released}
use Rattle.sections.specs.Transmit.{buffer_loaded}
use Rattle.acc.specs.declared.chip.Acc.{Acc}
use Rattle.acc.specs.declared.chip.Received.{Received}
use Rattle.acc.specs.Calls.{recovering, load_answer, load_of, take_answer, take_of, received_of}
use Rattle.acc.specs.Clock.{fires}
use Rattle.acc.specs.State.{with_transmitter, with_receiver}
use Rattle.pair.specs.declared.event.Event.{Event}
use Rattle.pair.specs.Bench.{Bench, chip, with_chip}
use Rattle.pair.specs.Calls.{after_call, asked, load_reply, load_done, take_reply, take_done, moment_reply}
use Rattle.pair.specs.Moment.{with_both, set_all, after_rank_2, moved}
use Rattle.pair.specs.Runs.{taken, History, Run, Call, load, take, moment, history, with_history, clock_noted, moment_noted, take_noted, after}
use Rattle.pair.proofs.Link.{noted}
use Rattle.pair.proofs.Conditions.{WritesAllowedBits, FallsInsideACharacter, CallAllowed}
use Rattle.pair.proofs.Ends.{kept_setting}

-- what a call did to a run
abbrev pub loaded_run : End → ℕ → Run → Run
loaded_run x c r =
    with_history x (record { loaded = c ∷ (history x r).loaded; happened = (history x r).happened; sampled = (history x r).sampled })
    (with_chip x (with_transmitter (buffer_loaded c (chip x r.bench).transmitter) (chip x r.bench)) r.bench) r

abbrev pub taken_run : End → Run → Run
taken_run x r =
    with_history x (record { loaded = (history x r).loaded; happened = taken (received_of (chip x r.bench)) ∷ (history x r).happened; sampled = (history x r).sampled })
    (with_chip x (with_receiver (released (chip x r.bench).receiver) (chip x r.bench)) r.bench) r

abbrev pub chip_noted : ℕ → Acc → Acc → History → History
chip_noted t before after h = noted (fires before) t before.receiver.state (received_of after) h

-- settings of DSR do not show in a history
settled_noted : (e : End) (vs : List Event) (t : ℕ) (before after : Acc) (h : History) → clock_noted t (set_all e vs before) after h ≡ chip_noted t before after h
settled_noted e vs t before after h = kept_setting (λ x. clock_noted t x after h) (λ v x. refl) e vs before

abbrev pub moved_run : List Event → Run → Run
moved_run vs r = record {
  bench = moved vs r.bench;
  time = r.time + 1;
  at_a = chip_noted r.time r.bench.a (after_rank_2 vs r.bench).a r.at_a;
  at_b = chip_noted r.time r.bench.b (after_rank_2 vs r.bench).b r.at_b;
}

-- o is the bench as open left it
pub data Does (o : Bench) : Run → Run → Type 0 where
  nothing : {r : Run} → Does o r r
  loads : {r : Run} (x : End) (c : ℕ) → (chip x r.bench).transmitter.xbre ≡ true → Does o r (loaded_run x c r)
  takes : {r : Run} (x : End) → (chip x r.bench).receiver.rbrl ≡ true → Does o r (taken_run x r)
  moves : {r : Run} (vs : List Event) → WritesAllowedBits vs → ((e : End) → FallsInsideACharacter o e vs r) → Does o r (moved_run vs r)

pub done_ok : {T : Type 0} (x : Result T Fault) (m n : Bench) → is_ok x ≡ true → after_call x m n ≡ m
done_ok x m n e = grind arith

-- an accepted call to an end is one that its chip accepts
asked_ok : {T : Type 0} (x : End) (fits : Bool) (ask : Acc → Result T Cause) (m : Bench) → is_ok (asked (Some x) fits ask m) ≡ true → is_ok (ask (chip x m)) ≡ true
asked_ok x fits ask m h = grind arith

load_ok : (c : ℕ) (x : Acc) → is_ok (load_answer x) ≡ true → (load_of c x ≡ with_transmitter (buffer_loaded c x.transmitter) x) × (x.transmitter.xbre ≡ true)
unfolding load_answer load_of
load_ok c x h = grind arith

-- an accepted load finds XBRE 1
pub load_empty : (x : End) (c : ℕ) (m : Bench) → is_ok (load_reply (end_number x) c m) ≡ true → (chip x m).transmitter.xbre ≡ true
load_empty end.A c m h = (load_ok c m.a (asked_ok end.A (leb c 255) load_answer m h)).1
load_empty end.B c m h = (load_ok c m.b (asked_ok end.B (leb c 255) load_answer m h)).1

load_leaves : (x : End) (c : ℕ) (m : Bench) → is_ok (load_reply (end_number x) c m) ≡ true → load_done (end_number x) c m ≡ with_chip x (with_transmitter (buffer_loaded c (chip x m).transmitter) (chip x m)) m
load_leaves end.A c m h = done_ok (load_reply 0 c m) (with_chip end.A (load_of c m.a) m) m h ∙ ap (λ y. with_chip end.A y m) (load_ok c m.a (asked_ok end.A (leb c 255) load_answer m h)).0
load_leaves end.B c m h = done_ok (load_reply 1 c m) (with_chip end.B (load_of c m.b) m) m h ∙ ap (λ y. with_chip end.B y m) (load_ok c m.b (asked_ok end.B (leb c 255) load_answer m h)).0

pub load_run : (x : End) (c : ℕ) (r : Run) → is_ok (load_reply (end_number x) c r.bench) ≡ true → after (load x c) r ≡ loaded_run x c r
unfolding after
load_run x c r h = rw h (ap (λ m. with_history x (record { loaded = c ∷ (history x r).loaded; happened = (history x r).happened; sampled = (history x r).sampled }) m r) (load_leaves x c r.bench h))

load_refused : (x : End) (c : ℕ) (r : Run) → is_ok (load_reply (end_number x) c r.bench) ≡ false → after (load x c) r ≡ r
unfolding after
load_refused x c r h = rw h refl

pub moment_refused : (vs : List Event) (r : Run) → is_ok (moment_reply vs r.bench) ≡ false → after (moment vs) r ≡ r
unfolding after
moment_refused vs r h = rw h refl

-- a take, by its answer
pub record Took (x : Acc) (y : Received) : Type 0 where
  pub answered : y ≡ received_of x
  pub found : x.receiver.rbrl ≡ true
  pub leaves : take_of x ≡ with_receiver (released x.receiver) x

take_ok : (x : Acc) (y : Received) → take_answer x ≡ Ok y → Took x y
unfolding take_answer take_of
take_ok x y h = by (recovering x) x.receiver.rbrl refl refl h
  where
    by : (r b : Bool) → recovering x ≡ r → x.receiver.rbrl ≡ b → cond r (Err Recovering) (cond b (Ok (received_of x)) (Err NothingReceived)) ≡ Ok y → Took x y
    by true b j k e = cc
    by false false j k e = cc
    by false true j k e = record {
      answered = (let z : y ≡ received_of x = cc in z);
      found = k;
      leaves = rw (j, k) refl;
    }

asked_answer : {T : Type 0} (x : End) (ask : Acc → Result T Cause) (m : Bench) (y : T) → asked (Some x) true ask m ≡ Ok y → ask (chip x m) ≡ Ok y
asked_answer x ask m y h = grind arith

took : (x : End) (m : Bench) (y : Received) → take_reply (end_number x) m ≡ Ok y → Took (chip x m) y
took end.A m y h = take_ok m.a y (asked_answer end.A take_answer m y h)
took end.B m y h = take_ok m.b y (asked_answer end.B take_answer m y h)

take_leaves : (x : End) (m : Bench) (y : Received) → take_reply (end_number x) m ≡ Ok y → take_done (end_number x) m ≡ with_chip x (with_receiver (released (chip x m).receiver) (chip x m)) m
take_leaves end.A m y h = ap (λ z. after_call z (with_chip end.A (take_of m.a) m) m) h ∙ ap (λ z. with_chip end.A z m) (took end.A m y h).leaves
take_leaves end.B m y h = ap (λ z. after_call z (with_chip end.B (take_of m.b) m) m) h ∙ ap (λ z. with_chip end.B z m) (took end.B m y h).leaves

abbrev noted_take : End → Run → Received → Bench → Run
noted_take x r y m = with_history x (record { loaded = (history x r).loaded; happened = taken y ∷ (history x r).happened; sampled = (history x r).sampled }) m r

take_run : (o : Bench) (x : End) (r : Run) → Does o r (after (take x) r)
unfolding after
take_run o x r = by (take_reply (end_number x) r.bench) refl
  where
    by : (z : Result Received Fault) → take_reply (end_number x) r.bench ≡ z → Does o r (take_noted x z r)
    by (Err f) h = nothing
    by (Ok y) h = subst (λ s. Does o r s) (sym (ap (λ v. noted_take x r v (take_done (end_number x) r.bench)) (took x r.bench y h).answered ∙ ap (noted_take x r (received_of (chip x r.bench))) (take_leaves x r.bench y h))) (takes x (took x r.bench y h).found)

moment_run : (vs : List Event) (r : Run) → is_ok (moment_reply vs r.bench) ≡ true → moment_noted vs r ≡ moved_run vs r
moment_run vs r h =
    let before = with_both (λ e. set_all e vs) r.bench in
    let k = after_rank_2 vs r.bench in
    ap (λ m. record { bench = m; time = r.time + 1; at_a = clock_noted r.time before.a k.a r.at_a; at_b = clock_noted r.time before.b k.b r.at_b }) (done_ok (moment_reply vs r.bench) (moved vs r.bench) r.bench h)
    ∙ ap (λ g. record { bench = moved vs r.bench; time = r.time + 1; at_a = g; at_b = clock_noted r.time before.b k.b r.at_b }) (settled_noted end.A vs r.time r.bench.a k.a r.at_a)
    ∙ ap (λ g. record { bench = moved vs r.bench; time = r.time + 1; at_a = chip_noted r.time r.bench.a k.a r.at_a; at_b = g }) (settled_noted end.B vs r.time r.bench.b k.b r.at_b)

pub moment_after : (vs : List Event) (r : Run) → is_ok (moment_reply vs r.bench) ≡ true → after (moment vs) r ≡ moved_run vs r
unfolding after
moment_after vs r h = rw h (moment_run vs r h)

pub does : (o : Bench) (c : Call) (r : Run) → CallAllowed o c r → Does o r (after c r)
does o (load x c) r f = by (is_ok (load_reply (end_number x) c r.bench)) refl
  where
    by : (b : Bool) → is_ok (load_reply (end_number x) c r.bench) ≡ b → Does o r (after (load x c) r)
    by true h = subst (λ s. Does o r s) (sym (load_run x c r h)) (loads x c (load_empty x c r.bench h))
    by false h = subst (λ s. Does o r s) (sym (load_refused x c r h)) nothing
does o (take x) r f = take_run o x r
does o (moment vs) r f = by (is_ok (moment_reply vs r.bench)) refl
  where
    by : (b : Bool) → is_ok (moment_reply vs r.bench) ≡ b → Does o r (after (moment vs) r)
    by true h = subst (λ s. Does o r s) (sym (moment_after vs r h)) (moves vs (f h).0 (f h).1)
    by false h = subst (λ s. Does o r s) (sym (moment_refused vs r h)) nothing
