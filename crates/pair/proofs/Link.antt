-- One direction of the bench: a transmitter, its channel, the receiver opposite, and what happened. Assumes nothing.
use Rattle.std.proofs.Common.{◌≡◌, ℕ, suc, ◌+◌, ◌*◌, ◌^◌, ◌<◌, ◌≤◌, Bool, true, false, cond, not, ◌&&◌, ltb, leb, ◌⊎◌, List, [], ◌∷◌, ◌++◌, sym, refl, ap, ◌∙◌, inl, inr, add-zero, add-one, arith}
use Rattle.std.proofs.lemmas.Bool.{cases_lt, le-leb, lt-leb, both_ways}
use Rattle.timing.specs.declared.counts.Divider.{Divider}
use Rattle.timing.specs.declared.counts.Divider.TheVariants.{By3, By4}
use Rattle.timing.specs.declared.registers.Format.{Format}
use Rattle.timing.specs.declared.registers.StopLength.{StopLength}
use Rattle.timing.specs.Counts.{q}
use Rattle.timing.specs.Registers.{samples, control_of, half_count}
use Rattle.timing.proofs.HalfBits.{half_count_some}
use Rattle.sections.specs.declared.receiver.Receiving.{Receiving}
use Rattle.sections.specs.declared.receiver.Receiving.TheVariants.{Idle, Half, Character}
use Rattle.sections.specs.declared.receiver.Receiver.{Receiver}
use Rattle.sections.specs.declared.transmitter.Transmitter.{Transmitter}
use Rattle.sections.specs.Receive.{rsbd, listen, heard, in_state, stored}
use Rattle.sections.specs.Transmit.{send, runs_out, countdown, lowered}
use Rattle.cable.specs.Channels.{Channel, handed, stepped}
use Rattle.cable.specs.Passing.{turned}
use Rattle.cable.specs.Turnings.{behind_first, counts_entered, count_handed, odd}
use Rattle.acc.specs.declared.chip.Received.{Received}
use Rattle.acc.specs.declared.chip.Registers.{Registers}
use Rattle.pair.specs.Runs.{Stored, Happening, History, samples_at, first_sample, stops_at}
use Rattle.pair.specs.Runs as runs
use Rattle.pair.specs.Copies.{stored_in, one_waits, Waits, OverrunTellsAnUntakenCharacter, TakeAnswersTheLastStoredOnce}
use Rattle.pair.specs.Law.{q_at}
use Rattle.pair.proofs.Carrying.{Carries, arriving, still_under_way, step_carries}
use Rattle.pair.proofs.Waves.{Tag, level_at, Next, on}
use Rattle.pair.proofs.Sender as S
use Rattle.pair.proofs.Sender.{Sends, starts, starts_full, sends_level}
use Rattle.pair.proofs.Receiver as R
use Rattle.pair.proofs.Receiver.{Windows, Follows, held_by, kept, marked}

-- the registers of the board that sends and of the one that receives, which stay while the bench runs
pub record Boards : Type 0 where
  pub s : Registers
  pub r : Registers

abbrev pub format : Boards → Format
format b = (control_of b.s.control).format

abbrev pub stop : Boards → StopLength
stop b = (control_of b.s.control).stop

abbrev pub sent_half : Boards → ℕ
sent_half b = half_count b.s.transmit_rate * q_at b.s

abbrev pub heard_count : Boards → ℕ
heard_count b = half_count b.r.receive_rate

pub some_q : (d : Divider) → 0 < q d
some_q By3 = omega arith
some_q By4 = omega arith

pub record Link : Type 0 where
  pub time : ℕ
  pub s_div : ℕ
  pub r_div : ℕ
  pub tx : Transmitter
  pub channel : Channel
  pub rx : Receiver
  pub loaded : List ℕ
  pub history : History

-- whether a divider has an internal clock at the next φ clock, and where it then stands
abbrev pub due : ℕ → ℕ → Bool
due n d = leb n (d + 1)

abbrev pub advanced : ℕ → ℕ → ℕ
advanced n d = cond (due n d) 0 (d + 1)

abbrev pub level_heard : Link → Bool → Bool
level_heard l control = (handed l.channel (l.tx.xout, control)).0

abbrev pub rx_after : Boards → Bool → Link → Receiver
rx_after b v l = cond (due (q_at b.r) l.r_div) (listen b.r.control b.r.receive_rate v l.rx) l.rx

abbrev pub tx_by : Boards → Bool → Bool → Link → Transmitter
tx_by b fired go l = cond fired (send b.s.control b.s.transmit_rate false go l.tx) l.tx

-- what a φ clock adds to a history: fired tells whether it was an internal clock, t is the number of the step, state is the receiver's before the clock
-- and x what it holds after it
abbrev pub noted : Bool → ℕ → Receiving → Received → History → History
noted fired t state x h =
    cond (fired && stops_at state)
    (record { loaded = h.loaded; happened = runs.stored (record { received = x; steps = h.sampled }) ∷ h.happened; sampled = [] })
    (cond (fired && samples_at state)
    (record { loaded = h.loaded; happened = h.happened; sampled = cond (first_sample state) [] h.sampled ++ t ∷ [] })
    h)

abbrev pub history_after : Boards → Bool → Link → History
history_after b v l = noted (due (q_at b.r) l.r_div) l.time l.rx.state (held_by (rx_after b v l)) l.history

-- one φ clock; go: RTS and CTS are active at the sender, control: its RTS
abbrev pub clocked : Boards → Bool → Bool → Link → Link
clocked b go control l = record {
  time = l.time + 1;
  s_div = advanced (q_at b.s) l.s_div;
  r_div = advanced (q_at b.r) l.r_div;
  tx = tx_by b (due (q_at b.s) l.s_div) go l;
  channel = stepped l.channel (l.tx.xout, control);
  rx = rx_after b (level_heard l control) l;
  loaded = l.loaded;
  history = history_after b (level_heard l control) l;
}

abbrev pub Step : Boards → Tag → Tag → Type 0
Step b τ υ = Next (format b) (sent_half b) τ.past τ.phase υ.past υ.phase

abbrev pub level : Boards → Tag → Bool
level b τ = level_at (format b) (sent_half b) τ.past τ.phase

-- each tag is the next of the one before it
unfoldable pub Chain : Boards → Tag → List Tag → Tag → Type 0
Chain b τ [] υ = Step b τ υ
Chain b τ (φ ∷ ts) υ = Step b τ φ × Chain b φ ts υ

pub chain_arrives : (b : Boards) (τ : Tag) (ts : List Tag) (υ : Tag) → Chain b τ ts υ → Step b τ (arriving (level b) ts υ)
unfolding Chain
chain_arrives b τ [] υ c = c
chain_arrives b τ (φ ∷ ts) υ c = c.0

chain_push : (b : Boards) (τ : Tag) (ts : List Tag) (υ φ : Tag) → Chain b τ ts υ → Step b υ φ → Chain b τ (ts ++ υ ∷ []) φ
unfolding Chain
chain_push b τ [] υ φ c n = (c, n)
chain_push b τ (ψ ∷ ts) υ φ c n = (c.0, chain_push b ψ ts υ φ c.1 n)

pub chain_left : (b : Boards) (τ : Tag) (ts : List Tag) (υ φ : Tag) → Chain b τ ts υ → Step b υ φ → Chain b (arriving (level b) ts υ) (still_under_way (level b) ts υ) φ
unfolding Chain
chain_left b τ [] υ φ c n = n
chain_left b τ (ψ ∷ ts) υ φ c n = chain_push b ψ ts υ φ c.1 n

-- what a history says of RBRL and of the character held
pub record Told (rx : Receiver) (hs : List Happening) : Type 0 where
  pub overruns : OverrunTellsAnUntakenCharacter hs
  pub takes : TakeAnswersTheLastStoredOnce hs
  pub holds : rx.rbrl ≡ one_waits hs
  pub latest : one_waits hs ≡ true → Waits (held_by rx) hs

-- σ t: the pair handed out at step t is inverted
pub record Inv (b : Boards) (σ : ℕ → Bool) (l : Link) : Type 0 where
  pub arrived : Tag
  pub under_way : List Tag
  pub sent : Tag
  pub counts : List ℕ
  pub s_low : l.s_div < q_at b.s
  pub r_low : l.r_div < q_at b.r
  pub sends : Sends (format b) (stop b) (q_at b.s) (half_count b.s.transmit_rate) sent.past sent.phase l.s_div l.tx.state l.tx.xout
  pub loads : l.loaded ≡ cond l.tx.xbre sent.past (l.tx.buffer ∷ sent.past)
  pub chain : Chain b arrived under_way sent
  pub carries : Carries (level b) l.channel.waiting counts under_way
  pub inverts : (j : ℕ) → σ (l.time + j) ≡ odd (count_handed l.channel.flips counts j)
  pub follows : Follows (format b) (sent_half b) (q_at b.r) (heard_count b) σ (stored_in l.history.happened) arrived.past arrived.phase l.r_div l.rx.state l.rx.seen l.history.sampled
  pub told : Told l.rx l.history.happened

-- the conditions on the two boards
pub record Fit (b : Boards) : Type 0 where
  pub same : (control_of b.r.control).format ≡ format b
  pub windows : Windows (format b) (sent_half b) (q_at b.r) (heard_count b)

-- a pair that is inverted arrives inside a character
abbrev pub Inside : Boards → (ℕ → Bool) → Bool → Link → Type 0
Inside b σ control l = σ l.time ≡ true → (rsbd l.rx ≡ true) × (rsbd (rx_after b (level_heard l control) l) ≡ true)

-- an internal clock, and what is told after it
told_by : (control rate : ℕ) (v : Bool) (r : Receiver) (st : Receiving) (t : ℕ) (h : History) → Told r h.happened →
    Told (heard st control rate v r) (noted true t st (held_by (heard st control rate v r)) h).happened
unfolding OverrunTellsAnUntakenCharacter TakeAnswersTheLastStoredOnce
told_by control rate v r Idle t h z = record { overruns = z.overruns; takes = z.takes; holds = z.holds; latest = z.latest }
told_by control rate v r (Half left) t h z = record { overruns = z.overruns; takes = z.takes; holds = z.holds; latest = z.latest }
told_by control rate v r (Character f left n taken) t h z = by (runs_out left) (ltb taken (samples f))
  where
    was : Receiver
    was = in_state r.state v r

    after : Bool → Bool → Receiver
    after a b = cond a (cond b (in_state (Character f (countdown rate 2) (n + cond v (2 ^ taken) 0) (taken + 1)) was.seen was) (stored f n v was)) (in_state (Character f (lowered left) n taken) was.seen was)

    noted_by : Bool → Bool → History
    noted_by a b =
        cond (a && not b)
        (record { loaded = h.loaded; happened = runs.stored (record { received = held_by (after a b); steps = h.sampled }) ∷ h.happened; sampled = [] })
        (cond (a && b)
        (record { loaded = h.loaded; happened = h.happened; sampled = cond (first_sample (Character f left n taken)) [] h.sampled ++ t ∷ [] })
        h)

    by : (a b : Bool) → Told (after a b) (noted_by a b).happened
    by true true = record { overruns = z.overruns; takes = z.takes; holds = z.holds; latest = z.latest }
    by true false = record { overruns = (z.holds, z.overruns); takes = z.takes; holds = refl; latest = λ _. refl }
    by false b = record { overruns = z.overruns; takes = z.takes; holds = z.holds; latest = z.latest }

pub told_after : (fired : Bool) (control rate : ℕ) (v : Bool) (r : Receiver) (t : ℕ) (h : History) → Told r h.happened →
    Told (cond fired (listen control rate v r) r) (noted fired t r.state (held_by (cond fired (listen control rate v r) r)) h).happened
unfolding listen
told_after false control rate v r t h z = z
told_after true control rate v r t h z = told_by control rate v r r.state t h z

-- what a clock adds to a history
pub noted_stored : (fired : Bool) (t : ℕ) (st : Receiving) (r : Receiver) (h : History) →
    stored_in (noted fired t st (held_by r) h).happened ≡ cond fired (kept st r h.sampled (stored_in h.happened)) (stored_in h.happened)
unfolding stored_in
noted_stored false t st r h = refl
noted_stored true t st r h = by (stops_at st) (samples_at st)
  where
    by : (a b : Bool) → stored_in (cond a (record { loaded = h.loaded; happened = runs.stored (record { received = held_by r; steps = h.sampled }) ∷ h.happened; sampled = [] }) (cond b (record { loaded = h.loaded; happened = h.happened; sampled = cond (first_sample st) [] h.sampled ++ t ∷ [] }) h)).happened
        ≡ cond a (record { received = held_by r; steps = h.sampled } ∷ stored_in h.happened) (stored_in h.happened)
    by true b = refl
    by false true = refl
    by false false = refl

pub noted_sampled : (fired : Bool) (t : ℕ) (st : Receiving) (x : Received) (h : History) → (noted fired t st x h).sampled ≡ cond fired (marked t st h.sampled) h.sampled
noted_sampled false t st x h = refl
noted_sampled true t st x h = by (stops_at st) (samples_at st)
  where
    by : (a b : Bool) → (cond a (record { loaded = h.loaded; happened = runs.stored (record { received = x; steps = h.sampled }) ∷ h.happened; sampled = [] }) (cond b (record { loaded = h.loaded; happened = h.happened; sampled = cond (first_sample st) [] h.sampled ++ t ∷ [] }) h)).sampled
        ≡ cond a [] (cond b (cond (first_sample st) [] h.sampled ++ t ∷ []) h.sampled)
    by true b = refl
    by false true = refl
    by false false = refl

pub low_on : (n d : ℕ) → d < n → advanced n d < n
low_on n d h = by (cases_lt (d + 1) n)
  where
    by : (d + 1 < n) ⊎ (n ≤ d + 1) → advanced n d < n
    by (inl k) = rw (lt-leb n (d + 1) k) k
    by (inr k) = rw (le-leb n (d + 1) k) (omega arith)

module _ (b : Boards) (fit : Fit b) (σ : ℕ → Bool) where
  pub q_some : 0 < q_at b.s
  q_some = some_q (control_of b.s.control).divider

  pub h_some : 0 < half_count b.s.transmit_rate
  h_some = half_count_some b.s.transmit_rate

  -- the sender over one φ clock; fired: an internal clock
  pub record Onward (fired : Bool) (go : Bool) (l : Link) (τ : Tag) : Type 0 where
    pub to : Tag
    pub step : Step b τ to
    pub sends : Sends (format b) (stop b) (q_at b.s) (half_count b.s.transmit_rate) to.past to.phase (cond fired 0 (l.s_div + 1)) (tx_by b fired go l).state (tx_by b fired go l).xout
    pub loads : l.loaded ≡ cond (tx_by b fired go l).xbre to.past ((tx_by b fired go l).buffer ∷ to.past)
    pub stays : fired ≡ false → to.past ≡ τ.past
    -- a full, idle transmitter begins at an internal clock with go
    pub begins : fired ≡ true → starts l.tx.xbre go l.tx.state ≡ true → (to.past ≡ l.tx.buffer ∷ τ.past)

  pub onward : (go : Bool) (l : Link) (i : Inv b σ l) → Onward (due (q_at b.s) l.s_div) go l i.sent
  onward go l i = by (cases_lt (l.s_div + 1) (q_at b.s))
    where
      by : (l.s_div + 1 < q_at b.s) ⊎ (q_at b.s ≤ l.s_div + 1) → Onward (due (q_at b.s) l.s_div) go l i.sent
      by (inl k) =
          let e : leb (q_at b.s) (l.s_div + 1) ≡ false = lt-leb (q_at b.s) (l.s_div + 1) k in
          let w = S.waits (q_at b.s) (half_count b.s.transmit_rate) q_some h_some (format b) (stop b) i.sends in
          let w2 : Sends (format b) (stop b) (q_at b.s) (half_count b.s.transmit_rate) i.sent.past (suc i.sent.phase) (l.s_div + 1) l.tx.state l.tx.xout = rw (add-one l.s_div) w in
          rw e (record {
            to = record { past = i.sent.past; phase = suc i.sent.phase };
            step = on;
            sends = w2;
            loads = i.loads;
            stays = λ _. refl;
            begins = λ y. absurd (both_ways false refl y);
          })
      by (inr k) =
          let e : leb (q_at b.s) (l.s_div + 1) ≡ true = le-leb (q_at b.s) (l.s_div + 1) k in
          let d : suc l.s_div ≡ q_at b.s = omega (arith, i.s_low) in
          let z = S.clocks b.s.control b.s.transmit_rate (q_at b.s) q_some l.tx.xbre l.tx.buffer go d i.sends in
          rw e (record {
            to = record { past = cond (starts l.tx.xbre go l.tx.state) (l.tx.buffer ∷ i.sent.past) i.sent.past; phase = cond (starts l.tx.xbre go l.tx.state) 0 (suc i.sent.phase) };
            step = z.next;
            sends = z.sending;
            loads = more (starts l.tx.xbre go l.tx.state) (starts_full l.tx.xbre go l.tx.state) z.xbre_is z.buffer_is;
            stays = λ y. absurd (both_ways true y refl);
            begins = λ _ y. rw y refl;
          })
        where
          y : Transmitter
          y = send b.s.control b.s.transmit_rate false go l.tx

          more : (c : Bool) → (c ≡ true → l.tx.xbre ≡ false) → y.xbre ≡ cond c true l.tx.xbre → y.buffer ≡ l.tx.buffer →
              l.loaded ≡ cond y.xbre (cond c (l.tx.buffer ∷ i.sent.past) i.sent.past) (y.buffer ∷ cond c (l.tx.buffer ∷ i.sent.past) i.sent.past)
          more true a c d = rw c (i.loads ∙ rw (a refl))
          more false a c d = rw (c, d) i.loads

  -- the receiver over one φ clock
  pub heard_on : (l : Link) (i : Inv b σ l) (v : Bool) (υ : Tag) → Step b i.arrived υ → v ≡ turned (σ l.time) (level b υ) →
      (σ l.time ≡ true → (rsbd l.rx ≡ true) × (rsbd (rx_after b v l) ≡ true)) →
      Follows (format b) (sent_half b) (q_at b.r) (heard_count b) σ
      (cond (due (q_at b.r) l.r_div) (kept l.rx.state (rx_after b v l) l.history.sampled (stored_in l.history.happened)) (stored_in l.history.happened))
      υ.past υ.phase (advanced (q_at b.r) l.r_div) (rx_after b v l).state (rx_after b v l).seen
      (cond (due (q_at b.r) l.r_div) (marked l.time l.rx.state l.history.sampled) l.history.sampled)
  unfolding listen
  heard_on l i v υ n hv inside = by (cases_lt (l.r_div + 1) (q_at b.r))
    where
      by : (l.r_div + 1 < q_at b.r) ⊎ (q_at b.r ≤ l.r_div + 1) →
          Follows (format b) (sent_half b) (q_at b.r) (heard_count b) σ
          (cond (due (q_at b.r) l.r_div) (kept l.rx.state (rx_after b v l) l.history.sampled (stored_in l.history.happened)) (stored_in l.history.happened))
          υ.past υ.phase (advanced (q_at b.r) l.r_div) (rx_after b v l).state (rx_after b v l).seen
          (cond (due (q_at b.r) l.r_div) (marked l.time l.rx.state l.history.sampled) l.history.sampled)
      by (inl k) =
          let e : leb (q_at b.r) (l.r_div + 1) ≡ false = lt-leb (q_at b.r) (l.r_div + 1) k in
          let z = R.waits (format b) (sent_half b) (q_at b.r) (heard_count b) fit.windows σ (omega arith) i.follows n in
          rw (e, add-one l.r_div) z
      by (inr k) =
          let e : leb (q_at b.r) (l.r_div + 1) ≡ true = le-leb (q_at b.r) (l.r_div + 1) k in
          let d : suc l.r_div ≡ q_at b.r = omega (arith, i.r_low) in
          let z = R.clocks b.r.control b.r.receive_rate (format b) fit.same (sent_half b) (q_at b.r) fit.windows σ l.rx.buffer l.rx.rbrl l.rx.rfer l.rx.rover l.rx.rper l.time v d i.follows n hv (rw e at inside) in
          rw e z

  pub inverts_on : (l : Link) (i : Inv b σ l) (control : Bool) (j : ℕ) → σ (l.time + 1 + j) ≡ odd (count_handed (stepped l.channel (l.tx.xout, control)).flips (behind_first (counts_entered l.channel.flips i.counts)) j)
  unfolding stepped count_handed
  inverts_on l i control j = ap σ (let e : l.time + 1 + j ≡ l.time + suc j = omega arith in e) ∙ i.inverts (suc j)

  -- one φ clock keeps all that
  unfoldable pub clock_keeps : (go control : Bool) (l : Link) (i : Inv b σ l) → Inside b σ control l → Inv b σ (clocked b go control l)
  clock_keeps go control l i inside =
      let z = onward go l i in
      let lv = sends_level (q_at b.s) (half_count b.s.transmit_rate) q_some h_some (format b) (stop b) i.s_low i.sends in
      let c = step_carries (level b) l.channel i.counts i.under_way (l.tx.xout, control) i.sent i.carries lv in
      let n = chain_arrives b i.arrived i.under_way i.sent i.chain in
      let now : σ l.time ≡ odd (count_handed l.channel.flips i.counts 0) = ap σ (sym (add-zero l.time)) ∙ i.inverts 0 in
      let hv : level_heard l control ≡ turned (σ l.time) (level b (arriving (level b) i.under_way i.sent)) =
      c.0 ∙ ap (λ x. turned x (level b (arriving (level b) i.under_way i.sent))) (sym now) in
      let r = heard_on l i (level_heard l control) (arriving (level b) i.under_way i.sent) n hv inside in
      let t = told_after (due (q_at b.r) l.r_div) b.r.control b.r.receive_rate (level_heard l control) l.rx l.time l.history i.told in
      let k = noted_stored (due (q_at b.r) l.r_div) l.time l.rx.state (rx_after b (level_heard l control) l) l.history in
      let m = noted_sampled (due (q_at b.r) l.r_div) l.time l.rx.state (held_by (rx_after b (level_heard l control) l)) l.history in
      record {
        arrived = arriving (level b) i.under_way i.sent;
        under_way = still_under_way (level b) i.under_way i.sent;
        sent = z.to;
        counts = behind_first (counts_entered l.channel.flips i.counts);
        s_low = low_on (q_at b.s) l.s_div i.s_low;
        r_low = low_on (q_at b.r) l.r_div i.r_low;
        sends = z.sends;
        loads = z.loads;
        chain = chain_left b i.arrived i.under_way i.sent z.to i.chain z.step;
        carries = c.1;
        inverts = inverts_on l i control;
        follows = rw (k, m) r;
        told = t;
      }
