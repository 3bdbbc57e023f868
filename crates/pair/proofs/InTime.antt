-- A character that waits to be sent and may go is stored in time. Assumes nothing.
use Rattle.std.proofs.Common.{◌≡◌, ℕ, zero, suc, ◌+◌, ◌-◌, ◌*◌, ◌<◌, ◌≤◌, Bool, true, false, not, ◌⊎◌, List, [], ◌∷◌, ◌++◌, length, get_or, sym, refl, ap, ◌∙◌, subst, inl, inr, mul-le-mul_right, arith}
use Rattle.std.proofs.lemmas.List.{get_or_push, length_push, get_or_append_left, get_or_default}
use Rattle.std.proofs.lemmas.Bool.{leb-true, and_from, not_from_false}
use Rattle.timing.specs.declared.registers.Format.{Format}
use Rattle.timing.specs.Registers.{samples, half_count}
use Rattle.sections.specs.declared.receiver.Receiving.{Receiving}
use Rattle.sections.specs.declared.transmitter.Sending.{Sending}
use Rattle.sections.specs.declared.transmitter.Sending.TheVariants.{Idle}
use Rattle.pair.specs.Runs.{Stored}
use Rattle.pair.specs.Copies.{stored_in}
use Rattle.pair.specs.Law.{q_at}
use Rattle.pair.proofs.Carrying.{arriving, still_under_way}
use Rattle.pair.proofs.Waves.{Tag, Ended, Next, on, fresh}
use Rattle.pair.proofs.Sender.{starts, Sends, rests, sends, stops}
use Rattle.pair.proofs.Receiver.{Matches, Follows, done, edge, begun, within}
use Rattle.pair.proofs.Link.{Boards, format, stop, sent_half, heard_count, Link, due, clocked, level, Inv, Fit, Inside, clock_keeps, chain_arrives, onward}

pub matches_length : (f : Format) (σ : ℕ → Bool) (ss : List Stored) (p : List ℕ) → Matches f σ ss p → length ss ≡ length p
unfolding Matches
matches_length f σ [] [] m = refl
matches_length f σ [] (c ∷ p) m = absurd m
matches_length f σ (s ∷ ss) [] m = absurd m
matches_length f σ (s ∷ ss) (c ∷ p) m = ap suc (matches_length f σ ss p m.1)

-- n characters have begun, the n-th at least j φ clocks ago
abbrev Since : ℕ → ℕ → Tag → Type 0
Since n j τ = (n < length τ.past) ⊎ ((length τ.past ≡ n) × (j ≤ τ.phase))

since_on : (f : Format) (T n j : ℕ) (p : List ℕ) (x : ℕ) (p' : List ℕ) (x' : ℕ) → Next f T p x p' x' →
    (n < length p) ⊎ ((length p ≡ n) × (j ≤ x)) → (n < length p') ⊎ ((length p' ≡ n) × (suc j ≤ x'))
since_on f T n j p x p' x' on (inl k) = inl k
since_on f T n j p x p' x' on (inr k) = inr (k.0, omega (arith, k.1))
since_on f T n j p x p' x' (fresh e) (inl k) = inl (omega arith)
since_on f T n j p x p' x' (fresh e) (inr k) = inl (omega (arith, k.0))

-- from the arrival of a start to the clock of its stop sample, at most
abbrev pub reach : Boards → ℕ
reach b = q_at b.r - 1 + (2 * samples (format b) + 3) * (heard_count b * q_at b.r)

-- the n-th character waits in the buffer for the next internal clock, and r φ clocks from now it will be stored
pub record Queued (b : Boards) (n r : ℕ) (l : Link) (ts : List Tag) (sent : Tag) : Type 0 where
  pub idle : l.tx.state ≡ Idle
  pub full : l.tx.xbre ≡ false
  pub next : suc (length sent.past) ≡ n
  pub cost : q_at b.s + length ts + reach b + 1 ≤ r + l.s_div

-- the waveform j φ clocks or more after its start is on the way, k pairs from the front, or has arrived
pub data Moving (b : Boards) (n r : ℕ) (arrived : Tag) (ts : List Tag) (sent : Tag) : Type 0 where
  ahead : (k j : ℕ) → k ≤ length ts → Since n j (get_or (ts ++ sent ∷ []) k sent) → k + 1 ≤ r → k + 1 + reach b ≤ r + j → Moving b n r arrived ts sent
  here : (j : ℕ) → Since n j arrived → reach b ≤ r + j → Moving b n r arrived ts sent

module _ (b : Boards) where
  arriving_is : (ts : List Tag) (τ : Tag) → arriving (level b) ts τ ≡ get_or (ts ++ τ ∷ []) 0 τ
  arriving_is [] τ = refl
  arriving_is (x ∷ ts) τ = refl

  left_is : (ts : List Tag) (τ : Tag) (j : ℕ) → get_or (still_under_way (level b) ts τ) j τ ≡ get_or (ts ++ τ ∷ []) (suc j) τ
  left_is [] τ j = refl
  left_is (x ∷ ts) τ j = refl

  pub length_left : (ts : List Tag) (τ : Tag) → length (still_under_way (level b) ts τ) ≡ length ts
  length_left [] τ = refl
  length_left (x ∷ ts) τ = length_push ts τ ∙ omega arith

module _ (b : Boards) (fit : Fit b) (σ : ℕ → Bool) where
  module _ (n r : ℕ) (go control : Bool) (l : Link) (i : Inv b σ l) where
    same_length : length (still_under_way (level b) i.under_way i.sent) ≡ length i.under_way
    same_length = length_left b i.under_way i.sent

    waits_by : due (q_at b.s) l.s_div ≡ false → Queued b n r l i.under_way i.sent →
        Queued b n (r - 1) (clocked b go control l) (still_under_way (level b) i.under_way i.sent) (onward b fit σ go l i).to
    waits_by e z = record {
      idle = rw e z.idle;
      full = rw e z.full;
      next = ap (λ p. suc (length p)) ((onward b fit σ go l i).stays e) ∙ z.next;
      cost = rw e (omega (arith, same_length, z.cost, i.s_low));
    }

    begins_by : due (q_at b.s) l.s_div ≡ true → go ≡ true → Queued b n r l i.under_way i.sent →
        Moving b n (r - 1) (arriving (level b) i.under_way i.sent) (still_under_way (level b) i.under_way i.sent) (onward b fit σ go l i).to
    begins_by e g z =
        let s : starts l.tx.xbre go l.tx.state ≡ true = rw z.idle (and_from (not l.tx.xbre) go (not_from_false l.tx.xbre z.full) g) in
        let p = (onward b fit σ go l i).begins e s in
        let a = get_or_push (still_under_way (level b) i.under_way i.sent) (onward b fit σ go l i).to (onward b fit σ go l i).to (length i.under_way) same_length in
        let k : q_at b.s ≤ l.s_div + 1 = leb-true (q_at b.s) (l.s_div + 1) e in
        ahead (length i.under_way) 0 (omega (arith, same_length)) (subst (Since n 0) (sym a) (inr (ap length p ∙ z.next, omega arith))) (omega (arith, i.s_low, z.cost)) (omega (arith, i.s_low, z.cost))

    moves_by : Moving b n r i.arrived i.under_way i.sent →
        Moving b n (r - 1) (arriving (level b) i.under_way i.sent) (still_under_way (level b) i.under_way i.sent) (onward b fit σ go l i).to
    moves_by (ahead zero j hk since left cost) = here j (subst (Since n j) (sym (arriving_is b i.under_way i.sent)) since) (omega arith)
    moves_by (ahead (suc k) j hk since left cost) =
        let t = left_is b i.under_way i.sent k in
        let h : k < length (still_under_way (level b) i.under_way i.sent) = omega (arith, same_length) in
        let a = get_or_append_left (still_under_way (level b) i.under_way i.sent) ((onward b fit σ go l i).to ∷ []) (onward b fit σ go l i).to k h in
        let d = get_or_default (still_under_way (level b) i.under_way i.sent) k (onward b fit σ go l i).to i.sent h in
        ahead k j (omega (arith, same_length)) (subst (Since n j) (sym (a ∙ d ∙ t)) since) (omega arith) (omega arith)
    moves_by (here j since cost) =
        here (suc j) (since_on (format b) (sent_half b) n j _ _ _ _ (chain_arrives b i.arrived i.under_way i.sent i.chain) since) (omega arith)

  abbrev pub Queues : ℕ → ℕ → (l : Link) → Inv b σ l → Type 0
  Queues n r l i = Queued b n r l i.under_way i.sent

  abbrev pub Moves : ℕ → ℕ → (l : Link) → Inv b σ l → Type 0
  Moves n r l i = Moving b n r i.arrived i.under_way i.sent

  module _ (n r : ℕ) (go control : Bool) (l : Link) (i : Inv b σ l) (inside : Inside b σ control l) where
    pub queue_waits : due (q_at b.s) l.s_div ≡ false → Queues n r l i → Queues n (r - 1) (clocked b go control l) (clock_keeps b fit σ go control l i inside)
    unfolding clock_keeps
    queue_waits e z = waits_by n r go control l i e z

    pub queue_begins : due (q_at b.s) l.s_div ≡ true → go ≡ true → Queues n r l i → Moves n (r - 1) (clocked b go control l) (clock_keeps b fit σ go control l i inside)
    unfolding clock_keeps
    queue_begins e g z = begins_by n r go control l i e g z

    pub moves_on : Moves n r l i → Moves n (r - 1) (clocked b go control l) (clock_keeps b fit σ go control l i inside)
    unfolding clock_keeps
    moves_on z = moves_by n r go control l i z

  arrived_all : (n j : ℕ) {ss : List Stored} {p : List ℕ} {x d : ℕ} {st : Receiving} {seen : Bool} {ms : List ℕ} →
      Follows (format b) (sent_half b) (q_at b.r) (heard_count b) σ ss p x d st seen ms → d < q_at b.r →
      (n < length p) ⊎ ((length p ≡ n) × (j ≤ x)) → reach b ≤ j → n ≤ length ss
  arrived_all n j (done {ss = ss} {p = p} m k) hd since far = omega (arith, matches_length (format b) σ ss p m)
  arrived_all n j (edge {ss = ss} {p = p} m k) hd since far = omega (arith, matches_length (format b) σ ss p m)
  arrived_all n j (begun {ss = ss} {p = p} {n = c} m e he hn at) hd since far =
      let g : 1 * q_at b.r ≤ c * q_at b.r = mul-le-mul_right (q_at b.r) hn in
      omega (arith, matches_length (format b) σ ss p m)
  arrived_all n j (within {ss = ss} {p = p} {n = c} {taken = taken} m e he hn hl at hm lo w) hd since far =
      let g : 1 * q_at b.r ≤ c * q_at b.r = mul-le-mul_right (q_at b.r) hn in
      let k : taken * (heard_count b * q_at b.r) ≤ samples (format b) * (heard_count b * q_at b.r) = mul-le-mul_right (heard_count b * q_at b.r) hl in
      omega (arith, matches_length (format b) σ ss p m)

  pub not_queued : (n : ℕ) (l : Link) (i : Inv b σ l) → Queues n 0 l i → ⊥
  not_queued n l i z = omega (arith, i.s_low, z.cost)

  pub stored_then : (n : ℕ) (l : Link) (i : Inv b σ l) → Moves n 0 l i → n ≤ length (stored_in l.history.happened)
  stored_then n l i (ahead k j hk since left cost) = absurd (omega arith)
  stored_then n l i (here j since cost) = arrived_all n j i.follows i.r_low since (omega arith)

  -- all that an idle transmitter with an empty buffer has sent is stored once the cable has handed it out
  pub sent_moves : (l : Link) (i : Inv b σ l) → l.tx.state ≡ Idle → l.tx.xbre ≡ true → 0 < length l.loaded → Moves (length l.loaded) (length i.under_way + 1) l i
  sent_moves l i idle empty some =
      by i.sent.past refl (ended_at i.sends idle)
    where
      ended_at : {p : List ℕ} {x d : ℕ} {st : Sending} {out : Bool} → Sends (format b) (stop b) (q_at b.s) (half_count b.s.transmit_rate) p x d st out → st ≡ Idle → Ended (format b) (sent_half b) p x
      ended_at (rests e) h = e
      ended_at (sends k hk hn lo at r o) h = cc
      ended_at (stops hn lo at) h = cc

      by : (p : List ℕ) → i.sent.past ≡ p → Ended (format b) (sent_half b) p i.sent.phase → Moves (length l.loaded) (length i.under_way + 1) l i
      by [] same e = let all : l.loaded ≡ i.sent.past = rw empty at i.loads in absurd (omega (arith, ap length all, ap length same, some))
      by (c ∷ p) same e =
          let all : l.loaded ≡ i.sent.past = rw empty at i.loads in
          let a = get_or_push i.under_way i.sent i.sent (length i.under_way) refl in
          let w : (2 * suc (samples (format b)) + 1) * (heard_count b * q_at b.r) + q_at b.r ≤ (2 * suc (samples (format b)) + 2) * sent_half b = fit.windows.high (suc (samples (format b))) (omega arith) in
          ahead (length i.under_way) i.sent.phase (omega arith) (subst (Since (length l.loaded) i.sent.phase) (sym a) (inr (ap length (sym all), omega arith))) (omega arith) (omega arith)
