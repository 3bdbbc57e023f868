-- A receiver at its clocks, against the waveform that arrives. Assumes nothing.
use Rattle.std.proofs.Common.{◌≡◌, ℕ, zero, suc, ◌+◌, ◌-◌, ◌*◌, ◌^◌, ◌<◌, ◌≤◌, Bool, true, false, cond, eqb, ltb, leb, ◌⊎◌, List, [], ◌∷◌, ◌++◌, map, length, sym, refl, ap, ◌∙◌, subst, inl, inr, mul-le-mul_right, add-one, arith}
use Rattle.std.proofs.lemmas.List.{length_push, map_push, length-map}
use Rattle.std.proofs.lemmas.Bool.{cases_lt, le-leb, lt-leb, lt-ltb, le-ltb, both_ways, ne_eqb}
use Rattle.timing.specs.declared.registers.Format.{Format}
use Rattle.timing.specs.Counts.{internal}
use Rattle.timing.specs.Ones.{bits}
use Rattle.timing.specs.Registers.{bit, samples, control_of, half_count}
use Rattle.timing.proofs.HalfBits.{half_count_some}
use Rattle.sections.specs.declared.receiver.Receiving.{Receiving}
use Rattle.sections.specs.declared.receiver.Receiving.TheVariants.{Idle, Half, Character}
use Rattle.sections.specs.declared.receiver.Receiver.{Receiver}
use Rattle.sections.specs.Receive.{rsbd_by, heard}
use Rattle.sections.specs.Transmit.{word_of}
use Rattle.cable.specs.Passing.{turned}
use Rattle.acc.specs.declared.chip.Received.{Received}
use Rattle.pair.specs.Runs.{Stored, samples_at, first_sample, stops_at}
use Rattle.pair.specs.Copies.{Copy}
use Rattle.pair.proofs.Words.{length_bits, bits_push, held_push, held_low, turn_each, turn_each_push}
use Rattle.pair.proofs.Copying.{made, copy_made}
use Rattle.pair.proofs.Waves.{wave, level_at, Stopped, Ended, Next, on, fresh, wave_in, mark_stopped, stopped_on}

-- one for one, the newest first
unfoldable pub Matches : Format → (ℕ → Bool) → List Stored → List ℕ → Type 0
Matches f σ [] [] = Unit {0}
Matches f σ [] (c ∷ cs) = ⊥
Matches f σ (s ∷ ss) [] = ⊥
Matches f σ (s ∷ ss) (c ∷ cs) = Copy f σ c s × Matches f σ ss cs

abbrev pub held_by : Receiver → Received
held_by r = record { character = r.buffer; rfer = r.rfer; rover = r.rover; rper = r.rper }

-- the characters stored, after an internal clock that found the receiver in st and left it as r
abbrev pub kept : Receiving → Receiver → List ℕ → List Stored → List Stored
kept st r ms ss = cond (stops_at st) (record { received = held_by r; steps = ms } ∷ ss) ss

-- the steps of the samples of the character that is coming in, after an internal clock of step t
abbrev pub marked : ℕ → Receiving → List ℕ → List ℕ
marked t st ms = cond (stops_at st) [] (cond (samples_at st) (cond (first_sample st) [] ms ++ t ∷ []) ms)

-- each sample falls into its element
pub record Windows (f : Format) (T q h : ℕ) : Type 0 where
  pub some_q : 0 < q
  pub some_T : 0 < T
  pub low : (k : ℕ) → k ≤ suc (samples f) → 2 * k * T ≤ (2 * k + 1) * (h * q)
  pub high : (k : ℕ) → k ≤ suc (samples f) → (2 * k + 1) * (h * q) + q ≤ (2 * k + 2) * T

-- A receiver to which the waveform at (p, x) has arrived, where d is its divider and e the phase at which it saw the start. What is left of a
-- countdown, in φ clocks, makes with the phase that of the sample that is due, and the divider.
pub data Follows (f : Format) (T q h : ℕ) (σ : ℕ → Bool) : List Stored → List ℕ → ℕ → ℕ → Receiving → Bool → List ℕ → Type 0 where
  done : {ss : List Stored} {p : List ℕ} {x d : ℕ} → Matches f σ ss p → Stopped f T p x → Follows f T q h σ ss p x d Idle true []
  edge : {ss : List Stored} {c : ℕ} {p : List ℕ} {x d : ℕ} → Matches f σ ss p → x < d → Follows f T q h σ ss (c ∷ p) x d Idle true []
  begun : {ss : List Stored} {c : ℕ} {p : List ℕ} {x d n : ℕ} {seen : Bool} → Matches f σ ss p → (e : ℕ) → e < q → 0 < n →
      x + n * q ≡ e + h * q + d → Follows f T q h σ ss (c ∷ p) x d (Half (internal n)) seen []
  within : {ss : List Stored} {c : ℕ} {p : List ℕ} {x d n held taken : ℕ} {seen : Bool} {ms : List ℕ} → Matches f σ ss p → (e : ℕ) → e < q → 0 < n →
      taken ≤ samples f → x + n * q ≡ e + (2 * taken + 3) * (h * q) + d → length ms ≡ taken → held < 2 ^ taken →
      bits taken held ≡ turn_each (map σ ms) (bits taken (word_of f c)) → Follows f T q h σ ss (c ∷ p) x d (Character f (internal n) held taken) seen ms

first_samples : (k : ℕ) (ms : List ℕ) → length ms ≡ k → cond (eqb k 0) [] ms ≡ ms
first_samples zero [] e = refl
first_samples zero (m ∷ ms) e = absurd (omega arith)
first_samples (suc k) ms e = rw (ne_eqb (suc k) 0 (λ y. omega arith)) refl

unless_inverted : (b : Bool) (X : Type 0) → (b ≡ true → X) → (X → ⊥) → b ≡ false
unless_inverted true X a z = absurd (z (a refl))
unless_inverted false X a z = refl

not_inside : (X : Type 0) → (false ≡ true) × X → ⊥
not_inside X h = both_ways false refl h.0

module _ (f : Format) (T q h : ℕ) (w : Windows f T q h) (σ : ℕ → Bool) where
  -- no start arrives before the stop sample
  no_new : (c : ℕ) (p : List ℕ) (x m n d e : ℕ) → d < q → m ≤ samples f → e < q → 0 < n → x + n * q ≡ e + (2 * m + 3) * (h * q) + d → Ended f T (c ∷ p) (suc x) → ⊥
  no_new c p x m n d e hd hm he hn due end =
      let a : (2 * suc m + 1) * (h * q) + q ≤ (2 * suc m + 2) * T = w.high (suc m) (omega arith) in
      let b : 1 * q ≤ n * q = mul-le-mul_right q hn in
      let g : m * T ≤ samples f * T = mul-le-mul_right T hm in
      omega arith

  no_new_half : (c : ℕ) (p : List ℕ) (x n d e : ℕ) → d < q → e < q → 0 < n → x + n * q ≡ e + h * q + d → Ended f T (c ∷ p) (suc x) → ⊥
  no_new_half c p x n d e hd he hn due end =
      let a : (2 * 0 + 1) * (h * q) + q ≤ (2 * 0 + 2) * T = w.high 0 (omega arith) in
      let b : 1 * q ≤ n * q = mul-le-mul_right q hn in
      omega arith

  -- a φ clock without an internal clock
  pub waits : {ss : List Stored} {p : List ℕ} {x d : ℕ} {st : Receiving} {seen : Bool} {ms : List ℕ} {p' : List ℕ} {x' : ℕ} →
      suc d < q → Follows f T q h σ ss p x d st seen ms → Next f T p x p' x' → Follows f T q h σ ss p' x' (suc d) st seen ms
  waits hd (done {p = p} {x = x} m k) on = done m (stopped_on f T w.some_T p x k)
  waits hd (done m k) (fresh e) = edge m (omega arith)
  waits hd (edge m k) on = edge m (omega arith)
  waits hd (edge {c = c} {p = p} m k) (fresh z) = absurd (let a : (2 * 0 + 1) * (h * q) + q ≤ (2 * 0 + 2) * T = w.high 0 (omega arith) in omega arith)
  waits hd (begun m e he hn due) on = begun m e he hn (omega arith)
  waits hd (begun {c = c} {p = p} {x = x} {d = d} {n = n} m e he hn due) (fresh z) = absurd (no_new_half c p x n d e (omega arith) he hn due z)
  waits hd (within m e he hn hl due hm lo r) on = within m e he hn hl (omega arith) hm lo r
  waits hd (within {c = c} {p = p} {x = x} {d = d} {n = n} {taken = taken} m e he hn hl due hm lo r) (fresh z) = absurd (no_new c p x taken n d e (omega arith) hl he hn due z)

  pred_mul : (n : ℕ) → 1 < n → (n - 1) * q + q ≡ n * q
  pred_mul n l = let e : n ≡ suc (n - 1) = omega arith in let g : n * q ≡ suc (n - 1) * q = ap (λ k. k * q) e in omega arith

  -- one sample more
  heard_more : (c held taken : ℕ) (ms : List ℕ) (t : ℕ) (v : Bool) → length ms ≡ taken → held < 2 ^ taken → bits taken held ≡ turn_each (map σ ms) (bits taken (word_of f c)) →
      v ≡ turned (σ t) (bit taken (word_of f c)) → bits (suc taken) (held + cond v (2 ^ taken) 0) ≡ turn_each (map σ (ms ++ t ∷ [])) (bits (suc taken) (word_of f c))
  heard_more c held taken ms t v hm lo r e =
      let l : length (map σ ms) ≡ length (bits taken (word_of f c)) = length-map ms σ ∙ hm ∙ sym (length_bits taken (word_of f c)) in
      held_push taken held v lo ∙ ap (λ bs. bs ++ v ∷ []) r ∙ ap (λ b. turn_each (map σ ms) (bits taken (word_of f c)) ++ b ∷ []) e
      ∙ sym (turn_each_push (map σ ms) (bits taken (word_of f c)) (σ t) (bit taken (word_of f c)) l)
      ∙ ap (λ ss. turn_each ss (bits taken (word_of f c) ++ bit taken (word_of f c) ∷ [])) (sym (map_push σ ms t))
      ∙ ap (turn_each (map σ (ms ++ t ∷ []))) (sym (bits_push taken (word_of f c)))

-- an internal clock, at step t
module _ (control rate : ℕ) (f : Format) (same : (control_of control).format ≡ f) (T q : ℕ) (w : Windows f T q (half_count rate)) (σ : ℕ → Bool) (buffer : ℕ) (rbrl rfer rover rper : Bool) (t : ℕ) where
  abbrev h : ℕ
  h = half_count rate

  abbrev rx : Receiving → Bool → Receiver
  rx st seen = record { state = st; seen = seen; buffer = buffer; rbrl = rbrl; rfer = rfer; rover = rover; rper = rper }

  -- what it leaves
  abbrev After : List Stored → List ℕ → ℕ → Receiving → Bool → List ℕ → Bool → Type 0
  After ss p x st seen ms v =
      Follows f T q h σ (kept st (heard st control rate v (rx st seen)) ms ss) p x 0 (heard st control rate v (rx st seen)).state (heard st control rate v (rx st seen)).seen (marked t st ms)

  hears_mark : (ss : List Stored) (p : List ℕ) (x : ℕ) (v : Bool) → v ≡ true → Matches f σ ss p → Stopped f T p x → After ss p x Idle true [] v
  hears_mark ss p x true e m k = done m k
  hears_mark ss p x false e m k = absurd (both_ways false refl e)

  hears_space : (ss : List Stored) (c : ℕ) (p : List ℕ) (x : ℕ) (v : Bool) → v ≡ false → Matches f σ ss p → x < q → After ss (c ∷ p) x Idle true [] v
  hears_space ss c p x true e m k = absurd (both_ways true e refl)
  hears_space ss c p x false e m k = let s : 0 < h = half_count_some rate in begun m x k (omega arith) (omega arith)

  -- the start sample, or one clock less to it
  half_way : (ss : List Stored) (c : ℕ) (p : List ℕ) (x n : ℕ) (seen : Bool) (v : Bool) (e : ℕ) → e < q → 0 < n → suc x + n * q ≡ e + h * q + q → Matches f σ ss p →
      (n ≤ 1 → v ≡ false) → After ss (c ∷ p) (suc x) (Half (internal n)) seen [] v
  unfolding bits turn_each
  half_way ss c p x n seen v e he hn due m low = go (cases_lt 1 n)
    where
      go : (1 < n) ⊎ (n ≤ 1) → After ss (c ∷ p) (suc x) (Half (internal n)) seen [] v
      go (inl l) =
          let b : leb n 1 ≡ false = lt-leb n 1 l in
          let k = pred_mul f T q h w σ n l in
          let z : Follows f T q h σ ss (c ∷ p) (suc x) 0 (Half (internal (n - 1))) v [] = begun m e he (omega arith) (omega arith) in
          rw b z
      go (inr l) =
          let b : leb n 1 ≡ true = le-leb n 1 l in
          let k : n * q ≡ 1 * q = ap (λ i. i * q) (let y : n ≡ 1 = omega arith in y) in
          let s : 0 < h = half_count_some rate in
          let z : Follows f T q h σ ss (c ∷ p) (suc x) 0 (Character f (internal (h * 2)) 0 0) false [] = within m e he (omega arith) (omega arith) (omega arith) refl (omega arith) refl in
          rw (b, low l, same) z

  -- a sample, the stop sample, or one clock less to it
  in_character : (ss : List Stored) (c : ℕ) (p : List ℕ) (x n held taken : ℕ) (seen : Bool) (ms : List ℕ) (v : Bool) (e : ℕ) → e < q → 0 < n → taken ≤ samples f →
      suc x + n * q ≡ e + (2 * taken + 3) * (h * q) + q → length ms ≡ taken → held < 2 ^ taken → bits taken held ≡ turn_each (map σ ms) (bits taken (word_of f c)) → Matches f σ ss p →
      v ≡ turned (σ t) (wave f T c (suc x)) →
      (σ t ≡ true → (true ≡ true) × (rsbd_by (heard (Character f (internal n) held taken) control rate v (rx (Character f (internal n) held taken) seen)).state ≡ true)) →
      After ss (c ∷ p) (suc x) (Character f (internal n) held taken) seen ms v
  unfolding Matches
  in_character ss c p x n held taken seen ms v e he hn hl due hm lo r m hv inside = go (cases_lt 1 n) (cases_lt taken (samples f))
    where
      go : (1 < n) ⊎ (n ≤ 1) → (taken < samples f) ⊎ (samples f ≤ taken) → After ss (c ∷ p) (suc x) (Character f (internal n) held taken) seen ms v
      go (inl l) k =
          let b : leb n 1 ≡ false = lt-leb n 1 l in
          let y = pred_mul f T q h w σ n l in
          let z : Follows f T q h σ ss (c ∷ p) (suc x) 0 (Character f (internal (n - 1)) held taken) v ms = within m e he (omega arith) hl (omega arith) hm lo r in
          rw b z
      go (inr l) (inl k) =
          let b : leb n 1 ≡ true = le-leb n 1 l in
          let g : ltb taken (samples f) ≡ true = lt-ltb taken (samples f) k in
          let now : suc x ≡ e + (2 * taken + 3) * (h * q) = omega (arith, ap (λ i. i * q) (let y : n ≡ 1 = omega arith in y)) in
          let early : 2 * suc taken * T ≤ (2 * suc taken + 1) * (h * q) = w.low (suc taken) (omega arith) in
          let late : (2 * suc taken + 1) * (h * q) + q ≤ (2 * suc taken + 2) * T = w.high (suc taken) (omega arith) in
          let shown : wave f T c (suc x) ≡ bit taken (word_of f c) = wave_in f T w.some_T c (suc x) (suc taken) (omega arith) (omega arith) ∙ rw g refl in
          let one = add-one taken in
          let s : 0 < h = half_count_some rate in
          let due2 : suc x + h * 2 * q ≡ e + (2 * (taken + 1) + 3) * (h * q) + 0 = omega arith in
          let more : bits (taken + 1) (held + cond v (2 ^ taken) 0) ≡ turn_each (map σ (ms ++ t ∷ [])) (bits (taken + 1) (word_of f c)) =
          rw one (heard_more f T q h w σ c held taken ms t v hm lo r (hv ∙ ap (turned (σ t)) shown)) in
          let low2 : held + cond v (2 ^ taken) 0 < 2 ^ (taken + 1) = rw one (held_low taken held v lo) in
          let z : Follows f T q h σ ss (c ∷ p) (suc x) 0 (Character f (internal (h * 2)) (held + cond v (2 ^ taken) 0) (taken + 1)) v (ms ++ t ∷ []) =
          within m e he (omega arith) (omega arith) due2 (omega (arith, length_push ms t)) low2 more in
          let first = first_samples taken ms hm in
          rw (b, g, first) z
      go (inr l) (inr k) =
          let b : leb n 1 ≡ true = le-leb n 1 l in
          let g : ltb taken (samples f) ≡ false = le-ltb taken (samples f) k in
          let now : suc x ≡ e + (2 * taken + 3) * (h * q) = omega (arith, ap (λ i. i * q) (let y : n ≡ 1 = omega arith in y)) in
          let early : 2 * suc taken * T ≤ (2 * suc taken + 1) * (h * q) = w.low (suc taken) (omega arith) in
          let len : taken ≡ samples f = omega arith in
          let end : (2 * samples f + 2) * T ≤ suc x = subst (λ i. (2 * i + 2) * T ≤ suc x) len (omega arith) in
          let un : σ t ≡ false = unless_inverted (σ t) ((true ≡ true) × (false ≡ true)) (rw (b, g) at inside) (λ z. both_ways false refl z.1) in
          let mark : v ≡ true = hv ∙ ap (λ i. turned i (wave f T c (suc x))) un ∙ mark_stopped f T w.some_T (c ∷ p) (suc x) end in
          let copy : Copy f σ c (made f held rbrl ms) = copy_made f σ c held rbrl ms (hm ∙ len) (subst (λ i. held < 2 ^ i) len lo) (subst (λ i. bits i held ≡ turn_each (map σ ms) (bits i (word_of f c))) len r) in
          let all : Matches f σ (made f held rbrl ms ∷ ss) (c ∷ p) = (copy, m) in
          let z : Follows f T q h σ (made f held rbrl ms ∷ ss) (c ∷ p) (suc x) 0 Idle true [] = done all end in
          rw (b, g, mark) z

  pub clocks : {ss : List Stored} {p : List ℕ} {x d : ℕ} {st : Receiving} {seen : Bool} {ms : List ℕ} {p' : List ℕ} {x' : ℕ} (v : Bool) →
      suc d ≡ q → Follows f T q h σ ss p x d st seen ms → Next f T p x p' x' → v ≡ turned (σ t) (level_at f T p' x') →
      (σ t ≡ true → (rsbd_by st ≡ true) × (rsbd_by (heard st control rate v (rx st seen)).state ≡ true)) → After ss p' x' st seen ms v
  clocks v hd (done {ss = ss} {p = p} {x = x} m k) on hv inside =
      let un : σ t ≡ false = unless_inverted (σ t) _ inside (not_inside _) in
      let k2 = stopped_on f T w.some_T p x k in
      hears_mark ss p (suc x) v (hv ∙ ap (λ i. turned i (level_at f T p (suc x))) un ∙ mark_stopped f T w.some_T p (suc x) k2) m k2
  clocks v hd (done {ss = ss} {p = p} {x = x} m k) (fresh {c = c} e) hv inside =
      let un : σ t ≡ false = unless_inverted (σ t) _ inside (not_inside _) in
      let z : 0 < T = w.some_T in
      hears_space ss c p 0 v (hv ∙ ap (λ i. turned i (wave f T c 0)) un ∙ wave_in f T w.some_T c 0 0 (omega arith) (omega arith)) m w.some_q
  clocks v hd (edge {ss = ss} {c = c} {p = p} {x = x} m k) on hv inside =
      let un : σ t ≡ false = unless_inverted (σ t) _ inside (not_inside _) in
      let a : (2 * 0 + 1) * (h * q) + q ≤ (2 * 0 + 2) * T = w.high 0 (omega arith) in
      hears_space ss c p (suc x) v (hv ∙ ap (λ i. turned i (wave f T c (suc x))) un ∙ wave_in f T w.some_T c (suc x) 0 (omega arith) (omega arith)) m (omega arith)
  clocks v hd (edge {c = c} {p = p} m k) (fresh z) hv inside = absurd (let a : (2 * 0 + 1) * (h * q) + q ≤ (2 * 0 + 2) * T = w.high 0 (omega arith) in omega arith)
  clocks v hd (begun {ss = ss} {c = c} {p = p} {x = x} {n = n} {seen = seen} m e he hn due) on hv inside =
      let un : σ t ≡ false = unless_inverted (σ t) _ inside (not_inside _) in
      let a : (2 * 0 + 1) * (h * q) + q ≤ (2 * 0 + 2) * T = w.high 0 (omega arith) in
      half_way ss c p x n seen v e he hn (omega arith) m
      (λ l. let now : suc x ≡ e + h * q = omega (arith, ap (λ i. i * q) (let z : n ≡ 1 = omega arith in z)) in
      hv ∙ ap (λ i. turned i (wave f T c (suc x))) un ∙ wave_in f T w.some_T c (suc x) 0 (omega arith) (omega arith))
  clocks v hd (begun {c = c} {p = p} {x = x} {d = d} {n = n} m e he hn due) (fresh z) hv inside = absurd (no_new_half f T q h w σ c p x n d e (omega arith) he hn due z)
  clocks v hd (within {ss = ss} {c = c} {p = p} {x = x} {n = n} {held = held} {taken = taken} {seen = seen} {ms = ms} m e he hn hl due hm lo r) on hv inside =
      in_character ss c p x n held taken seen ms v e he hn hl (omega arith) hm lo r m hv inside
  clocks v hd (within {c = c} {p = p} {x = x} {d = d} {n = n} {taken = taken} m e he hn hl due hm lo r) (fresh z) hv inside = absurd (no_new f T q h w σ c p x taken n d e (omega arith) hl he hn due z)
