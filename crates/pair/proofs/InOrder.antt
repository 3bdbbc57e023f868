-- The n-th character stored is a copy of the n-th loaded. Assumes nothing.
use Rattle.std.proofs.Common.{◌≡◌, ℕ, ◌<◌, Bool, true, false, cond, eqb, List, [], ◌∷◌, ◌++◌, length, Some, sym, refl, ap, ◌∙◌, arith}
use Rattle.std.proofs.lemmas.List.{append_assoc, length-append}
use Rattle.std.proofs.lemmas.Bool.Decides.{nat_tests}
use Rattle.std.proofs.lemmas.Bool.{eqb-false}
use Rattle.timing.specs.declared.registers.Format.{Format}
use Rattle.sections.specs.declared.receiver.Receiving.{Receiving}
use Rattle.pair.specs.Runs.{Stored}
use Rattle.pair.specs.Copies.{stored_in, nth, Copy, StoredIsLoadedInOrder}
use Rattle.pair.specs.Law.{q_at}
use Rattle.pair.proofs.Waves.{Tag, Next, on, fresh}
use Rattle.pair.proofs.Receiver as R
use Rattle.pair.proofs.Receiver.{Matches, Follows}
use Rattle.pair.proofs.Link.{Boards, format, sent_half, heard_count, Link, Chain, Inv}
use Rattle.pair.proofs.InTime.{matches_length}

-- xs are the oldest of ys
pub record Oldest (xs ys : List ℕ) : Type 0 where
  pub newer : List ℕ
  pub all : ys ≡ newer ++ xs

pub oldest_same : (xs : List ℕ) → Oldest xs xs
oldest_same xs = record { newer = []; all = refl }

pub oldest_push : (c : ℕ) (xs ys : List ℕ) → Oldest xs ys → Oldest xs (c ∷ ys)
oldest_push c xs ys o = record { newer = c ∷ o.newer; all = ap (λ l. c ∷ l) o.all }

oldest_trans : (xs ys zs : List ℕ) → Oldest xs ys → Oldest ys zs → Oldest xs zs
oldest_trans xs ys zs a b = record { newer = b.newer ++ a.newer; all = b.all ∙ ap (λ l. b.newer ++ l) a.all ∙ sym (append_assoc b.newer a.newer xs) }

oldest_next : (f : Format) (T : ℕ) (p : List ℕ) (x : ℕ) (p' : List ℕ) (x' : ℕ) → Next f T p x p' x' → Oldest p p'
oldest_next f T p x p' x' on = oldest_same p
oldest_next f T p x p' x' (fresh {c = c} e) = oldest_push c p p (oldest_same p)

oldest_chain : (b : Boards) (τ : Tag) (ts : List Tag) (υ : Tag) → Chain b τ ts υ → Oldest τ.past υ.past
unfolding Chain
oldest_chain b τ [] υ c = oldest_next (format b) (sent_half b) τ.past τ.phase υ.past υ.phase c
oldest_chain b τ (φ ∷ ts) υ c =
    oldest_trans τ.past φ.past υ.past (oldest_next (format b) (sent_half b) τ.past τ.phase φ.past φ.phase c.0) (oldest_chain b φ ts υ c.1)

oldest_loads : (xbre : Bool) (v : ℕ) (p loaded : List ℕ) → loaded ≡ cond xbre p (v ∷ p) → Oldest p loaded
oldest_loads true v p loaded e = record { newer = []; all = e }
oldest_loads false v p loaded e = record { newer = v ∷ []; all = e }

-- the characters that were stored, among those that have arrived
follows_matches : (f : Format) (T q h : ℕ) (σ : ℕ → Bool) {ss : List Stored} {p : List ℕ} {x d : ℕ} {st : Receiving} {seen : Bool} {ms : List ℕ} → Follows f T q h σ ss p x d st seen ms →
    (xs : List ℕ) × Matches f σ ss xs × Oldest xs p
follows_matches f T q h σ (R.done {p = p} m k) = (p, m, oldest_same p)
follows_matches f T q h σ (R.edge {c = c} {p = p} m k) = (p, m, oldest_push c p p (oldest_same p))
follows_matches f T q h σ (R.begun {c = c} {p = p} m e he hn due) = (p, m, oldest_push c p p (oldest_same p))
follows_matches f T q h σ (R.within {c = c} {p = p} m e he hn hl due hm lo r) = (p, m, oldest_push c p p (oldest_same p))

-- the n-th of a list that has more than n
pub nth_there : {X : Type 0} (xs : List X) (n : ℕ) → n < length xs → (x : X) × (nth xs n ≡ Some x)
unfolding nth
nth_there [] n h = absurd (omega arith)
nth_there (x ∷ xs) n h = by (eqb (length xs) n) refl (λ k. nth_there xs n k)
  where
    by : (b : Bool) → eqb (length xs) n ≡ b → (n < length xs → (y : _) × (nth xs n ≡ Some y)) → (y : _) × (cond b (Some x) (nth xs n) ≡ Some y)
    by true e ih = (x, refl)
    by false e ih = let z = eqb-false (length xs) n e in ih (omega arith)

pub nth_few : {X : Type 0} (xs : List X) (n : ℕ) (x : X) → nth xs n ≡ Some x → n < length xs
unfolding nth
nth_few [] n x h = cc
nth_few (y ∷ xs) n x h = grind (arith, nat_tests, nth_few xs n x)

nth_newer : (zs xs : List ℕ) (n : ℕ) → n < length xs → nth (zs ++ xs) n ≡ nth xs n
unfolding nth
nth_newer [] xs n h = refl
nth_newer (z ∷ zs) xs n h = grind (arith, nat_tests, length-append, nth_newer zs xs n h)

-- what is older keeps its number
pub nth_oldest : (xs ys : List ℕ) (n : ℕ) → Oldest xs ys → n < length xs → nth ys n ≡ nth xs n
nth_oldest xs ys n o h = ap (λ l. nth l n) o.all ∙ nth_newer o.newer xs n h

pub nth_last : (c : ℕ) (xs : List ℕ) → nth (c ∷ xs) (length xs) ≡ Some c
unfolding nth
nth_last c xs = grind (arith, nat_tests)

matches_nth : (f : Format) (σ : ℕ → Bool) (ss : List Stored) (p : List ℕ) → Matches f σ ss p → (n : ℕ) (s : Stored) → nth ss n ≡ Some s → (c : ℕ) × (nth p n ≡ Some c) × Copy f σ c s
unfolding Matches nth
matches_nth f σ [] [] m n s h = cc
matches_nth f σ [] (c ∷ p) m n s h = absurd m
matches_nth f σ (t ∷ ss) [] m n s h = absurd m
matches_nth f σ (t ∷ ss) (c ∷ p) m n s h =
    let l = matches_length f σ ss p m.1 in
    by (eqb (length ss) n) h (ap (λ k. eqb k n) (sym l)) (λ k. matches_nth f σ ss p m.1 n s k)
  where
    by : (b : Bool) → cond b (Some t) (nth ss n) ≡ Some s → eqb (length p) n ≡ b → (nth ss n ≡ Some s → (d : ℕ) × (nth p n ≡ Some d) × Copy f σ d s) → (d : ℕ) × (cond (eqb (length p) n) (Some c) (nth p n) ≡ Some d) × Copy f σ d s
    by true k e ih = let same : t ≡ s = cc in rw e (c, refl, rw same at m.0)
    by false k e ih = rw e (ih k)

pub in_order : (b : Boards) (σ : ℕ → Bool) (l : Link) → Inv b σ l → StoredIsLoadedInOrder (format b) σ l.loaded l.history.happened
in_order b σ l i n s h =
    let z = follows_matches (format b) (sent_half b) (q_at b.r) (heard_count b) σ i.follows in
    let c = oldest_chain b i.arrived i.under_way i.sent i.chain in
    let a = oldest_loads l.tx.xbre l.tx.buffer i.sent.past l.loaded i.loads in
    let old = oldest_trans z.0 i.arrived.past l.loaded z.2 (oldest_trans i.arrived.past i.sent.past l.loaded c a) in
    let m = matches_nth (format b) σ (stored_in l.history.happened) z.0 z.1 n s h in
    (m.0, nth_oldest z.0 l.loaded n old (nth_few z.0 n m.0 m.1) ∙ m.1, m.2)
