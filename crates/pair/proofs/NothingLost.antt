-- Where every character is taken before the next is stored, the n-th take answers a copy of the n-th character loaded. Assumes nothing.
use Rattle.std.proofs.Common.{◌≡◌, ℕ, ◌+◌, ◌≤◌, Bool, true, false, cond, not, eqb, List, [], ◌∷◌, map, length, is_ok, Some, Ok, Err, Result, sym, refl, ap, ◌∙◌, subst, arith}
use Rattle.std.proofs.lemmas.List.{length-map}
use Rattle.std.proofs.lemmas.Bool.{and_parts, both_ways, ne_eqb, not-true}
use Rattle.faults.specs.declared.End.{End}
use Rattle.faults.specs.declared.Cause.TheVariants.{CableNotClear, OutOfRange}
use Rattle.faults.specs.declared.Fault.{Fault}
use Rattle.faults.specs.Faults.{unplaced}
use Rattle.cable.specs.Channels.{is_clear}
use Rattle.cable.specs.Turnings.{behind_first}
use Rattle.acc.specs.declared.chip.Received.{Received}
use Rattle.pair.specs.Bench.{Bench}
use Rattle.pair.specs.Calls.{Opening, opening_fits, opened, after_call, open_answer, open_of}
use Rattle.pair.specs.Runs.{Stored, Happening, stored, taken, Run, history, start_of, run}
use Rattle.pair.specs.Copies.{stored_in, nth, one_waits, OverrunTellsAnUntakenCharacter, TakeAnswersTheLastStoredOnce}
use Rattle.pair.specs.Law.{opposite, Faithful}
use Rattle.pair.specs.Consequences.{taken_in, each_taken_before_the_next, TakesTheNth, NothingIsLost, NothingIsLostWhenTakenInTime, Transmits}
use Rattle.pair.proofs.InOrder.{nth_few}
use Rattle.pair.proofs.Faithful.{transmission_is_faithful, label_arrives}

abbrev answers : List Stored → List Received
answers ss = map (λ (s : Stored). s.received) ss

-- the answers are what was stored, but for the one that waits
answered : (hs : List Happening) → TakeAnswersTheLastStoredOnce hs → each_taken_before_the_next hs ≡ true → taken_in hs ≡ answers (cond (one_waits hs) (behind_first (stored_in hs)) (stored_in hs))
unfolding TakeAnswersTheLastStoredOnce each_taken_before_the_next taken_in stored_in
answered [] t h = refl
answered (stored s ∷ hs) t h =
    let both = and_parts (not (one_waits hs)) (each_taken_before_the_next hs) h in
    let none : one_waits hs ≡ false = not-true (one_waits hs) both.0 in
    rw none at (answered hs t both.1)
answered (taken x ∷ []) t h = absurd t.0
answered (taken x ∷ (taken y ∷ hs)) t h = absurd t.0
answered (taken x ∷ (stored s ∷ hs)) t h = ap (λ y. y ∷ taken_in hs) t.0 ∙ ap (λ l. s.received ∷ l) (answered (stored s ∷ hs) t.1 h)

-- no overrun
no_overrun : (hs : List Happening) → OverrunTellsAnUntakenCharacter hs → each_taken_before_the_next hs ≡ true → (n : ℕ) (s : Stored) → nth (stored_in hs) n ≡ Some s → s.received.rover ≡ false
unfolding OverrunTellsAnUntakenCharacter each_taken_before_the_next stored_in nth
no_overrun [] v h n s k = cc
no_overrun (taken x ∷ hs) v h n s k = no_overrun hs v h n s k
no_overrun (stored t ∷ hs) v h n s k =
    let both = and_parts (not (one_waits hs)) (each_taken_before_the_next hs) h in
    let none : one_waits hs ≡ false = not-true (one_waits hs) both.0 in
    by (eqb (length (stored_in hs)) n) k (v.0 ∙ none) (no_overrun hs v.1 both.1 n s)
  where
    by : (b : Bool) → cond b (Some t) (nth (stored_in hs) n) ≡ Some s → t.received.rover ≡ false → (nth (stored_in hs) n ≡ Some s → s.received.rover ≡ false) → s.received.rover ≡ false
    by true e r ih = let same : t ≡ s = cc in subst (λ (u : Stored). u.received.rover ≡ false) same r
    by false e r ih = ih e

nth_answers : (ss : List Stored) (n : ℕ) (x : Received) → nth (answers ss) n ≡ Some x → (s : Stored) × (nth ss n ≡ Some s) × (s.received ≡ x)
unfolding nth
nth_answers [] n x h = cc
nth_answers (s ∷ ss) n x h = by (eqb (length ss) n) (ap (λ k. eqb k n) (length-map ss (λ (s : Stored). s.received))) h (nth_answers ss n x)
  where
    by : (b : Bool) → eqb (length (answers ss)) n ≡ b → cond (eqb (length (answers ss)) n) (Some s.received) (nth (answers ss) n) ≡ Some x → (nth (answers ss) n ≡ Some x → (t : Stored) × (nth ss n ≡ Some t) × (t.received ≡ x)) → (t : Stored) × (cond b (Some s) (nth ss n) ≡ Some t) × (t.received ≡ x)
    by true e k ih = let same : s.received ≡ x = (let y : Some s.received ≡ Some x = rw e at k in cc) in (s, refl, same)
    by false e k ih = ih (rw e at k)

nth_behind : (b : Bool) (ss : List Stored) (n : ℕ) (s : Stored) → nth (cond b (behind_first ss) ss) n ≡ Some s → nth ss n ≡ Some s
unfolding nth
nth_behind false ss n s h = h
nth_behind true [] n s h = h
nth_behind true (t ∷ ss) n s h = let few = nth_few ss n s h in let e : eqb (length ss) n ≡ false = ne_eqb (length ss) n (λ y. omega arith) in rw e h

few_left : (b : Bool) (ss : List Stored) → length ss ≤ length (cond b (behind_first ss) ss) + 1
few_left true [] = omega arith
few_left true (s ∷ ss) = omega arith
few_left false ss = omega arith

lost : (o : Bench) (e : End) (r : Run) → Faithful o e r → each_taken_before_the_next (history e r).happened ≡ true → NothingIsLost o e (history (opposite e) r).loaded (history e r).happened
lost o e r f h = record {
  taken_in_order = λ n x k.
      let a = answered hs f.takes h in
      let y = nth_answers (cond (one_waits hs) (behind_first (stored_in hs)) (stored_in hs)) n x (ap (λ l. nth l n) (sym a) ∙ k) in
      let z = nth_behind (one_waits hs) (stored_in hs) n y.0 y.1 in
      let c = f.in_order n y.0 z in
      subst (TakesTheNth o e (history (opposite e) r).loaded n) y.2 (record {
        character = c.0;
        steps = y.0.steps;
        loaded_there = c.1;
        copy = c.2;
        no_overrun = no_overrun hs f.overruns h n y.0 z;
      });
  all_but_the_last_taken =
      let a = ap length (answered hs f.takes h) in
      omega (arith, length-map (cond (one_waits hs) (behind_first (stored_in hs)) (stored_in hs)) (λ (s : Stored). s.received), few_left (one_waits hs) (stored_in hs));
}
  where
    hs : List Happening
    hs = (history e r).happened

pub nothing_lost : NothingIsLostWhenTakenInTime
nothing_lost o m clear e cs f h = lost (opened o m) e (run cs (start_of (opened o m))) ((transmission_is_faithful o m clear e).faithful cs f) h

-- an open that is accepted leaves a bench that keeps all these promises
pub opened_transmits : (o : Opening) (m : Bench) → is_ok (open_answer o m) ≡ true → Transmits o (open_of o m)
opened_transmits o m h = by (opening_fits o) (is_clear m.channels) refl h
  where
    answer : Bool → Bool → Result (Unit {0}) Fault
    answer a b = cond a (cond b (Ok tt) (Err (unplaced CableNotClear))) (Err (unplaced OutOfRange))

    by : (a b : Bool) → is_clear m.channels ≡ b → is_ok (answer a b) ≡ true → Transmits o (after_call (answer a b) (opened o m) m)
    by true true k e = record { faithful = transmission_is_faithful o m k; nothing_lost = nothing_lost o m k; labels_whole = label_arrives o m k }
    by true false k e = absurd (both_ways false refl e)
    by false b k e = absurd (both_ways false refl e)
