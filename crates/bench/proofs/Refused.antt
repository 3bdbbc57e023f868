-- The tests of a moment, one after the other, are those of its definition. Assumes nothing.
use Rattle.std.proofs.Common.{◌≡◌, ℕ, ◌+◌, cond, List, [], ◌∷◌, Some, Ok, Err, Result, is_ok, refl, ap, arith}
use Rattle.faults.specs.declared.Fault.{Fault}
use Rattle.pair.specs.declared.event.Event.{Event}
use Rattle.pair.specs.Bench.{Bench}
use Rattle.pair.specs.Calls.{moment_reply}
use Rattle.pair.specs.Moment.{bad_end, bad_number, first_of, first_repeat, first_shut, moment_refusal}
use Rattle.moments.specs.declared.rules.Barred.{Barred}
use Rattle.moments.specs.declared.rules.Rule.TheVariants.{EndExists, NumbersFit, DsrOnce, EndRecovered}
use Rattle.moments.specs.Rules.{shown, unbarred, breaks, barred_by, first_broken, checked, then, list_checked}
use Rattle.bench.specs.Moment.{ready, recoveries}

ends : (s : Barred) (n : ℕ) (vs : List Event) → first_broken EndExists s n vs ≡ first_of bad_end n vs
unfolding first_broken first_of
ends s n [] = refl
ends s n (v ∷ vs) = ap (λ o. cond (bad_end v) (Some n) o) (ends (barred_by EndExists s v) (n + 1) vs)

numbers : (s : Barred) (n : ℕ) (vs : List Event) → first_broken NumbersFit s n vs ≡ first_of bad_number n vs
unfolding first_broken first_of
numbers s n [] = refl
numbers s n (v ∷ vs) = ap (λ o. cond (bad_number v) (Some n) o) (numbers (barred_by NumbersFit s v) (n + 1) vs)

repeats : (s : Barred) (n : ℕ) (vs : List Event) → first_broken DsrOnce s n vs ≡ first_repeat s.a s.b n vs
unfolding first_broken first_repeat
repeats s n [] = refl
repeats s n (v ∷ vs) = ap (λ o. cond (breaks DsrOnce s v) (Some n) o) (repeats (barred_by DsrOnce s v) (n + 1) vs)

shut : (s : Barred) (n : ℕ) (vs : List Event) → first_broken EndRecovered s n vs ≡ first_shut s.a s.b n vs
unfolding first_broken first_shut
shut s n [] = refl
shut s n (v ∷ vs) = grind (arith, shut (barred_by EndRecovered s v) (n + 1) vs)

pub same_reply : (vs : List Event) (m : Bench) → shown (moment_reply vs m) ≡ then (list_checked vs) (then (ready m) (checked EndRecovered (recoveries m) vs))
unfolding checked moment_refusal
same_reply vs m =
    let no_end = ends unbarred 0 vs in
    let no_number = numbers unbarred 0 vs in
    let repeated = repeats unbarred 0 vs in
    let recovering = shut (recoveries m) 0 vs in
    grind arith

-- how an answer shows does not change whether the call was accepted
pub shown_ok : (r : Result (Unit {0}) Fault) → is_ok (shown r) ≡ is_ok r
shown_ok (Ok x) = refl
shown_ok (Err f) = refl
