-- A chip that refuses a call stays as it was. Assumes nothing.
use Rattle.std.proofs.Common.{◌≡◌, ℕ, Ok, Err, Result, refl}
use Rattle.faults.specs.declared.Cause.{Cause}
use Rattle.acc.specs.declared.chip.Acc.{Acc}
use Rattle.acc.specs.Calls.{unless_refused, load_checked, load_answer, load_of, take_checked, take_answer, take_of, put_checked, put_answer, put_of}

twice : {T : Type 0} (r : Result T Cause) (y x : Acc) → unless_refused r y x ≡ unless_refused r (unless_refused r y x) x
twice (Ok v) y x = refl
twice (Err c) y x = refl

pub load_kept : (c : ℕ) (x : Acc) → load_of c x ≡ unless_refused (load_answer x) (load_of c x) x
unfolding load_answer load_of
load_kept c x = twice (load_checked x) _ x

pub take_kept : (x : Acc) → take_of x ≡ unless_refused (take_answer x) (take_of x) x
unfolding take_answer take_of
take_kept x = twice (take_checked x) _ x

pub put_kept : (a n v : ℕ) (x : Acc) → put_of a n v x ≡ unless_refused (put_answer x) (put_of a n v x) x
unfolding put_answer put_of
put_kept a n v x = twice (put_checked x) _ x
