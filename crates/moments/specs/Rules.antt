-- What refuses the list of a moment, rule by rule. Assumes nothing.
use Rattle.std.specs.Prelude.{ℕ, ◌+◌, min, Bool, false, cond, ◌&&◌, ◌||◌, List, [], ◌∷◌, length, Some, None, Ok, Err, Option, Result, ◌==◌, nat_lt, slice_index_or}
use Rattle.faults.specs.declared.Cause.TheVariants.{NoSuchEnd, OutOfRange, TooManyEvents, RepeatedDsr, Recovering}
use Rattle.faults.specs.declared.End.TheVariants as end
use Rattle.faults.specs.declared.Fault.{Fault}
use Rattle.pair.specs.declared.event.Event.{Event}
use Rattle.pair.specs.Bench.{at_place, end_of}
use Rattle.pair.specs.Moment.{sets_dsr, is_write, is_at, dsr_at, write_at, bad_end, bad_number, no_event, end_at}
use Rattle.moments.specs.declared.rules.Rule.{Rule}
use Rattle.moments.specs.declared.rules.Rule.TheVariants.{EndExists, NumbersFit, DsrOnce, EndRecovered}
use Rattle.moments.specs.declared.rules.Barred.{Barred}

abbrev pub barred : Bool → Bool → Barred
barred a b = record { a = a; b = b }

abbrev pub unbarred : Barred
unbarred = barred false false

abbrev pub barred_at : ℕ → Barred → Bool
barred_at n s = (n == 0 && s.a) || (n == 1 && s.b)

abbrev pub breaks : Rule → Barred → Event → Bool
breaks EndExists s v = bad_end v
breaks NumbersFit s v = bad_number v
breaks DsrOnce s v = (dsr_at end.A v && s.a) || (dsr_at end.B v && s.b)
breaks EndRecovered s v = (write_at end.A v && s.a) || (write_at end.B v && s.b)

-- whether an event bars others at its end
abbrev pub bars : Rule → Event → Bool
bars EndExists v = false
bars NumbersFit v = false
bars DsrOnce v = sets_dsr v
bars EndRecovered v = is_write v && v.address == 31

abbrev pub barred_by : Rule → Barred → Event → Barred
barred_by k s v = barred (s.a || (bars k v && is_at end.A v)) (s.b || (bars k v && is_at end.B v))

-- A place has 32 bits for an index: one that needs more shows as the largest that they hold.
abbrev pub shown_index : ℕ → ℕ
shown_index i = min i 4294967295

abbrev pub shown_fault : Fault → Fault
shown_fault f = record { cause = f.cause; place = record { index = shown_index f.place.index; end = f.place.end } }

-- an answer as a host sees it
abbrev pub shown : Result (Unit {0}) Fault → Result (Unit {0}) Fault
shown (Ok x) = Ok x
shown (Err f) = Err (shown_fault f)

-- the index of the first event that breaks a rule, counted from n
unfoldable pub first_broken : Rule → Barred → ℕ → List Event → Option ℕ
first_broken k s n [] = None
first_broken k s n (v ∷ vs) = cond (breaks k s v) (Some n) (first_broken k (barred_by k s v) (n + 1) vs)

abbrev pub refusal_at : Rule → ℕ → Event → Fault
refusal_at EndExists i v = at_place (shown_index i) None NoSuchEnd
refusal_at NumbersFit i v = at_place (shown_index i) (end_of v.end) OutOfRange
refusal_at DsrOnce i v = at_place (shown_index i) (end_of v.end) RepeatedDsr
refusal_at EndRecovered i v = at_place (shown_index i) (end_of v.end) Recovering

abbrev pub refused_at : Option ℕ → (ℕ → Fault) → Result (Unit {0}) Fault
refused_at None f = Ok tt
refused_at (Some i) f = Err (f i)

unfoldable pub checked : Rule → Barred → List Event → Result (Unit {0}) Fault
checked k s vs = refused_at (first_broken k s 0 vs) (λ i. refusal_at k i (slice_index_or vs i no_event))

abbrev pub too_many : List Event → Bool
too_many vs = nat_lt 32 (length vs)

abbrev pub few_checked : List Event → Result (Unit {0}) Fault
few_checked vs = cond (too_many vs) (Err (at_place 32 (end_at vs 32) TooManyEvents)) (Ok tt)

-- the first refusal, or what comes next
abbrev pub then : Result (Unit {0}) Fault → Result (Unit {0}) Fault → Result (Unit {0}) Fault
then (Ok x) r = r
then (Err f) r = Err f

abbrev pub list_checked : List Event → Result (Unit {0}) Fault
list_checked vs = then (checked EndExists unbarred vs) (then (checked NumbersFit unbarred vs) (then (few_checked vs) (checked DsrOnce unbarred vs)))
