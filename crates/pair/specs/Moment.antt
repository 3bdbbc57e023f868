-- One moment: its events, the order in which they are served, and when it is refused. Assumes nothing.
use Rattle.std.specs.Prelude.{ℕ, ◌+◌, Bool, true, false, cond, not, ◌&&◌, ◌||◌, List, [], ◌∷◌, length, Some, None, Option, ◌==◌, nat_le, nat_lt, slice_index_or}
use Rattle.faults.specs.declared.Cause.TheVariants.{NoSuchEnd, OutOfRange, TooManyEvents, RepeatedDsr, NotOpen, ClockLimit, Recovering}
use Rattle.faults.specs.declared.End.{End}
use Rattle.faults.specs.declared.End.TheVariants as end
use Rattle.faults.specs.declared.Fault.{Fault}
use Rattle.faults.specs.Faults.{end_number, unplaced}
use Rattle.acc.specs.declared.chip.Acc.{Acc}
use Rattle.acc.specs.Calls.{dsr_set}
use Rattle.acc.specs.Outputs.{write_of}
use Rattle.pair.specs.declared.event.Event.{Event}
use Rattle.pair.specs.Bench.{Bench, with_chip, end_of, at_place, last_clock, clocked}

-- kind 0 sets DSR, kind 1 writes one output bit
abbrev pub sets_dsr : Event → Bool
sets_dsr v = v.kind == 0

abbrev pub is_write : Event → Bool
is_write v = v.kind == 1

abbrev pub is_at : End → Event → Bool
is_at e v = v.end == end_number e

-- the value as a level
abbrev pub level_of : Event → Bool
level_of v = v.value == 1

-- a setting of DSR at this end, a write at this end
abbrev pub dsr_at : End → Event → Bool
dsr_at e v = sets_dsr v && is_at e v

abbrev pub write_at : End → Event → Bool
write_at e v = is_write v && is_at e v

-- an event that was served as number n
abbrev pub numbered : ℕ → Event → Event
numbered n v = record { end = v.end; kind = v.kind; address = v.address; value = v.value; served = n }

-- rank 1 at one end: its DSR settings in list order
unfoldable pub set_all : End → List Event → Acc → Acc
set_all e [] x = x
set_all e (v ∷ vs) x = set_all e vs (cond (dsr_at e v) (dsr_set (level_of v) x) x)

-- rank 3 or 4: the writes at one end in list order
unfoldable pub write_all : End → List Event → Acc → Acc
write_all e [] x = x
write_all e (v ∷ vs) x = write_all e vs (cond (write_at e v) (write_of v.address (level_of v) x) x)

abbrev pub with_both : (End → Acc → Acc) → Bench → Bench
with_both f m = with_chip end.B (f end.B m.b) (with_chip end.A (f end.A m.a) m)

-- what rank 1 leaves, and rank 2 after it
abbrev pub after_rank_1 : List Event → Bench → Bench
after_rank_1 vs m = with_both (λ e. set_all e vs) m

abbrev pub after_rank_2 : List Event → Bench → Bench
after_rank_2 vs m = clocked (after_rank_1 vs m)

-- rank 1: DSR settings; rank 2: the φ clock; rank 3: the writes at A; rank 4: the writes at B. The two ends meet in the cable alone,
-- so what is served at one end between two clocks does not depend on the other.
unfoldable pub moved : List Event → Bench → Bench
moved vs m = with_both (λ e. write_all e vs) (clocked (with_both (λ e. set_all e vs) m))

-- how many events pass a test
unfoldable pub how_many : (Event → Bool) → List Event → ℕ
how_many t [] = 0
how_many t (v ∷ vs) = cond (t v) (1 + how_many t vs) (how_many t vs)

-- events that pass a test get the numbers from n on, in list order
unfoldable pub number_each : (Event → Bool) → ℕ → List Event → List Event
number_each t n [] = []
number_each t n (v ∷ vs) = cond (t v) (numbered n v ∷ number_each t (n + 1) vs) (v ∷ number_each t n vs)

-- DSR settings are served first, then the writes at A, then those at B
unfoldable pub served_list : List Event → List Event
served_list vs =
    let settings = how_many sets_dsr vs in
    let at_a = how_many (write_at end.A) vs in
    number_each (write_at end.B) (settings + at_a + 1) (number_each (write_at end.A) (settings + 1) (number_each sets_dsr 1 vs))

-- the index of the first event that passes a test, counted from n
unfoldable pub first_of : (Event → Bool) → ℕ → List Event → Option ℕ
first_of t n [] = None
first_of t n (v ∷ vs) = cond (t v) (Some n) (first_of t (n + 1) vs)

-- 4: an end is neither 0 nor 1
abbrev pub bad_end : Event → Bool
bad_end v = nat_lt 1 v.end

-- 5: a kind or a value above 1, or the address of a write above 31
abbrev pub bad_number : Event → Bool
bad_number v = nat_lt 1 v.kind || (nat_lt 1 v.value || (is_write v && nat_lt 31 v.address))

-- 7: the index of the first DSR setting of an end whose DSR an earlier event sets; a and b: whether one came before
unfoldable pub first_repeat : Bool → Bool → ℕ → List Event → Option ℕ
first_repeat a b n [] = None
first_repeat a b n (v ∷ vs) =
    cond ((dsr_at end.A v && a) || (dsr_at end.B v && b)) (Some n) (first_repeat (a || dsr_at end.A v) (b || dsr_at end.B v) (n + 1) vs)

-- 11: the index of the first write at an end that is still recovering after this clock, or that an earlier event resets; a and b:
-- whether the end may not be written
unfoldable pub first_shut : Bool → Bool → ℕ → List Event → Option ℕ
first_shut a b n [] = None
first_shut a b n (v ∷ vs) =
    cond ((write_at end.A v && a) || (write_at end.B v && b)) (Some n)
    (first_shut (a || (write_at end.A v && v.address == 31)) (b || (write_at end.B v && v.address == 31)) (n + 1) vs)

-- still recovering once this clock has lowered the count
abbrev pub still_recovering : Acc → Bool
still_recovering e = nat_lt 1 e.recovery.0

abbrev pub no_event : Event
no_event = record { end = 2; kind = 0; address = 0; value = 0; served = 0 }

-- the end of an event of the list
abbrev pub end_at : List Event → ℕ → Option End
end_at vs i = end_of (slice_index_or vs i no_event).end

-- a refusal at the index that was found, or what comes next
abbrev pub or_else : Option ℕ → (ℕ → Fault) → Option Fault → Option Fault
or_else (Some i) f rest = Some (f i)
or_else None f rest = rest

abbrev pub refuse_if : Bool → Fault → Option Fault → Option Fault
refuse_if true f rest = Some f
refuse_if false f rest = rest

-- why a moment is refused, if it is: the causes in their order, 4 over the whole list before 5
unfoldable pub moment_refusal : List Event → Bench → Option Fault
moment_refusal vs m =
    or_else (first_of bad_end 0 vs) (λ i. at_place i None NoSuchEnd)
    (or_else (first_of bad_number 0 vs) (λ i. at_place i (end_at vs i) OutOfRange)
    (refuse_if (nat_lt 32 (length vs)) (at_place 32 (end_at vs 32) TooManyEvents)
    (or_else (first_repeat false false 0 vs) (λ i. at_place i (end_at vs i) RepeatedDsr)
    (refuse_if (not m.is_open) (unplaced NotOpen)
    (refuse_if (nat_le last_clock m.clock) (unplaced ClockLimit)
    (or_else (first_shut (still_recovering m.a) (still_recovering m.b) 0 vs) (λ i. at_place i (end_at vs i) Recovering) None))))))
