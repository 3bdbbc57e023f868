-- What a run keeps to, as facts. Assumes nothing.
use Rattle.std.proofs.Common.{◌≡◌, Bool, true, not, ◌&&◌, ◌||◌, List, [], ◌∷◌, is_ok, arith}
use Rattle.std.proofs.lemmas.Bool.{and_parts}
use Rattle.faults.specs.declared.End.{End}
use Rattle.faults.specs.declared.End.TheVariants as end
use Rattle.cable.specs.Turnings.{flip_arrives}
use Rattle.sections.specs.Receive.{rsbd}
use Rattle.pair.specs.declared.event.Event.{Event}
use Rattle.pair.specs.Bench.{Bench, chip}
use Rattle.pair.specs.Calls.{moment_reply}
use Rattle.pair.specs.Moment.{is_write, after_rank_2}
use Rattle.pair.specs.Runs.{Call, load, take, moment, Run, after}
use Rattle.pair.specs.Law.{channel_to, bit_allowed, writes_allowed_bits, falls_inside_a_character, call_allowed, calls_allowed}

-- every write of a moment is to an allowed bit
unfoldable pub WritesAllowedBits : List Event → Type 0
WritesAllowedBits [] = Unit {0}
WritesAllowedBits (v ∷ vs) = (is_write v ≡ true → bit_allowed v.address ≡ true) × WritesAllowedBits vs

abbrev pub FallsInsideACharacter : Bench → End → List Event → Run → Type 0
FallsInsideACharacter o e vs r =
    flip_arrives (channel_to e o) r.time ≡ true → (rsbd (chip e r.bench).receiver ≡ true) × (rsbd (chip e (after_rank_2 vs r.bench)).receiver ≡ true)

abbrev pub CallAllowed : Bench → Call → Run → Type 0
CallAllowed o (load e c) r = Unit {0}
CallAllowed o (take e) r = Unit {0}
CallAllowed o (moment vs) r = is_ok (moment_reply vs r.bench) ≡ true → WritesAllowedBits vs × ((e : End) → FallsInsideACharacter o e vs r)

unfoldable pub CallsAllowed : Bench → List Call → Run → Type 0
CallsAllowed o [] r = Unit {0}
CallsAllowed o (c ∷ cs) r = CallAllowed o c r × CallsAllowed o cs (after c r)

-- a test that says "if a then b"
implied : (a b : Bool) → (not a || b) ≡ true → a ≡ true → b ≡ true
implied a b h e = grind arith

writes_are : (vs : List Event) → writes_allowed_bits vs ≡ true → WritesAllowedBits vs
unfolding writes_allowed_bits WritesAllowedBits
writes_are [] h = tt
writes_are (v ∷ vs) h =
    let both = and_parts (not (is_write v) || bit_allowed v.address) (writes_allowed_bits vs) h in
    (implied (is_write v) (bit_allowed v.address) both.0, writes_are vs both.1)

falls_are : (o : Bench) (e : End) (vs : List Event) (r : Run) → falls_inside_a_character o e vs r ≡ true → FallsInsideACharacter o e vs r
falls_are o e vs r h k = and_parts (rsbd (chip e r.bench).receiver) (rsbd (chip e (after_rank_2 vs r.bench)).receiver) (implied (flip_arrives (channel_to e o) r.time) _ h k)

call_is_allowed : (o : Bench) (c : Call) (r : Run) → call_allowed o c r ≡ true → CallAllowed o c r
call_is_allowed o (load e c) r h = tt
call_is_allowed o (take e) r h = tt
call_is_allowed o (moment vs) r h = λ k.
    let all = implied (is_ok (moment_reply vs r.bench)) (writes_allowed_bits vs && (falls_inside_a_character o end.A vs r && falls_inside_a_character o end.B vs r)) h k in
    let writes = and_parts (writes_allowed_bits vs) (falls_inside_a_character o end.A vs r && falls_inside_a_character o end.B vs r) all in
    let ends = and_parts (falls_inside_a_character o end.A vs r) (falls_inside_a_character o end.B vs r) writes.1 in
    (writes_are vs writes.0, λ e. at e ends.0 ends.1)
  where
    at : (e : End) → falls_inside_a_character o end.A vs r ≡ true → falls_inside_a_character o end.B vs r ≡ true → FallsInsideACharacter o e vs r
    at end.A a b = falls_are o end.A vs r a
    at end.B a b = falls_are o end.B vs r b

pub calls_are_allowed : (o : Bench) (cs : List Call) (r : Run) → calls_allowed o cs r ≡ true → CallsAllowed o cs r
unfolding calls_allowed CallsAllowed
calls_are_allowed o [] r h = tt
calls_are_allowed o (c ∷ cs) r h = let both = and_parts (call_allowed o c r) (calls_allowed o cs (after c r)) h in (call_is_allowed o c r both.0, calls_are_allowed o cs (after c r) both.1)
