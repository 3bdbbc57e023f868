-- The ranks, each serving the list that the one before it left, are those of a moment's definition. Assumes nothing.
use Rattle.std.proofs.Common.{◌≡◌, ℕ, zero, suc, ◌+◌, ◌-◌, ◌<◌, Bool, cond, List, [], ◌∷◌, sym, refl, ap, arith}
use Rattle.faults.specs.declared.End.{End}
use Rattle.faults.specs.declared.End.TheVariants as end
use Rattle.acc.specs.declared.chip.Acc.{Acc}
use Rattle.acc.specs.Outputs.{write_of}
use Rattle.pair.specs.declared.event.Event.{Event}
use Rattle.pair.specs.Bench.{Bench, clocked}
use Rattle.pair.specs.Calls.{moves}
use Rattle.pair.specs.Moment.{sets_dsr, write_at, level_of, set_all, write_all, after_rank_2, moved, how_many, number_each, served_list}
use Rattle.moments.specs.declared.ranks.Rank.TheVariants.{DsrSettings, WritesAt}
use Rattle.moments.specs.Ranks.{belongs}

-- the list after rank 1, after rank 3, and after rank 4
abbrev pub settings_numbered : List Event → List Event
settings_numbered vs = number_each (belongs DsrSettings) 1 vs

abbrev pub writes_numbered : List Event → List Event
writes_numbered vs = number_each (belongs (WritesAt end.A)) (1 + how_many (belongs DsrSettings) vs) (settings_numbered vs)

abbrev pub list_served : List Event → List Event
list_served vs =
    number_each (belongs (WritesAt end.B)) (1 + how_many (belongs DsrSettings) vs + how_many (belongs (WritesAt end.A)) (settings_numbered vs)) (writes_numbered vs)

-- the bench after the four ranks, each of which serves the list that the one before it left
abbrev pub ranks_served : List Event → Bench → Bench
ranks_served vs m =
    let k = after_rank_2 vs m in
    record {
      a = write_all end.A (settings_numbered vs) k.a;
      b = write_all end.B (writes_numbered vs) k.b;
      channels = k.channels;
      clock = k.clock;
      is_open = k.is_open;
    }

-- a serving number changes neither which events write nor what they write
counted : (e : End) (t : Event → Bool) (n : ℕ) (vs : List Event) → how_many (write_at e) (number_each t n vs) ≡ how_many (write_at e) vs
unfolding how_many number_each
counted e t n [] = refl
counted e t n (v ∷ vs) =
    let on = counted e t (n + 1) vs in
    let off = counted e t n vs in
    grind arith

written : (e : End) (t : Event → Bool) (n : ℕ) (vs : List Event) (x : Acc) → write_all e (number_each t n vs) x ≡ write_all e vs x
unfolding write_all number_each
written e t n [] x = refl
written e t n (v ∷ vs) x =
    let y = cond (write_at e v) (write_of v.address (level_of v) x) x in
    let on = written e t (n + 1) vs y in
    let off = written e t n vs y in
    grind arith

pub list_is_served : (vs : List Event) → served_list vs ≡ list_served vs
unfolding served_list
list_is_served vs = let at_a = counted end.A sets_dsr 1 vs in grind arith

pub ranks_are_moved : (vs : List Event) (m : Bench) → moved vs m ≡ ranks_served vs m
unfolding moved
ranks_are_moved vs m =
    let k = after_rank_2 vs m in
    let at_a = written end.A sets_dsr 1 vs k.a in
    let after_a = written end.B (write_at end.A) (1 + how_many sets_dsr vs) (settings_numbered vs) k.b in
    let at_b = written end.B sets_dsr 1 vs k.b in
    grind arith

pub ruleset ranks = (list_is_served, ranks_are_moved)

-- moments without events, each of which is its φ clock
pub clock_is_moved : (m : Bench) → clocked m ≡ moved [] m
unfolding moved set_all write_all
clock_is_moved m = refl

pub moves_none : (n : ℕ) (m : Bench) → n ≡ 0 → moves n m ≡ m
unfolding moves
moves_none n m e = rw e

pub moves_on : (n : ℕ) (m : Bench) → 0 < n → moves n m ≡ moves (n - 1) (clocked m)
unfolding moves
moves_on zero m h = absurd (omega arith)
moves_on (suc n) m h = let less : suc n - 1 ≡ n = omega arith in rw less (ap (moves n) (sym (clock_is_moved m)))

pub ruleset clocks = (moves_none, moves_on)
