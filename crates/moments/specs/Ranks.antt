-- How the events of one rank are served. Assumes nothing.
use Rattle.std.specs.Prelude.{ℕ, ◌+◌, Bool, cond, List, [], ◌∷◌}
use Rattle.faults.specs.declared.End.{End}
use Rattle.faults.specs.declared.End.TheVariants as end
use Rattle.acc.specs.declared.chip.Acc.{Acc}
use Rattle.acc.specs.Calls.{dsr_set}
use Rattle.acc.specs.Outputs.{write_of}
use Rattle.pair.specs.declared.event.Event.{Event}
use Rattle.pair.specs.Moment.{sets_dsr, is_at, write_at, level_of, numbered, set_all, write_all}
use Rattle.moments.specs.declared.ranks.Rank.{Rank}
use Rattle.moments.specs.declared.ranks.Rank.TheVariants.{DsrSettings, WritesAt}

-- ---- a pass over a list that carries a state and may change each element

pub record Turn (S X : Type 0) : Type 0 where
  pub state : S
  pub item : X

module _ {S X : Type 0} where
  -- the state after the pass
  abbrev pub passed : (S → X → Turn S X) → S → List X → S
  passed f s [] = s
  passed f s (x ∷ xs) = passed f (f s x).state xs

  -- the list after the pass
  abbrev pub items : (S → X → Turn S X) → S → List X → List X
  items f s [] = []
  items f s (x ∷ xs) = (f s x).item ∷ items f (f s x).state xs

-- ---- the events of one rank

abbrev pub belongs : Rank → Event → Bool
belongs DsrSettings v = sets_dsr v
belongs (WritesAt e) v = write_at e v

-- what an event of a rank does to the chip of an end
abbrev pub touched : Rank → End → Event → Acc → Acc
touched DsrSettings e v x = cond (is_at e v) (dsr_set (level_of v) x) x
touched (WritesAt end.A) end.A v x = write_of v.address (level_of v) x
touched (WritesAt end.A) end.B v x = x
touched (WritesAt end.B) end.A v x = x
touched (WritesAt end.B) end.B v x = write_of v.address (level_of v) x

-- what the events of a rank do to the chip of an end
abbrev pub served_at : Rank → End → List Event → Acc → Acc
served_at DsrSettings e vs x = set_all e vs x
served_at (WritesAt end.A) end.A vs x = write_all end.A vs x
served_at (WritesAt end.A) end.B vs x = x
served_at (WritesAt end.B) end.A vs x = x
served_at (WritesAt end.B) end.B vs x = write_all end.B vs x

-- the number of the next event, and the two chips
pub record Serving : Type 0 where
  pub number : ℕ
  pub a : Acc
  pub b : Acc

abbrev pub serving : ℕ → Acc → Acc → Serving
serving n a b = record { number = n; a = a; b = b }

abbrev pub turn : Serving → Event → Turn Serving Event
turn s v = record { state = s; item = v }

abbrev pub serve_one : Rank → Serving → Event → Turn Serving Event
serve_one k s v =
    cond (belongs k v) (turn (serving (s.number + 1) (touched k end.A v s.a) (touched k end.B v s.b)) (numbered s.number v)) (turn s v)
