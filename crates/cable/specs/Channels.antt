-- What a cable means: for each direction a list of waiting pairs and a list of flips. Assumes nothing.
use Rattle.std.specs.Prelude.{ℕ, zero, suc, ◌-◌, ◌≤◌, min, Bool, true, cond, not, ◌&&◌, List, [], ◌∷◌, ◌++◌, length, ◌==◌}
use Rattle.cable.specs.declared.direction.Direction.{Direction}
use Rattle.cable.specs.declared.direction.Direction.TheVariants.{TowardB, TowardA}

-- a data level, true for mark, and a control line, true where it is active
abbrev pub Pair : Type 0
Pair = Bool × Bool

-- a flip turns over the data level of the pair at its place once its position has come down to that place; place and
-- position count from the pair that is handed out next
pub record Flip : Type 0 where
  pub place : ℕ
  pub position : ℕ

-- one direction: the pairs that wait, the one handed out next first, and the flips
pub record Channel : Type 0 where
  pub waiting : List Pair
  pub flips : List Flip

-- both directions
pub record Channels : Type 0 where
  pub toward_b : Channel
  pub toward_a : Channel

abbrev pub channel : Direction → Channels → Channel
channel TowardB c = c.toward_b
channel TowardA c = c.toward_a

-- a pair with its data level turned over; the control line is never touched
abbrev pub inverted : Pair → Pair
inverted p = (not p.0, p.1)

unfoldable pub invert_at : ℕ → List Pair → List Pair
invert_at n [] = []
invert_at zero (p ∷ ps) = inverted p ∷ ps
invert_at (suc n) (p ∷ ps) = p ∷ invert_at n ps

-- a flip is due where its position equals its place
abbrev pub due : Flip → Bool
due f = f.position == f.place

abbrev pub nearer : Flip → Flip
nearer f = record { place = f.place; position = f.position - 1 }

-- each flip that is due turns over the pair at its place
unfoldable pub struck : List Flip → List Pair → List Pair
struck [] ps = ps
struck (f ∷ fs) ps = struck fs (cond (due f) (invert_at f.place ps) ps)

-- and is struck off; every other position falls by one
unfoldable pub remaining : List Flip → List Flip
remaining [] = []
remaining (f ∷ fs) = cond (due f) (remaining fs) (nearer f ∷ remaining fs)

abbrev pub front : Pair → List Pair → Pair
front d [] = d
front d (p ∷ ps) = p

abbrev pub behind : List Pair → List Pair
behind [] = []
behind (p ∷ ps) = ps

-- the entering pair joins the back of the list, and the flips that are due do their work
abbrev pub entered : Channel → Pair → List Pair
entered c p = struck c.flips (c.waiting ++ p ∷ [])

-- then the front pair is handed out
unfoldable pub handed : Channel → Pair → Pair
handed c p = front p (entered c p)

-- what a step leaves of its direction
unfoldable pub stepped : Channel → Pair → Channel
stepped c p = record { waiting = behind (entered c p); flips = remaining c.flips }

-- and of both: the other direction stays as it is
abbrev pub channels_stepped : Direction → Pair → Channels → Channels
channels_stepped TowardB p c = record { toward_b = stepped c.toward_b p; toward_a = c.toward_a }
channels_stepped TowardA p c = record { toward_b = c.toward_b; toward_a = stepped c.toward_a p }

-- the number of waiting pairs, or 65,535 if there are more
abbrev pub delay_of : Channel → ℕ
delay_of c = min (length c.waiting) 65535

-- every waiting data level is mark
unfoldable pub all_mark : List Pair → Bool
all_mark [] = true
all_mark (p ∷ ps) = p.0 && all_mark ps

abbrev pub is_clear : Channels → Bool
is_clear c = all_mark c.toward_b.waiting && all_mark c.toward_a.waiting

-- a flip has a place on a channel of d pairs, or just behind them, and a position not below it
unfoldable pub LawfulFlips : ℕ → List Flip → Type 0
LawfulFlips d [] = Unit {0}
LawfulFlips d (f ∷ fs) = (f.place ≤ d) × (f.place ≤ f.position) × LawfulFlips d fs

abbrev pub LawfulChannel : Channel → Type 0
LawfulChannel c = LawfulFlips (length c.waiting) c.flips

abbrev pub Lawful : Channels → Type 0
Lawful c = LawfulChannel c.toward_b × LawfulChannel c.toward_a
