-- What a channel hands out over many steps. Assumes nothing.
use Rattle.std.specs.Prelude.{◌≡◌, ℕ, ◌<◌, Bool, true, false, not, List, [], ◌∷◌, ◌++◌, length, get_or, ◌==◌, slice_index_or}
use Rattle.cable.specs.Channels.{Pair, Flip, Channel, LawfulChannel, handed, stepped}

-- the second, turned over if the first holds
abbrev pub turned : Bool → Bool → Bool
turned true v = not v
turned false v = v

-- an odd number of the flips have this position
unfoldable pub odd_at : List Flip → ℕ → Bool
odd_at [] j = false
odd_at (f ∷ fs) j = turned (f.position == j) (odd_at fs j)

-- what steps hand out, one for each pair that enters
unfoldable pub passed : Channel → List Pair → List Pair
passed c [] = []
passed c (p ∷ ps) = handed c p ∷ passed (stepped c p) ps

-- The pair that step t hands out, counted from 0, is the one that stands t places behind the front among those that wait and those that
-- enter after them. Its control line is as it was, and its data level is turned over exactly if an odd number of flips had the position t,
-- whatever their places.
abbrev pub HandsOutWhatEntered : Type 0
HandsOutWhatEntered =
    (c : Channel) → LawfulChannel c → (ps : List Pair) (t : ℕ) (d : Pair) → t < length ps →
    slice_index_or (passed c ps) t d ≡ (turned (odd_at c.flips t) (get_or (c.waiting ++ ps) t d).0, (get_or (c.waiting ++ ps) t d).1)
