-- Cables without flips: what a straight one and a delaying one mean. Assumes nothing.
use Rattle.std.specs.Prelude.{ℕ, ◌+◌, Bool, true, false, cond, ◌&&◌, List, [], ◌++◌, take, drop, replicate, Ok, Err, Result, nat_le, nat_lt}
use Rattle.faults.specs.declared.Fault.{Fault}
use Rattle.faults.specs.declared.Cause.TheVariants.{OutOfRange}
use Rattle.faults.specs.Faults.{unplaced}
use Rattle.cable.specs.declared.line.Line.{Line}
use Rattle.cable.specs.declared.delaying.Delaying.{Delaying}
use Rattle.cable.specs.Channels.{Pair, Channel, Channels, Lawful, LawfulFlips}

-- some pairs wait, and nothing is ever turned over
abbrev pub unflipped : List Pair → Channel
unflipped ps = record { waiting = ps; flips = [] }

abbrev pub both_unflipped : List Pair → List Pair → Channels
both_unflipped ps qs = record { toward_b = unflipped ps; toward_a = unflipped qs }

pub unflipped_lawful : (ps qs : List Pair) → Lawful (both_unflipped ps qs)
unfolding LawfulFlips
unflipped_lawful ps qs = (tt, tt)

-- what a straight cable means
abbrev pub straight_channels : Channels
straight_channels = both_unflipped [] []

-- a list read as a ring, from the place h on
abbrev pub rotated : {X : Type 0} → ℕ → List X → List X
rotated h xs = drop h xs ++ take h xs

-- the place after h in a ring of n
abbrev pub next_place : ℕ → ℕ → ℕ
next_place h n = cond (nat_lt (h + 1) n) (h + 1) 0

abbrev pub waiting_in : Line → List Pair
waiting_in l = rotated l.head (take l.len l.pairs)

-- what a delaying cable means
abbrev pub delaying_channels : Delaying → Channels
delaying_channels c = both_unflipped (waiting_in c.lines.toward_b) (waiting_in c.lines.toward_a)

-- n pairs, all mark and inactive
abbrev pub idle : ℕ → List Pair
idle n = replicate n (true, false)

abbrev pub idle_channels : ℕ → ℕ → Channels
idle_channels m n = both_unflipped (idle m) (idle n)

abbrev pub length_allowed : ℕ → Bool
length_allowed n = nat_le 1 n && nat_le n 64

abbrev pub lengths_answer : ℕ → ℕ → Result (Unit {0}) Fault
lengths_answer m n = cond (length_allowed m && length_allowed n) (Ok tt) (Err (unplaced OutOfRange))
