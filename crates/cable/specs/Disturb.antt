-- Cables in which nothing waits: what a disturbed one means. Assumes nothing.
use Rattle.std.specs.Prelude.{ℕ, ◌-◌, Bool, cond, ◌&&◌, List, [], ◌∷◌, length, Ok, Err, Result, nat_le}
use Rattle.std.proofs.Common.{arith}
use Rattle.faults.specs.declared.Fault.{Fault}
use Rattle.faults.specs.declared.Cause.TheVariants.{OutOfRange}
use Rattle.faults.specs.Faults.{unplaced}
use Rattle.cable.specs.declared.track.Track.{Track}
use Rattle.cable.specs.declared.disturbed.Disturbed.{Disturbed}
use Rattle.cable.specs.Channels.{Flip, Channel, Channels, Lawful, LawfulFlips}
use Rattle.cable.specs.Rising.{rising}

-- flips at place 0, for the steps of these numbers, of which e are past
abbrev pub flips_after : ℕ → List ℕ → List Flip
flips_after e [] = []
flips_after e (p ∷ ps) = record { place = 0; position = p - e } ∷ flips_after e ps

abbrev pub flipped : ℕ → List ℕ → Channel
flipped e ps = record { waiting = []; flips = flips_after e ps }

abbrev pub flipped_in : Track → Channel
flipped_in t = flipped t.elapsed t.left.now

-- what a disturbed cable means
abbrev pub disturbed_channels : Disturbed → Channels
disturbed_channels d = record { toward_b = flipped_in d.tracks.toward_b; toward_a = flipped_in d.tracks.toward_a }

-- what it means once its flips are set
abbrev pub flips_channels : List ℕ → List ℕ → Channels
flips_channels ps qs = record { toward_b = flipped 0 ps; toward_a = flipped 0 qs }

abbrev pub list_allowed : List ℕ → Bool
list_allowed ps = nat_le (length ps) 4096 && rising 0 ps

abbrev pub flips_answer : List ℕ → List ℕ → Result (Unit {0}) Fault
flips_answer ps qs = cond (list_allowed ps && list_allowed qs) (Ok tt) (Err (unplaced OutOfRange))

flips_lawful : (e : ℕ) (ps : List ℕ) → LawfulFlips 0 (flips_after e ps)
unfolding LawfulFlips
flips_lawful e [] = tt
flips_lawful e (p ∷ ps) = (omega arith, omega arith, flips_lawful e ps)

pub disturbed_lawful : (d : Disturbed) → Lawful (disturbed_channels d)
disturbed_lawful d = (flips_lawful _ _, flips_lawful _ _)
