-- Moments leave a straight cable as it is. Assumes nothing.
use Rattle.std.proofs.Common.{◌≡◌, ℕ, zero, suc, []}
use Rattle.cable.specs.Channels.{stepped, struck, remaining}
use Rattle.cable.specs.Delay.{straight_channels}
use Rattle.pair.specs.Bench.{Bench}
use Rattle.pair.specs.Calls.{moves}
use Rattle.pair.specs.Moment.{moved}

moved_straight : (m : Bench) → m.channels ≡ straight_channels → (moved [] m).channels ≡ straight_channels
unfolding moved stepped struck remaining
moved_straight m e = rw e

pub moves_straight : (n : ℕ) (m : Bench) → m.channels ≡ straight_channels → (moves n m).channels ≡ straight_channels
unfolding moves
moves_straight zero m e = e
moves_straight (suc n) m e = moves_straight n (moved [] m) (moved_straight m e)
