-- Levels that are turned over. Assumes nothing.
use Rattle.std.proofs.Common.{◌≡◌, Bool, true, false, refl, arith}
use Rattle.cable.specs.Passing.{turned}

pub turned_turned : (a b c : Bool) → turned (turned a b) c ≡ turned a (turned b c)
turned_turned true b c = grind arith
turned_turned false b c = refl

pub turned_swap : (a b c : Bool) → turned a (turned b c) ≡ turned b (turned a c)
turned_swap true b c = grind arith
turned_swap false b c = refl
