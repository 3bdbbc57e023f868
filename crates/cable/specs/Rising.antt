-- Strictly rising numbers. Assumes nothing.
use Rattle.std.specs.Prelude.{ℕ, ◌+◌, Bool, true, ◌&&◌, List, [], ◌∷◌, nat_le}

-- the numbers rise strictly, and none is below e
abbrev pub rising : ℕ → List ℕ → Bool
rising e [] = true
rising e (p ∷ ps) = nat_le e p && rising (p + 1) ps
