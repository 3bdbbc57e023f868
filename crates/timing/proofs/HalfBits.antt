-- How long half a bit is. Assumes nothing.
use Rattle.std.proofs.Common.{ℕ, ◌*◌, ◌<◌, Bool, true, false, cond, arith}
use Rattle.timing.specs.Registers.{bit, count, half_count}

count_some : (r : ℕ) → 0 < count r
count_some r = grind arith

-- half a bit takes at least one internal clock
pub half_count_some : (r : ℕ) → 0 < half_count r
unfolding half_count
half_count_some r = by (bit 10 r)
  where
    by : (b : Bool) → 0 < cond b 8 1 * count r
    by true = omega (arith, count_some r)
    by false = omega (arith, count_some r)
