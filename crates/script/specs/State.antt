-- What a script is in its clauses. Assumes nothing.
use Rattle.std.specs.Prelude.{ℕ}
use Rattle.pair.specs.Bench.{Bench}

-- the bench, and how many lines were read
pub record State : Type 0 where
  pub bench : Bench
  pub lines : ℕ
