use Rattle.std.proofs.Common.{refl}
use Rattle.acc.specs.Calls.{bits_written}
use Rattle.acc.specs.Outputs.{write_of}
use Rattle.laws.specs.Runs.{filled}
use Rattle.laws.proofs.lines.rate_reaches_both_registers.Goals as goal

pub returns : goal.returns
unfolding bits_written write_of filled
returns c v e = (refl, refl, refl, refl)
