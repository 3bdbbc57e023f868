use Rattle.std.proofs.Common.{refl}
use Rattle.acc.specs.Outputs.{write_of}
use Rattle.laws.proofs.lines.reset_keeps_registers.Goals as goal

pub returns : goal.returns
unfolding write_of
returns c v e = (refl, refl, refl, refl, refl, refl, refl, refl, refl)
