use Rattle.std.proofs.Common.{◌≡◌, ◌^◌, ◌<◌}
use Rattle.acc.specs.Inputs.{bits_read}
use Rattle.acc.proofs.chip.Acc.get.Given as goal

abbrev pub invariant-loop-i : goal.invariant-loop-i
invariant-loop-i l = (l.value < 2 ^ l.i) × (l.value ≡ bits_read l.i l.address l.self)
