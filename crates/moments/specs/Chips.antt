-- The chips of the two ends. Assumes nothing.
use Rattle.std.specs.Borrow.{Lends, Fml, MutBor}
use Rattle.faults.specs.declared.End.{End}
use Rattle.faults.specs.declared.End.TheVariants as end
use Rattle.acc.specs.contracts.chip.Acc.{the_row as acc_row}
use Rattle.acc.specs.declared.chip.Acc.{Acc}
use Rattle.moments.specs.contracts.chips.Chips.{the_row}
use Rattle.moments.specs.declared.chips.Chips.{Chips}

abbrev pub chip_at : End → Chips → Acc
chip_at end.A s = s.a
chip_at end.B s = s.b

-- with another chip at an end
abbrev pub with_chip_at : End → Acc → Chips → Chips
with_chip_at end.A x s = record { a = x; b = s.b }
with_chip_at end.B x s = record { a = s.a; b = x }

-- the chip of an end is the last one written through r, and the other stays as it is
abbrev pub lends_chip : MutBor Chips → End → MutBor Acc → Fml
lends_chip s e r = Lends the_row acc_row s r (λ x. with_chip_at e x s.now)
