use Rattle.std.proofs.Common.{◌≡◌, ◌+◌, ◌-◌, true}
use Rattle.acc.specs.Calls.{bits_written, transfer}
use Rattle.acc.specs.Sound.{sound}
use Rattle.acc.proofs.chip.Acc.put.Given as goal

-- what is left to write gives the whole
abbrev pub invariant-loop-i : goal.invariant-loop-i
invariant-loop-i l =
    (sound l.self ≡ true)
    × (bits_written (l.i-end - l.i) (l.address + l.i) l.rest l.self ≡ bits_written (transfer l.count) l.address l.value l.initial.self)
