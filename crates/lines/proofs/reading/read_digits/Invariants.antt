use Rattle.std.proofs.Common.{◌≡◌, ◌≤◌, length}
use Rattle.lines.specs.Format.{largest}
use Rattle.lines.specs.Rest.{digits_onto}
use Rattle.lines.proofs.reading.read_digits.Given as goal

-- the rest, read after the number so far, gives the whole
abbrev pub invariant-loop-digit : goal.invariant-loop-digit
invariant-loop-digit l = record { small : l.number ≤ largest; read : digits_onto l.number l.rest ≡ digits_onto 0 l.text }

abbrev pub decreases-loop-digit : goal.decreases-loop-digit
decreases-loop-digit l = length l.rest
