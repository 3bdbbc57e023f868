-- What a moment asks of the bench before it changes anything. Assumes nothing.
use Rattle.std.specs.Prelude.{cond, Ok, Err, Result, nat_le}
use Rattle.faults.specs.declared.Cause.TheVariants.{NotOpen, ClockLimit}
use Rattle.faults.specs.declared.Fault.{Fault}
use Rattle.faults.specs.Faults.{unplaced}
use Rattle.pair.specs.Bench.{Bench, last_clock}
use Rattle.pair.specs.Moment.{still_recovering}
use Rattle.moments.specs.declared.rules.Barred.{Barred}
use Rattle.moments.specs.Rules.{barred}

-- the bench is open, and its clock can go on
abbrev pub ready : Bench → Result (Unit {0}) Fault
ready m = cond m.is_open (cond (nat_le last_clock m.clock) (Err (unplaced ClockLimit)) (Ok tt)) (Err (unplaced NotOpen))

abbrev pub recoveries : Bench → Barred
recoveries m = barred (still_recovering m.a) (still_recovering m.b)
