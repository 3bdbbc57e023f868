-- A call to one end, test by test. Assumes nothing.
use Rattle.std.specs.Prelude.{Bool, cond, Some, None, Ok, Err, Option, Result}
use Rattle.faults.specs.declared.Cause.TheVariants.{NoSuchEnd, OutOfRange, NotOpen}
use Rattle.faults.specs.declared.End.{End}
use Rattle.faults.specs.declared.Fault.{Fault}
use Rattle.faults.specs.Faults.{unplaced}
use Rattle.pair.specs.Bench.{Bench, at_place}

-- the end of a call: 4, then 5, then 9
abbrev pub admitted : Option End → Bool → Bench → Result End Fault
admitted None fits m = Err (unplaced NoSuchEnd)
admitted (Some e) fits m = cond fits (cond m.is_open (Ok e) (Err (at_place 0 (Some e) NotOpen))) (Err (at_place 0 (Some e) OutOfRange))
