-- One input bit, as a call that reads it answers. Assumes nothing.
use Rattle.std.specs.Prelude.{ℕ, Bool, Ok, Err, Result, ◌==◌}
use Rattle.faults.specs.declared.Fault.{Fault}

-- whether the bit that was read is 1, or the refusal
abbrev pub is_one : Result ℕ Fault → Result Bool Fault
is_one (Ok n) = Ok (n == 1)
is_one (Err f) = Err f
