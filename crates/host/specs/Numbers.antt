-- An answer as one number: the count, or the cause negated. Assumes nothing.
use Rattle.std.specs.Prelude.{ℤ, pos, neg_ℤ, Ok, Err, Result}
use Rattle.timing.specs.declared.counts.PhiCount.{PhiCount}
use Rattle.timing.specs.declared.counts.InternalCount.{InternalCount}
use Rattle.faults.specs.declared.Fault.{Fault}
use Rattle.faults.specs.Faults.{cause_number}

abbrev pub negated : Fault → ℤ
negated f = neg_ℤ (pos (cause_number f.cause))

abbrev pub internal_or_cause : Result InternalCount Fault → ℤ
internal_or_cause (Ok n) = pos n.0
internal_or_cause (Err f) = negated f

abbrev pub phi_or_cause : Result PhiCount Fault → ℤ
phi_or_cause (Ok n) = pos n.0
phi_or_cause (Err f) = negated f
