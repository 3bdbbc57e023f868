-- The two clocks. Assumes nothing.
use Rattle.std.specs.Prelude.{ℕ, ◌*◌}
use Rattle.timing.specs.declared.counts.PhiCount.{PhiCount}
use Rattle.timing.specs.declared.counts.InternalCount.{InternalCount}
use Rattle.timing.specs.declared.counts.Divider.{Divider}
use Rattle.timing.specs.declared.counts.Divider.TheVariants.{By3, By4}

-- the φ clocks of one internal clock
abbrev pub q : Divider → ℕ
q By3 = 3
q By4 = 4

abbrev pub phi : ℕ → PhiCount
phi n = record { 0 = n }

abbrev pub internal : ℕ → InternalCount
internal n = record { 0 = n }

-- the φ clocks of a number of internal clocks
abbrev pub in_phi : Divider → InternalCount → PhiCount
in_phi d n = phi (q d * n.0)
