-- One value for each direction. Assumes nothing.
use Rattle.std.specs.Borrow.{Lends, Fml, MutBor, RattleType}
use Rattle.cable.specs.contracts.both_ways.BothWays.{the_row}
use Rattle.cable.specs.declared.both_ways.BothWays.{BothWays}
use Rattle.cable.specs.declared.direction.Direction.{Direction}
use Rattle.cable.specs.declared.direction.Direction.TheVariants.{TowardB, TowardA}

-- the value of a direction
abbrev pub way : {T : Type 0} → Direction → BothWays T → T
way TowardB w = w.toward_b
way TowardA w = w.toward_a

-- with another value for that direction
abbrev pub with_way : {T : Type 0} → Direction → T → BothWays T → BothWays T
with_way TowardB x w = record { toward_b = x; toward_a = w.toward_a }
with_way TowardA x w = record { toward_b = w.toward_b; toward_a = x }

-- the value of a direction is the last one written through r, and the other stays as it is
abbrev pub lends_way : (T : RattleType) → MutBor (BothWays T.Denot) → Direction → MutBor T.Denot → Fml
lends_way T s d r = Lends (the_row T) T s r (λ x. with_way d x s.now)
