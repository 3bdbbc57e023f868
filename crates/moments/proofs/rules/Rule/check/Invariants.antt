use Rattle.std.proofs.Common.{◌≡◌, drop}
use Rattle.moments.specs.Rules.{first_broken}
use Rattle.moments.proofs.rules.Rule.check.Given as goal

-- what is left gives the whole
abbrev pub invariant-loop-index : goal.invariant-loop-index
invariant-loop-index l = first_broken l.self l.barred l.index (drop l.index l.events) ≡ first_broken l.self l.initial.barred 0 l.events
