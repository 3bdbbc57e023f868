use Rattle.std.proofs.Common.{◌≡◌, ◌+◌, ◌-◌}
use Rattle.pair.specs.Calls.{moves}
use Rattle.bench.proofs.Bench.run_on.Given as goal

-- the moments that are left give the whole
abbrev pub invariant-loop : goal.invariant-loop
invariant-loop g l =
    (l.self.meaning.clock ≡ l.initial.self.meaning.clock + l.counter) × (moves (l.n - l.counter) l.self.meaning ≡ moves l.n l.initial.self.meaning)
