use Rattle.std.proofs.Common.{◌≡◌, ℕ, ◌<◌, get_or}
use Rattle.totes.specs.Noise.{inverted_step}
use Rattle.totes.proofs.noise.fill_inverted_steps.Given as goal

abbrev pub invariant-loop-i : goal.invariant-loop-i
invariant-loop-i l = (k : ℕ) → k < l.i → get_or l.steps k 0 ≡ inverted_step l.n k
