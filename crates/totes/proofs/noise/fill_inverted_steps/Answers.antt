use Rattle.std.proofs.Common.{length, arith}
use Rattle.std.proofs.lemmas.List.FromFn.{fill_by_all}
use Rattle.totes.specs.Noise.{inverted_step}
use Rattle.totes.proofs.noise.fill_inverted_steps.Goals as goal

pub returns : goal.returns
returns c =
    fill_by_all (inverted_step c.args.n) c.loop-i.steps (length c.args.steps.now) 0 c.loop-i.auto.steps
    (λ k h. c.loop-i.invariant k (omega arith))
