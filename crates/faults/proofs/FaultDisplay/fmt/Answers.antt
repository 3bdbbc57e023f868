use Rattle.std.proofs.Output.{has_written_of_eq}
use Rattle.faults.specs.Faults.{told, cause_text}
use Rattle.faults.proofs.FaultDisplay.fmt.Goals as goal

pub returns-clause-writes : goal.returns-clause-writes
returns-clause-writes g c plain ok =
    has_written_of_eq _ _ _ _ _
    (λ i. told (cause_text c.args.self.now.cause) (c.from-number.ensures i) c.args.self.now.place.index (c.end_text-end.ensures i))
    (c.write.ensures.writes plain ok)
