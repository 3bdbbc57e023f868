-- What the rows of a table show. Assumes nothing.
use Rattle.std.specs.Prelude.{ℕ, Some, None, Option}
use Rattle.totes.specs.declared.outcome.Loss.{Loss}
use Rattle.study.specs.declared.report.Findings.{Findings}

-- until a row has a loss, each shorter interval is one with none lost; the first row with a loss settles both
abbrev pub noted_by : Option (ℕ × Loss) → Option ℕ → ℕ → Option Loss → Findings
noted_by (Some found) shortest interval loss = record { shortest = shortest; first_loss = Some found }
noted_by None shortest interval (Some l) = record { shortest = shortest; first_loss = Some (interval, l) }
noted_by None shortest interval None = record { shortest = Some interval; first_loss = None }

abbrev pub noted : ℕ → Option Loss → Findings → Findings
noted interval loss f = noted_by f.first_loss f.shortest interval loss
