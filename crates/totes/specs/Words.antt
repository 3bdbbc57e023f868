-- A loss as people read it. Assumes nothing.
use Rattle.std.specs.Prelude.{List, ℕ, ◌++◌, codes, decimal}
use Rattle.std.specs.Int.{from_bool}
use Rattle.totes.specs.declared.position.Position.{Position}
use Rattle.totes.specs.declared.outcome.Flags.{Flags}
use Rattle.totes.specs.declared.outcome.Loss.{Loss}
use Rattle.totes.specs.declared.outcome.LossKind.{LossKind}
use Rattle.totes.specs.declared.outcome.LossKind.TheVariants.{Overwritten, Missed, NeverRead}

-- as `character 2 of label 0`
abbrev pub position_text : Position → List ℕ
position_text p = codes "character " ++ (decimal p.character ++ (codes " of label " ++ decimal p.label))

abbrev pub kind_text : LossKind → List ℕ
kind_text Overwritten = codes "was overwritten"
kind_text Missed = codes "was missed: bit 18 was written on the clock of its stop sample, as event 1"
kind_text NeverRead = codes "was never read"

-- as `RBRL 1, RFER 0, ROVER 1, RPER 0`
abbrev pub flags_text : Flags → List ℕ
flags_text f =
    codes "RBRL " ++ (decimal (from_bool f.rbrl) ++ (codes ", RFER " ++ (decimal (from_bool f.rfer) ++ (codes ", ROVER " ++ (decimal (from_bool f.rover) ++ (codes ", RPER " ++ decimal (from_bool f.rper)))))))

-- as `clock 402, character 0 of label 1 was overwritten; RBRL 1, RFER 0, ROVER 1, RPER 0`
abbrev pub loss_text : Loss → List ℕ
loss_text l =
    codes "clock " ++ (decimal l.clock ++ (codes ", " ++ (position_text l.position ++ (codes " " ++ (kind_text l.kind ++ (codes "; " ++ flags_text l.flags))))))
