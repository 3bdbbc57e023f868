use Rattle.std.proofs.Common.{◌≡◌, length}
use Rattle.lines.specs.Rest.{fields}
use Rattle.lines.proofs.FieldLists.{with_rest}
use Rattle.lines.proofs.reading.read_fields.Given as goal

-- the numbers so far, and those of the rest behind them, are the numbers of the whole
abbrev pub invariant-loop-number : goal.invariant-loop-number
invariant-loop-number g l =
    record {
      room : length l.number-items ≡ g.row.N;
      read : fields g.row.N l.text ≡ with_rest g.row.N l.number-index l.number-items l.rest;
    }
