-- How a refused line of input is shown. Assumes nothing.
use Rattle.std.specs.Prelude.{ℕ, List, ◌++◌, codes, decimal}
use Rattle.faults.specs.declared.Fault.{Fault}
use Rattle.faults.specs.Faults.{sentence}

-- as `line 7 is refused: ..`
abbrev pub refused_line : ℕ → Fault → List ℕ
refused_line number fault = codes "line " ++ (decimal number ++ (codes " is refused: " ++ sentence fault))
