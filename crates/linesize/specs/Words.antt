-- A character's format as people read it. Assumes nothing.
use Rattle.std.specs.Prelude.{ℕ, List, ◌++◌, codes, decimal}
use Rattle.timing.specs.declared.registers.Control.{Control}
use Rattle.timing.specs.declared.registers.Parity.{Parity}
use Rattle.timing.specs.declared.registers.Parity.TheVariants.{Disabled, Even, Odd}
use Rattle.timing.specs.declared.registers.StopLength.{StopLength}
use Rattle.timing.specs.declared.registers.StopLength.TheVariants.{One, OneAndHalf, Two}
use Rattle.timing.specs.Registers.{width}

abbrev pub parity_text : Parity → List ℕ
parity_text Disabled = codes "no parity"
parity_text Even = codes "even parity"
parity_text Odd = codes "odd parity"

abbrev pub stop_text : StopLength → List ℕ
stop_text One = codes "1 stop bit"
stop_text OneAndHalf = codes "1.5 stop bits"
stop_text Two = codes "2 stop bits"

-- in words, as 7 bits, even parity, 1 stop bit
abbrev pub in_words : ℕ → List ℕ → List ℕ → List ℕ
in_words bits parity stop = decimal bits ++ (codes " bits, " ++ (parity ++ (codes ", " ++ stop)))

abbrev pub format_text : Control → List ℕ
format_text c = in_words (width c.format.length) (parity_text c.format.parity) (stop_text c.stop)

abbrev pub parity_letter : Parity → List ℕ
parity_letter Disabled = codes "N"
parity_letter Even = codes "E"
parity_letter Odd = codes "O"

abbrev pub stop_figure : StopLength → List ℕ
stop_figure One = codes "1"
stop_figure OneAndHalf = codes "1.5"
stop_figure Two = codes "2"

-- in short, as 7E1
abbrev pub in_short : ℕ → List ℕ → List ℕ → List ℕ
in_short bits parity stop = decimal bits ++ (parity ++ stop)

abbrev pub format_short : Control → List ℕ
format_short c = in_short (width c.format.length) (parity_letter c.format.parity) (stop_figure c.stop)
