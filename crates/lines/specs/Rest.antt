-- The same fields, each read from the text that is left. Assumes nothing.
use Rattle.std.specs.Prelude.{ℕ, zero, suc, cond, List, [], ◌∷◌, length, drop, Ok, Err, Result, ◌==◌, slice_index}
use Rattle.faults.specs.declared.Cause.{Cause}
use Rattle.faults.specs.declared.Cause.TheVariants.{UnknownCommand, BadFields}
use Rattle.lines.specs.declared.command.Command.{Command}
use Rattle.lines.specs.declared.command.Command.TheVariants.{Open, Moments, Put, Get, Load, Take}
use Rattle.lines.specs.Format.{then, digits_from, in_range, field}

-- the number that digits write after the number so far, and the text behind them
unfoldable pub digits_onto : ℕ → List ℕ → Result (ℕ × List ℕ) Cause
digits_onto v text = then (in_range (digits_from 0 v text)) (λ f. Ok (f.0, drop f.1 text))

-- the number of the field that a text begins with, and the text behind it
unfoldable pub first_field : List ℕ → Result (ℕ × List ℕ) Cause
first_field text = then (field text 0) (λ f. Ok (f.0, drop f.1 text))

-- the numbers of a text of so many fields, with nothing behind them
abbrev pub fields : ℕ → List ℕ → Result (List ℕ) Cause
fields zero text = cond (length text == 0) (Ok []) (Err BadFields)
fields (suc n) text = then (first_field text) (λ f. then (fields n f.1) (λ ns. Ok (f.0 ∷ ns)))

-- the command of a letter, with the fields of the text behind it
abbrev pub command_with : ℕ → List ℕ → Result Command Cause
command_with letter rest =
    cond (letter == 79) (then (fields 4 rest) (λ ns. Ok (Open (slice_index ns 0) (slice_index ns 1) (slice_index ns 2) (slice_index ns 3))))
    (cond (letter == 77) (then (fields 1 rest) (λ ns. Ok (Moments (slice_index ns 0))))
    (cond (letter == 80) (then (fields 4 rest) (λ ns. Ok (Put (slice_index ns 0) (slice_index ns 1) (slice_index ns 2) (slice_index ns 3))))
    (cond (letter == 71) (then (fields 3 rest) (λ ns. Ok (Get (slice_index ns 0) (slice_index ns 1) (slice_index ns 2))))
    (cond (letter == 76) (then (fields 2 rest) (λ ns. Ok (Load (slice_index ns 0) (slice_index ns 1))))
    (cond (letter == 84) (then (fields 1 rest) (λ ns. Ok (Take (slice_index ns 0))))
    (Err UnknownCommand))))))

abbrev pub command_by_rest : List ℕ → Result Command Cause
command_by_rest [] = Err UnknownCommand
command_by_rest (letter ∷ rest) = command_with letter rest
