-- The format of a script's lines, byte by byte. Assumes nothing.
use Rattle.std.specs.Prelude.{ℕ, ◌+◌, ◌-◌, ◌*◌, Bool, cond, not, ◌&&◌, List, [], ◌∷◌, length, take, drop, Ok, Err, Result, ◌==◌, nat_le, nat_lt, slice_index, slice_index_or}
use Rattle.faults.specs.declared.Cause.{Cause}
use Rattle.faults.specs.declared.Cause.TheVariants.{LineTooLong, UnknownCommand, BadFields}
use Rattle.lines.specs.declared.command.Command.{Command}
use Rattle.lines.specs.declared.command.Command.TheVariants.{Open, Moments, Put, Get, Load, Take}

-- what follows an answer, unless it is a refusal
abbrev pub then : {A B : Type 0} → Result A Cause → (A → Result B Cause) → Result B Cause
then (Ok x) next = next x
then (Err c) next = Err c

-- the largest number of a field
abbrev pub largest : ℕ
largest = 4294967295

abbrev pub is_digit : ℕ → Bool
is_digit b = nat_le 48 b && nat_le b 57

-- a number so far has one more digit; one that is too large already is not read on
abbrev pub goes_on : ℕ → ℕ → Bool
goes_on v b = is_digit b && nat_le v largest

-- the number that digits write, after the number so far, from a place on, and the place behind them
abbrev pub digits_from : ℕ → ℕ → List ℕ → ℕ × ℕ
digits_from i v [] = (v, i)
digits_from i v (b ∷ bs) = cond (goes_on v b) (digits_from (i + 1) (v * 10 + (b - 48)) bs) (v, i)

-- A field begins with one space and a digit; behind a 0 stands no digit. Behind the text's end the byte reads 0, which is none of these.
abbrev pub opens_field : List ℕ → ℕ → Bool
opens_field text i =
    let first = slice_index_or text (i + 1) 0 in
    (slice_index text i == 32) && (is_digit first && not (first == 48 && is_digit (slice_index text (i + 2))))

abbrev pub in_range : ℕ × ℕ → Result (ℕ × ℕ) Cause
in_range f = cond (nat_le f.0 largest) (Ok f) (Err BadFields)

-- the number of the field at a place, and the place behind it
abbrev pub field : List ℕ → ℕ → Result (ℕ × ℕ) Cause
field text i = cond (opens_field text i) (in_range (digits_from (i + 1) 0 (drop (i + 1) text))) (Err BadFields)

-- the last fields of a text: one, two, three or four, and nothing behind them
abbrev pub one : List ℕ → ℕ → Result ℕ Cause
one text i = then (field text i) (λ f. cond (f.1 == length text) (Ok f.0) (Err BadFields))

abbrev pub two : List ℕ → ℕ → Result (ℕ × ℕ) Cause
two text i = then (field text i) (λ f. then (one text f.1) (λ b. Ok (f.0, b)))

abbrev pub three : List ℕ → ℕ → Result (ℕ × ℕ × ℕ) Cause
three text i = then (field text i) (λ f. then (two text f.1) (λ p. Ok (f.0, p.0, p.1)))

abbrev pub four : List ℕ → ℕ → Result (ℕ × ℕ × ℕ × ℕ) Cause
four text i = then (field text i) (λ f. then (three text f.1) (λ p. Ok (f.0, p.0, p.1, p.2)))

-- the command of a letter, with the fields that stand behind it
abbrev pub command_in : List ℕ → ℕ → Result Command Cause
command_in text letter =
    cond (letter == 79) (then (four text 1) (λ p. Ok (Open p.0 p.1 p.2 p.3)))
    (cond (letter == 77) (then (one text 1) (λ n. Ok (Moments n)))
    (cond (letter == 80) (then (four text 1) (λ p. Ok (Put p.0 p.1 p.2 p.3)))
    (cond (letter == 71) (then (three text 1) (λ p. Ok (Get p.0 p.1 p.2)))
    (cond (letter == 76) (then (two text 1) (λ p. Ok (Load p.0 p.1)))
    (cond (letter == 84) (then (one text 1) (λ e. Ok (Take e)))
    (Err UnknownCommand))))))

-- how long a line is without its closing byte 10, if it has one
abbrev pub text_length : List ℕ → ℕ
text_length line = cond (slice_index line (length line - 1) == 10) (length line - 1) (length line)

abbrev pub text_of_line : List ℕ → List ℕ
text_of_line line = take (text_length line) line

abbrev pub command_of : List ℕ → Result Command Cause
command_of text = cond (nat_lt 80 (length text)) (Err LineTooLong) (command_in text (slice_index text 0))

-- a line as a command, or the cause why it is none: 1, then 2, then 3
abbrev pub parsed : List ℕ → Result Command Cause
parsed line = command_of (text_of_line line)
