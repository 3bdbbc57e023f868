-- The values and the text of each command and of each reply. Assumes nothing.
use Rattle.std.specs.Prelude.{ℕ, Bool, true, false, cond, List, [], ◌∷◌, ◌++◌, length, drop, Ok, Err, decimal, Result, nat_le}
use Rattle.faults.specs.declared.Cause.TheVariants.{OutOfRange}
use Rattle.faults.specs.declared.Fault.{Fault}
use Rattle.faults.specs.Faults.{cause_number, place_end, unplaced}
use Rattle.lines.specs.declared.command.Command.{Command}
use Rattle.lines.specs.declared.command.Command.TheVariants.{Open, Moments, Put, Get, Load, Take}
use Rattle.lines.specs.declared.reply.Reply.{Reply}
use Rattle.lines.specs.declared.reply.Reply.TheVariants.{Done, Number, Character, Refused}

-- a text in the place of a buffer's first bytes
abbrev pub over : List ℕ → List ℕ → List ℕ
over text buffer = text ++ drop (length text) buffer

-- one number more, behind one space
abbrev pub with_field : List ℕ → ℕ → List ℕ
with_field text n = text ++ (32 ∷ []) ++ decimal n

-- numbers behind a text, each after one space
abbrev pub with_fields : List ℕ → List ℕ → List ℕ
with_fields text [] = text
with_fields text (n ∷ ns) = with_fields (with_field text n) ns

-- a flag as a number
abbrev pub flag_number : Bool → ℕ
flag_number true = 1
flag_number false = 0

-- a command's letter, its numbers in their order, and its line without a closing byte
abbrev pub command_letter : Command → ℕ
command_letter (Open control x r interval) = 79
command_letter (Moments n) = 77
command_letter (Put end address count value) = 80
command_letter (Get end address count) = 71
command_letter (Load end character) = 76
command_letter (Take end) = 84

abbrev pub command_values : Command → List ℕ
command_values (Open control x r interval) = control ∷ x ∷ r ∷ interval ∷ []
command_values (Moments n) = n ∷ []
command_values (Put end address count value) = end ∷ address ∷ count ∷ value ∷ []
command_values (Get end address count) = end ∷ address ∷ count ∷ []
command_values (Load end character) = end ∷ character ∷ []
command_values (Take end) = end ∷ []

abbrev pub command_text : Command → List ℕ
command_text c = with_fields (command_letter c ∷ []) (command_values c)

-- what a reply begins with: `ok`, a number, the character, or `?`
abbrev pub reply_start : Reply → List ℕ
reply_start Done = 111 ∷ 107 ∷ []
reply_start (Number n) = decimal n
reply_start (Character c) = decimal c.character
reply_start (Refused line f) = 63 ∷ []

-- the numbers behind that, in their order
abbrev pub reply_values : Reply → List ℕ
reply_values Done = []
reply_values (Number n) = []
reply_values (Character c) = flag_number c.rfer ∷ flag_number c.rover ∷ flag_number c.rper ∷ []
reply_values (Refused line f) = line ∷ f.place.index ∷ place_end f.place ∷ cause_number f.cause ∷ []

-- a reply's line, with its closing byte 10
abbrev pub reply_text : Reply → List ℕ
reply_text r = with_fields (reply_start r) (reply_values r) ++ (10 ∷ [])

-- a buffer takes any reply if it has 64 bytes
abbrev pub has_room : List ℕ → Bool
has_room buffer = nat_le 64 (length buffer)

abbrev pub write_answer : Reply → List ℕ → Result ℕ Fault
write_answer r buffer = cond (has_room buffer) (Ok (length (reply_text r))) (Err (unplaced OutOfRange))

abbrev pub write_of : Reply → List ℕ → List ℕ
write_of r buffer = cond (has_room buffer) (over (reply_text r) buffer) buffer
