-- A bench over the straight cable, driven line by line. Assumes nothing.
use Rattle.std.specs.Prelude.{ℕ, ◌+◌, Bool, cond, List, length, Ok, Err, Result, nat_lt}
use Rattle.faults.specs.declared.Cause.{Cause}
use Rattle.faults.specs.declared.Cause.TheVariants.{OutOfRange}
use Rattle.faults.specs.declared.Fault.{Fault}
use Rattle.faults.specs.Faults.{unplaced}
use Rattle.acc.specs.declared.chip.Received.{Received}
use Rattle.cable.specs.Delay.{straight_channels}
use Rattle.pair.specs.Bench.{Bench}
use Rattle.pair.specs.Calls.{open_answer, open_of, moments_reply, moments_done, put_reply, put_done, get_reply, load_reply, load_done, take_reply, take_done}
use Rattle.bench.specs.View.{unopened}
use Rattle.lines.specs.declared.command.Command.{Command}
use Rattle.lines.specs.declared.command.Command.TheVariants.{Open, Moments, Put, Get, Load, Take}
use Rattle.lines.specs.declared.reply.Reply.{Reply}
use Rattle.lines.specs.declared.reply.Reply.TheVariants.{Done, Number, Character, Refused}
use Rattle.lines.specs.Format.{parsed}
use Rattle.lines.specs.Texts.{reply_text, has_room, over}
use Rattle.script.specs.State.{State}

-- before the first line
abbrev pub fresh : State
fresh = record { bench = unopened straight_channels; lines = 0 }

-- what the bench answers, as a reply
abbrev pub as_done : Result (Unit {0}) Fault → Result Reply Fault
as_done (Ok x) = Ok Done
as_done (Err f) = Err f

abbrev pub as_number : Result ℕ Fault → Result Reply Fault
as_number (Ok n) = Ok (Number n)
as_number (Err f) = Err f

abbrev pub as_character : Result Received Fault → Result Reply Fault
as_character (Ok c) = Ok (Character c)
as_character (Err f) = Err f

-- what a command is answered; a bench is opened at clock 0
abbrev pub obeyed : Command → Bench → Result Reply Fault
obeyed (Open control x r interval) m = as_done (open_answer (record { start = 0; control = control; x = x; r = r; interval = interval }) m)
obeyed (Moments n) m = as_done (moments_reply n m)
obeyed (Put end address count value) m = as_done (put_reply end address count value m)
obeyed (Get end address count) m = as_number (get_reply end address count m)
obeyed (Load end character) m = as_done (load_reply end character m)
obeyed (Take end) m = as_character (take_reply end m)

-- and what it leaves
abbrev pub left_by : Command → Bench → Bench
left_by (Open control x r interval) m = open_of (record { start = 0; control = control; x = x; r = r; interval = interval }) m
left_by (Moments n) m = moments_done n m
left_by (Put end address count value) m = put_done end address count value m
left_by (Get end address count) m = m
left_by (Load end character) m = load_done end character m
left_by (Take end) m = take_done end m

-- what a line is answered, and what it leaves: its command is obeyed, if it has one; a cause of the line itself concerns no event and no end
abbrev pub line_answer : Result Command Cause → Bench → Result Reply Fault
line_answer (Ok c) m = obeyed c m
line_answer (Err c) m = Err (unplaced c)

abbrev pub line_left : Result Command Cause → Bench → Bench
line_left (Ok c) m = left_by c m
line_left (Err c) m = m

-- a refusal is told with the number of its line
abbrev pub on_line : ℕ → Result Reply Fault → Reply
on_line n (Ok r) = r
on_line n (Err f) = Refused n f

-- lines are counted from 1, also those that are refused
abbrev pub line_reply : List ℕ → State → Reply
line_reply line s = on_line (s.lines + 1) (line_answer (parsed line) s.bench)

abbrev pub line_state : List ℕ → State → State
line_state line s = record { bench = line_left (parsed line) s.bench; lines = s.lines + 1 }

-- the first 1,000,000 lines are read
abbrev pub is_read : State → Bool
is_read s = nat_lt s.lines 1000000

-- One call: what it answers, what it leaves in the buffer, and what it leaves of the script. A buffer of less than 64 bytes refuses it, and
-- behind the last line that is read it answers a length of 0; both change nothing.
abbrev pub call_answer : List ℕ → List ℕ → State → Result ℕ Fault
call_answer line buffer s =
    cond (has_room buffer) (cond (is_read s) (Ok (length (reply_text (line_reply line s)))) (Ok 0)) (Err (unplaced OutOfRange))

abbrev pub call_buffer : List ℕ → List ℕ → State → List ℕ
call_buffer line buffer s = cond (has_room buffer) (cond (is_read s) (over (reply_text (line_reply line s)) buffer) buffer) buffer

abbrev pub call_state : List ℕ → List ℕ → State → State
call_state line buffer s = cond (has_room buffer) (cond (is_read s) (line_state line s) s) s
