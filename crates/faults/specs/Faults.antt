-- Refusals: their causes, numbers, places and words. Assumes nothing.
use Rattle.std.specs.Prelude.{ℕ, cond, List, ◌++◌, Some, None, Ok, Err, codes, decimal, Option, Result, ◌==◌}
use Rattle.faults.specs.declared.End.{End}
use Rattle.faults.specs.declared.End.TheVariants as end
use Rattle.faults.specs.declared.Cause.{Cause}
use Rattle.faults.specs.declared.Cause.TheVariants.{LineTooLong, UnknownCommand, BadFields, NoSuchEnd, OutOfRange, TooManyEvents, RepeatedDsr, CableNotClear, NotOpen, ClockLimit, Recovering, BufferNotEnabled, BufferFull, NothingReceived}
use Rattle.faults.specs.declared.Place.{Place}
use Rattle.faults.specs.declared.Fault.{Fault}

abbrev pub end_number : End → ℕ
end_number end.A = 0
end_number end.B = 1

-- a host's number of an end
abbrev pub end_of : ℕ → Option End
end_of n = cond (n == 0) (Some end.A) (cond (n == 1) (Some end.B) None)

-- the end that it names, or cause 4
abbrev pub named : Option End → Result End Cause
named (Some e) = Ok e
named None = Err NoSuchEnd

abbrev pub end_numbered : ℕ → Result End Cause
end_numbered n = named (end_of n)

-- the causes in their checking order
abbrev pub cause_number : Cause → ℕ
cause_number LineTooLong = 1
cause_number UnknownCommand = 2
cause_number BadFields = 3
cause_number NoSuchEnd = 4
cause_number OutOfRange = 5
cause_number TooManyEvents = 6
cause_number RepeatedDsr = 7
cause_number CableNotClear = 8
cause_number NotOpen = 9
cause_number ClockLimit = 10
cause_number Recovering = 11
cause_number BufferNotEnabled = 12
cause_number BufferFull = 13
cause_number NothingReceived = 14

abbrev pub cause_text : Cause → List ℕ
cause_text LineTooLong = codes "the line is longer than 80 bytes"
cause_text UnknownCommand = codes "the line begins with none of the letters O, M, P, G, L and T"
cause_text BadFields = codes "the fields are too few, too many, badly written or too large"
cause_text NoSuchEnd = codes "the end is neither 0 nor 1"
cause_text OutOfRange = codes "a number, a length or a list is outside its range"
cause_text TooManyEvents = codes "the moment has more than 32 events"
cause_text RepeatedDsr = codes "the moment sets DSR of one end twice"
cause_text CableNotClear = codes "a space waits in the cable"
cause_text NotOpen = codes "the bench is not open"
cause_text ClockLimit = codes "the clock would pass 4000000000"
cause_text Recovering = codes "the end was reset and may not be read or written yet"
cause_text BufferNotEnabled = codes "a load flag or BRKON is set, so the transmit buffer takes no character"
cause_text BufferFull = codes "the transmit buffer is full"
cause_text NothingReceived = codes "no received character waits"

-- an end, or 2 where there is none
abbrev pub number_of_end : Option End → ℕ
number_of_end (Some e) = end_number e
number_of_end None = 2

abbrev pub place_end : Place → ℕ
place_end p = number_of_end p.end

abbrev pub end_text : Option End → List ℕ
end_text (Some end.A) = codes "end A"
end_text (Some end.B) = codes "end B"
end_text None = codes "no end"

-- a refusal at an event, and at an end or at none
abbrev pub at_place : ℕ → Option End → Cause → Fault
at_place index e c = record { cause = c; place = record { index = index; end = e } }

-- a refusal that concerns no event and no end
abbrev pub unplaced : Cause → Fault
unplaced c = at_place 0 None c

-- a cause's text and number, an event's index and an end's text, as people read them
abbrev pub told : List ℕ → ℕ → ℕ → List ℕ → List ℕ
told text number index end_of = text ++ (codes " (cause " ++ (decimal number ++ (codes ", event index " ++ (decimal index ++ (codes ", " ++ (end_of ++ codes ")"))))))

abbrev pub sentence : Fault → List ℕ
sentence f = told (cause_text f.cause) (cause_number f.cause) f.place.index (end_text f.place.end)
