-- The times of a case. Assumes nothing.
use Rattle.std.specs.Prelude.{ℕ, ◌+◌, ◌-◌, ◌*◌, ◌/◌, ◌%◌, Bool, ◌&&◌, ◌==◌, nat_le, nat_lt}
use Rattle.totes.specs.declared.case.Case.{Case}

-- the ranges of a label's length, of look and of work; the line has those of the rest
abbrev pub board_fits : ℕ → ℕ → ℕ → Bool
board_fits length look work = nat_le length 32 && (nat_le 1 look && (nat_le look 1000000 && nat_le work 1000000))

-- W, the characters of a label back to back
abbrev pub label_clocks : Case → ℕ
label_clocks c = c.character * c.length

-- s, what the board needs for a label besides the line
abbrev pub slack_clocks : Case → ℕ
slack_clocks c = c.look + c.work

-- the interval between totes in row k of the table, from 0 to 16
abbrev pub interval_of_row : Case → ℕ → ℕ
interval_of_row c k = label_clocks c + slack_clocks c * (16 - k) / 8

-- E, the moments of a run of twenty totes
abbrev pub moments_of_run : Case → ℕ → ℕ → ℕ
moments_of_run c interval delay = 20 * interval + label_clocks c + slack_clocks c + delay + 64

-- the board looks before moments whose number is a multiple of look, unless it is at work
abbrev pub looks_before : ℕ → ℕ → ℕ → Bool
looks_before look busy_until t = nat_lt busy_until t && t % look == 0
