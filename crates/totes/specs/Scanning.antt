-- The scanner board and what it loads. Assumes nothing.
use Rattle.std.specs.Prelude.{ℕ, ◌+◌, cond, ◌&&◌, ◌==◌, nat_lt}
use Rattle.totes.specs.declared.scanner.Scanner.{Scanner}

-- a tote comes when it is due, and the next one is due an interval later; there are twenty
abbrev pub tote_met : ℕ → ℕ → Scanner → Scanner
tote_met t interval s =
    cond (t == s.due && nat_lt s.totes 20) (record { totes = s.totes + 1; due = t + interval; next = s.next }) s
