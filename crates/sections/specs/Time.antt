-- The interval timer at an internal clock. Assumes nothing.
use Rattle.std.specs.Prelude.{ℕ, ◌+◌, ◌-◌, Bool, true, false, cond, ◌||◌, ◌==◌, nat_le, nat_lt}
use Rattle.timing.specs.Counts.{internal}
use Rattle.sections.specs.declared.timer.Timer.{Timer}

-- the prescaler divides by 64, in test mode by 2
abbrev pub prescaler_limit : Bool → ℕ
prescaler_limit tstmd = cond tstmd 2 64

abbrev pub prescaled : ℕ → Timer → Timer
prescaled n t = record { prescaler = internal n; count = t.count; timelp = t.timelp; timerr = t.timerr }

-- at 0 the timer reloads from the interval, TIMERR is set if TIMELP stood, and TIMELP is set
abbrev pub elapsed : ℕ → Timer → Timer
elapsed interval t = record { prescaler = t.prescaler; count = interval; timelp = true; timerr = t.timerr || t.timelp }

abbrev pub lowered_timer : Timer → Timer
lowered_timer t = record { prescaler = t.prescaler; count = t.count - 1; timelp = t.timelp; timerr = t.timerr }

-- a timer above 0 falls by one
abbrev pub counted : ℕ → Timer → Timer
counted interval t = cond (nat_lt 1 t.count) (lowered_timer t) (cond (t.count == 1) (elapsed interval t) t)

-- the prescaler adds one; at its limit or more it returns to 0 and the timer counts
abbrev pub ticked : ℕ → Bool → Timer → Timer
ticked interval tstmd t =
    cond (nat_le (prescaler_limit tstmd) (t.prescaler.0 + 1)) (counted interval (prescaled 0 t)) (prescaled (t.prescaler.0 + 1) t)

unfoldable pub tick_of : ℕ → Bool → Timer → Timer
tick_of interval tstmd t = ticked interval tstmd t

-- LDIR falling from 1 to 0 loads the timer and zeroes its prescaler
abbrev pub timer_loaded : ℕ → Timer → Timer
timer_loaded interval t = record { prescaler = internal 0; count = interval; timelp = t.timelp; timerr = t.timerr }

-- as open leaves it
abbrev pub timer_at : ℕ → Timer
timer_at interval = record { prescaler = internal 0; count = interval; timelp = false; timerr = false }

-- the prescaler stays below 64
abbrev pub sound_timer : Timer → Bool
sound_timer t = nat_le t.prescaler.0 63

-- TIMELP and TIMERR are reset
abbrev pub acknowledged : Timer → Timer
acknowledged t = record { prescaler = t.prescaler; count = t.count; timelp = false; timerr = false }
