-- The timer elapses each interval: what it has come to at each internal clock before, and at the last. Assumes nothing.
use Rattle.std.proofs.Common.{◌≡◌, ℕ, zero, suc, ◌+◌, ◌-◌, ◌*◌, ◌<◌, Bool, true, ◌||◌, arith}
use Rattle.std.proofs.lemmas.Bool.Decides.{nat_tests}
use Rattle.sections.specs.declared.timer.Timer.{Timer}
use Rattle.timing.specs.Counts.{internal}
use Rattle.sections.specs.Time.{prescaler_limit, tick_of}
use Rattle.laws.specs.Runs.{timer_after}
use Rattle.laws.specs.Laws.{TimerElapsesEachInterval}

-- s is the timer t after n internal clocks, where t stood at its interval and has not elapsed since
record At (interval : ℕ) (tstmd : Bool) (t : Timer) (n : ℕ) (s : Timer) : Type 0 where
  low : s.prescaler.0 < prescaler_limit tstmd
  some : 0 < s.count
  due : n + prescaler_limit tstmd * s.count ≡ prescaler_limit tstmd * interval + s.prescaler.0
  timelp_is : s.timelp ≡ t.timelp
  timerr_is : s.timerr ≡ t.timerr

module _ (interval : ℕ) (tstmd : Bool) (t : Timer) (fresh : t.prescaler ≡ internal 0) (full : t.count ≡ interval) where
  -- at each internal clock before the last
  before : (n : ℕ) → n < prescaler_limit tstmd * interval → At interval tstmd t n (timer_after n interval tstmd t)
  unfolding timer_after tick_of
  before zero h = search (arith, nat_tests)
  before (suc n) h = let a = before n (omega arith) in search (arith, nat_tests)

  -- at the last
  at_last : (n : ℕ) → suc n ≡ prescaler_limit tstmd * interval → timer_after (prescaler_limit tstmd * interval) interval tstmd t ≡ record { prescaler = internal 0; count = interval; timelp = true; timerr = t.timerr || t.timelp }
  unfolding timer_after tick_of
  at_last n e = let a = before n (omega arith) in rw (← e) (grind (arith, nat_tests))

pub timer_elapses : TimerElapsesEachInterval
timer_elapses interval tstmd t some fresh full = (
  (λ n h. let a = before interval tstmd t fresh full n h in (a.timelp_is, a.timerr_is)),
  at_last interval tstmd t fresh full (prescaler_limit tstmd * interval - 1) (grind arith),
)
