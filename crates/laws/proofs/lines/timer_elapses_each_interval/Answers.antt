use Rattle.laws.proofs.TimerLaw.{timer_elapses}
use Rattle.laws.proofs.lines.timer_elapses_each_interval.Goals as goal

pub returns : goal.returns
returns c = timer_elapses
