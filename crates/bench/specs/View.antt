-- What contracts see of a bench. Assumes nothing.
use Rattle.std.specs.Prelude.{false}
use Rattle.cable.specs.Channels.{Channels}
use Rattle.acc.specs.declared.chip.Registers.{Registers}
use Rattle.acc.specs.Calls.{opened_chip}
use Rattle.pair.specs.Bench.{Bench}

-- the cable itself, which a bench gives back, and the bench as its definitions see it: the cable by its meaning
pub record Seen (C : Type 0) : Type 0 where
  pub cable : C
  pub meaning : Bench

-- a bench that was never opened: clock 0, and chips with all registers 0
abbrev pub no_registers : Registers
no_registers = record { control = 0; interval = 0; receive_rate = 0; transmit_rate = 0 }

abbrev pub unopened : Channels → Bench
unopened c = record { a = opened_chip no_registers; b = opened_chip no_registers; channels = c; clock = 0; is_open = false }
