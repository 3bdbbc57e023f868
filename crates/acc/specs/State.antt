-- The chip with one part changed, one function for each part. Assumes nothing.
use Rattle.std.specs.Prelude.{ℕ, Bool}
use Rattle.timing.specs.declared.counts.PhiCount.{PhiCount}
use Rattle.sections.specs.declared.receiver.Receiver.{Receiver}
use Rattle.sections.specs.declared.timer.Timer.{Timer}
use Rattle.sections.specs.declared.transmitter.Transmitter.{Transmitter}
use Rattle.acc.specs.declared.chip.Registers.{Registers}
use Rattle.acc.specs.declared.chip.LoadFlags.{LoadFlags}
use Rattle.acc.specs.declared.chip.Modes.{Modes}
use Rattle.acc.specs.declared.chip.Enables.{Enables}
use Rattle.acc.specs.declared.chip.Lines.{Lines}
use Rattle.acc.specs.declared.chip.Acc.{Acc}

abbrev pub with_registers : Registers → Acc → Acc
with_registers x e = record { registers = x; load = e.load; modes = e.modes; enables = e.enables; lines = e.lines; transmitter = e.transmitter; receiver = e.receiver; timer = e.timer; divider = e.divider; recovery = e.recovery }

abbrev pub with_load : LoadFlags → Acc → Acc
with_load x e = record { registers = e.registers; load = x; modes = e.modes; enables = e.enables; lines = e.lines; transmitter = e.transmitter; receiver = e.receiver; timer = e.timer; divider = e.divider; recovery = e.recovery }

abbrev pub with_modes : Modes → Acc → Acc
with_modes x e = record { registers = e.registers; load = e.load; modes = x; enables = e.enables; lines = e.lines; transmitter = e.transmitter; receiver = e.receiver; timer = e.timer; divider = e.divider; recovery = e.recovery }

abbrev pub with_enables : Enables → Acc → Acc
with_enables x e = record { registers = e.registers; load = e.load; modes = e.modes; enables = x; lines = e.lines; transmitter = e.transmitter; receiver = e.receiver; timer = e.timer; divider = e.divider; recovery = e.recovery }

abbrev pub with_lines : Lines → Acc → Acc
with_lines x e = record { registers = e.registers; load = e.load; modes = e.modes; enables = e.enables; lines = x; transmitter = e.transmitter; receiver = e.receiver; timer = e.timer; divider = e.divider; recovery = e.recovery }

abbrev pub with_transmitter : Transmitter → Acc → Acc
with_transmitter x e = record { registers = e.registers; load = e.load; modes = e.modes; enables = e.enables; lines = e.lines; transmitter = x; receiver = e.receiver; timer = e.timer; divider = e.divider; recovery = e.recovery }

abbrev pub with_receiver : Receiver → Acc → Acc
with_receiver x e = record { registers = e.registers; load = e.load; modes = e.modes; enables = e.enables; lines = e.lines; transmitter = e.transmitter; receiver = x; timer = e.timer; divider = e.divider; recovery = e.recovery }

abbrev pub with_timer : Timer → Acc → Acc
with_timer x e = record { registers = e.registers; load = e.load; modes = e.modes; enables = e.enables; lines = e.lines; transmitter = e.transmitter; receiver = e.receiver; timer = x; divider = e.divider; recovery = e.recovery }

abbrev pub with_divider : PhiCount → Acc → Acc
with_divider x e = record { registers = e.registers; load = e.load; modes = e.modes; enables = e.enables; lines = e.lines; transmitter = e.transmitter; receiver = e.receiver; timer = e.timer; divider = x; recovery = e.recovery }

abbrev pub with_recovery : PhiCount → Acc → Acc
with_recovery x e = record { registers = e.registers; load = e.load; modes = e.modes; enables = e.enables; lines = e.lines; transmitter = e.transmitter; receiver = e.receiver; timer = e.timer; divider = e.divider; recovery = x }

abbrev pub with_control : ℕ → Registers → Registers
with_control x e = record { control = x; interval = e.interval; receive_rate = e.receive_rate; transmit_rate = e.transmit_rate }

abbrev pub with_interval : ℕ → Registers → Registers
with_interval x e = record { control = e.control; interval = x; receive_rate = e.receive_rate; transmit_rate = e.transmit_rate }

abbrev pub with_ldctrl : Bool → LoadFlags → LoadFlags
with_ldctrl x e = record { ldctrl = x; ldir = e.ldir; lrdr = e.lrdr; lxdr = e.lxdr }

abbrev pub with_ldir : Bool → LoadFlags → LoadFlags
with_ldir x e = record { ldctrl = e.ldctrl; ldir = x; lrdr = e.lrdr; lxdr = e.lxdr }

abbrev pub with_lrdr : Bool → LoadFlags → LoadFlags
with_lrdr x e = record { ldctrl = e.ldctrl; ldir = e.ldir; lrdr = x; lxdr = e.lxdr }

abbrev pub with_lxdr : Bool → LoadFlags → LoadFlags
with_lxdr x e = record { ldctrl = e.ldctrl; ldir = e.ldir; lrdr = e.lrdr; lxdr = x }

abbrev pub with_tstmd : Bool → Modes → Modes
with_tstmd x e = record { tstmd = x; brkon = e.brkon }

abbrev pub with_brkon : Bool → Modes → Modes
with_brkon x e = record { tstmd = e.tstmd; brkon = x }

abbrev pub with_rienb : Bool → Enables → Enables
with_rienb x e = record { rienb = x; xbienb = e.xbienb; timenb = e.timenb; dscenb = e.dscenb }

abbrev pub with_xbienb : Bool → Enables → Enables
with_xbienb x e = record { rienb = e.rienb; xbienb = x; timenb = e.timenb; dscenb = e.dscenb }

abbrev pub with_timenb : Bool → Enables → Enables
with_timenb x e = record { rienb = e.rienb; xbienb = e.xbienb; timenb = x; dscenb = e.dscenb }

abbrev pub with_dscenb : Bool → Enables → Enables
with_dscenb x e = record { rienb = e.rienb; xbienb = e.xbienb; timenb = e.timenb; dscenb = x }

abbrev pub with_dsr_setting : Bool → Lines → Lines
with_dsr_setting x e = record { rtson = e.rtson; rts = e.rts; cts = e.cts; dsr = e.dsr; rin = e.rin; dsr_setting = x; cts_before = e.cts_before; dsr_before = e.dsr_before; dsch = e.dsch }

abbrev pub with_dsch : Bool → Lines → Lines
with_dsch x e = record { rtson = e.rtson; rts = e.rts; cts = e.cts; dsr = e.dsr; rin = e.rin; dsr_setting = e.dsr_setting; cts_before = e.cts_before; dsr_before = e.dsr_before; dsch = x }
