-- What the processor reads. Assumes nothing.
use Rattle.std.specs.Prelude.{ℕ, zero, suc, ◌+◌, ◌^◌, Bool, false, cond, ◌&&◌, ◌||◌, ◌==◌, nat_le}
use Rattle.timing.specs.Registers.{bit}
use Rattle.sections.specs.Receive.{rsbd, rfbd}
use Rattle.sections.specs.Transmit.{xsre}
use Rattle.acc.specs.declared.chip.Acc.{Acc}

-- the four interrupts, each a status under its enable
abbrev pub dscint : Acc → Bool
dscint e = e.lines.dsch && e.enables.dscenb

abbrev pub timint : Acc → Bool
timint e = e.timer.timelp && e.enables.timenb

abbrev pub xbint : Acc → Bool
xbint e = e.transmitter.xbre && e.enables.xbienb

abbrev pub rbint : Acc → Bool
rbint e = e.receiver.rbrl && e.enables.rienb

-- INT: one of them
abbrev pub interrupt : Acc → Bool
interrupt e = dscint e || (timint e || (xbint e || rbint e))

-- FLAG: a load flag or BRKON is set
abbrev pub flag : Acc → Bool
flag e = e.load.ldctrl || (e.load.ldir || (e.load.lrdr || (e.load.lxdr || e.modes.brkon)))

-- RCVERR: the received character has an error
abbrev pub rcverr : Acc → Bool
rcverr e = e.receiver.rfer || (e.receiver.rover || e.receiver.rper)

-- 9 to 15: the receiver
abbrev pub receiver_bit : ℕ → Acc → Bool
receiver_bit a e =
    cond (a == 9) (rcverr e)
    (cond (a == 10) e.receiver.rper
    (cond (a == 11) e.receiver.rover
    (cond (a == 12) e.receiver.rfer
    (cond (a == 13) (rfbd e.receiver)
    (cond (a == 14) (rsbd e.receiver)
    (cond (a == 15) e.lines.rin false))))))

-- 16 to 22: interrupts, and the two buffers; 18 is 0
abbrev pub buffer_bit : ℕ → Acc → Bool
buffer_bit a e =
    cond (a == 16) (rbint e)
    (cond (a == 17) (xbint e)
    (cond (a == 19) (timint e)
    (cond (a == 20) (dscint e)
    (cond (a == 21) e.receiver.rbrl
    (cond (a == 22) e.transmitter.xbre false)))))

-- 23 to 31: the shift register, the timer, the control lines, DSCH, FLAG and INT
abbrev pub line_bit : ℕ → Acc → Bool
line_bit a e =
    cond (a == 23) (xsre e.transmitter)
    (cond (a == 24) e.timer.timerr
    (cond (a == 25) e.timer.timelp
    (cond (a == 26) e.lines.rts
    (cond (a == 27) e.lines.dsr
    (cond (a == 28) e.lines.cts
    (cond (a == 29) e.lines.dsch
    (cond (a == 30) (flag e)
    (cond (a == 31) (interrupt e) false))))))))

-- 0 to 7 are the receive buffer, 8 is 0
abbrev pub input_bit : ℕ → Acc → Bool
input_bit a e =
    cond (nat_le a 7) (bit a e.receiver.buffer)
    (cond (nat_le a 15) (receiver_bit a e) (cond (nat_le a 22) (buffer_bit a e) (line_bit a e)))

unfoldable pub read_of : ℕ → Acc → Bool
read_of a e = input_bit a e

-- n bits upward from an address, lowest first: bit k of the number is the input bit k places up
unfoldable pub bits_read : ℕ → ℕ → Acc → ℕ
bits_read zero a e = 0
bits_read (suc n) a e = bits_read n a e + cond (read_of (a + n) e) (2 ^ n) 0
