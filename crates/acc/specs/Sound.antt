-- What an opened chip is, and stays whichever method is called; the methods that need it ask for it. Assumes nothing.
use Rattle.std.specs.Prelude.{Bool, ◌&&◌, nat_le}
use Rattle.sections.specs.Receive.{sound_receiver}
use Rattle.sections.specs.Time.{sound_timer}
use Rattle.sections.specs.Transmit.{sound_transmitter}
use Rattle.acc.specs.declared.chip.Acc.{Acc}

-- no countdown over 32,768 and no more than 9 bits of one character in transmitter and receiver, a prescaler below 64,
-- a divider count of at most 3
abbrev pub parts_sound : Acc → Bool
parts_sound e = sound_transmitter e.transmitter && (sound_receiver e.receiver && (sound_timer e.timer && nat_le e.divider.0 3))

unfoldable pub sound : Acc → Bool
sound e = parts_sound e
