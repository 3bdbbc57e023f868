use Rattle.laws.proofs.TransmitterLaw.{character_sent}
use Rattle.laws.proofs.lines.transmitter_sends_its_character.Goals as goal

pub returns : goal.returns
returns c = character_sent
