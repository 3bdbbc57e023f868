use Rattle.lines.proofs.Accepting.{commands_accepted}
use Rattle.lines.proofs.reading.every_command_is_read.Goals as goal

pub returns : goal.returns
returns c = commands_accepted
