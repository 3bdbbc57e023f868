use Rattle.pair.proofs.Faithful as proved
use Rattle.pair.proofs.law.between_boards.Goals as goal

pub returns : goal.returns
returns c = proved.between_boards
