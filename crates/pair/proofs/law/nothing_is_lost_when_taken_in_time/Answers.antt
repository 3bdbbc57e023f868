use Rattle.pair.proofs.NothingLost as proved
use Rattle.pair.proofs.law.nothing_is_lost_when_taken_in_time.Goals as goal

pub returns : goal.returns
returns c = proved.nothing_lost
