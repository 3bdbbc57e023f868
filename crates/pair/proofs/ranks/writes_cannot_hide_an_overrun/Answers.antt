use Rattle.pair.proofs.Serving as proved
use Rattle.pair.proofs.ranks.writes_cannot_hide_an_overrun.Goals as goal

pub returns : goal.returns
returns c = proved.overrun_shows
