use Rattle.pair.proofs.Serving as proved
use Rattle.pair.proofs.ranks.stored_exactly_at_stop_samples.Goals as goal

pub returns : goal.returns
returns c = proved.stored_exactly
