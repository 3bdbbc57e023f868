use Rattle.pair.proofs.Serving as proved
use Rattle.pair.proofs.ranks.moments_are_single_moments.Goals as goal

pub returns : goal.returns
returns c = proved.single_moments
