use Rattle.pair.proofs.Hosting as proved
use Rattle.pair.proofs.ranks.host_calls_are_a_run.Goals as goal

pub returns : goal.returns
returns c = proved.host_calls
