use Rattle.pair.proofs.Faithful as proved
use Rattle.pair.proofs.law.transmission_is_faithful.Goals as goal

pub returns : goal.returns
returns c = proved.transmission_is_faithful
