use Rattle.pair.proofs.Faithful as proved
use Rattle.pair.proofs.law.a_label_arrives_whole.Goals as goal

pub returns : goal.returns
returns c = proved.label_arrives
