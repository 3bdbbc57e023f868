use Rattle.cable.proofs.HandedOut.{hands_out}
use Rattle.cable.proofs.passing.hands_out_what_entered.Goals as goal

pub returns : goal.returns
returns c = hands_out
