use Rattle.std.proofs.Common.{take, sym, ◌∙◌, arith, rules, tests}
use Rattle.std.proofs.lemmas.Grind.{common_steps}
use Rattle.std.proofs.lemmas.Iterator.{YieldsList-from_slice}
use Rattle.std.proofs.lemmas.Iterator.Search.{all_from_yields_List}
use Rattle.cable.specs.Channels.{Pair}
use Rattle.cable.proofs.Rotation.{all_mark-rotated}
use Rattle.cable.proofs.line.Line.clear.Goals as goal

pub returns : goal.returns
returns c =
    let l = c.args.self.now in
    all_from_yields_List (λ (p : Pair). p.0) _ _ _ c.all.ensures.ran (YieldsList-from_slice (take l.len l.pairs) (grind (arith, common_steps))) (λ x b q k. search (rules, tests))
    ∙ sym (all_mark-rotated l.head (take l.len l.pairs))
