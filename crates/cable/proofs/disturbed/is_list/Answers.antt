use Rattle.std.proofs.Common.{ltb, rules}
use Rattle.std.proofs.lemmas.List.Sorted.{answers_always}
use Rattle.cable.proofs.Rising.{rises}
use Rattle.cable.proofs.disturbed.is_list.Goals as goal

pub returns-then-list-le4096 : goal.returns-then-list-le4096
returns-then-list-le4096 c = let r = rises c.args.list.now c.is_sorted_by.result (c.is_sorted_by.ensures.cases ltb (answers_always _ _ _ (λ f a r g h. search rules))) in search rules
