use Rattle.std.proofs.Common.{◌≡◌, Some, sym, ◌∙◌, arith}
use Rattle.std.proofs.lemmas.List.{at_drop_more, at_drop_all}
use Rattle.std.proofs.lemmas.Grind.{common_steps}
use Rattle.pair.specs.Moment.{no_event}
use Rattle.moments.specs.Rules.{first_broken, checked}
use Rattle.moments.proofs.rules.Rule.check.Goals as goal

pub returns-then-is_broken : goal.returns-then-is_broken
unfolding first_broken checked
returns-then-is_broken c =
    let k = c.args.self in
    let i = c.loop-index.index in
    let s = c.loop-index.barred in
    let vs = c.args.events.now in
    let more = at_drop_more (first_broken k s i) vs i no_event (omega arith) in
    let found : first_broken k c.args.start 0 vs ≡ Some i = grind (arith, common_steps) in
    rw found (grind (arith, common_steps))

pub loop-index-preserved : goal.loop-index-preserved
unfolding first_broken
loop-index-preserved c =
    let k = c.args.self in
    let i = c.loop-index.index in
    let s = c.loop-index.barred in
    let vs = c.args.events.now in
    let more = at_drop_more (first_broken k s i) vs i no_event (omega arith) in
    grind (arith, common_steps)

pub returns : goal.returns
unfolding first_broken checked
returns c =
    let none = at_drop_all (first_broken c.args.self c.loop-index.barred c.loop-index.index) c.args.events.now c.loop-index.index (omega arith) in
    rw (sym c.loop-index.invariant ∙ none)
