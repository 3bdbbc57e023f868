-- The table is the list that the rule makes: antt computes it once and compares. The rule at an entry is then a lemma.
use Rattle.std.proofs.Common.{◌<◌, false, arith}
use Rattle.std.proofs.lemmas.List.FromFn.{get_or-map-range_with_len}
use Rattle.timing.specs.Ones.{odd_ones, odd_among, bits}
use Rattle.timing.proofs.ones.odd_ones.Goals as goal

pub returns : goal.returns
unfolding odd_ones odd_among bits
returns c =
    let h : c.args.byte < 256 = omega arith in
    get_or-map-range_with_len odd_ones 0 256 c.args.byte c.args.byte false h (omega arith)
