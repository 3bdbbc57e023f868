use Rattle.std.proofs.Common.{◌≤◌, ap, ◌∙◌, arith}
use Rattle.timing.specs.declared.registers.CharacterLength.{CharacterLength}
use Rattle.timing.specs.declared.registers.CharacterLength.TheVariants.{Five, Six, Seven, Eight}
use Rattle.timing.specs.Registers.{width}
use Rattle.timing.specs.Ones.{odd_ones, parity_bit, parity_by}
use Rattle.timing.proofs.Bits.{odd_among_low}
use Rattle.timing.proofs.ones.parity_bit_of.Goals as goal

width_small : (l : CharacterLength) → width l ≤ 8
width_small Five = omega arith
width_small Six = omega arith
width_small Seven = omega arith
width_small Eight = omega arith

pub returns : goal.returns
unfolding parity_bit odd_ones
returns c =
    let f = c.args.format in
    let odd = c.odd_ones.ensures ∙ ap odd_ones c.data_of.ensures ∙ odd_among_low (width f.length) 8 c.args.character (width_small f.length) in
    c.parity_for.ensures ∙ ap (parity_by f.parity) odd
