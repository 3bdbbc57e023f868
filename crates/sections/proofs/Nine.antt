-- The parity of nine bits, from the table of eight. Assumes nothing.
use Rattle.std.proofs.Common.{◌≡◌, ℕ, ◌/◌, ◌%◌, eqb, sym, ap, ◌∙◌, arith}
use Rattle.timing.proofs.Bits.{odd_among_low, odd_among_step}
use Rattle.timing.specs.Ones.{odd_ones, differ}
use Rattle.sections.specs.Receive.{odd_held}

pub odd_nine : (n : ℕ) → odd_held n ≡ differ (eqb (n % 2) 1) (odd_ones (n / 2 % 256))
unfolding odd_held odd_ones
odd_nine n = odd_among_step 8 n ∙ ap (differ (eqb (n % 2) 1)) (sym (odd_among_low 8 8 (n / 2) (omega arith)))
