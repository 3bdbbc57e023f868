-- The bits of a character and their parity. Assumes nothing.
use Rattle.std.specs.Prelude.{ℕ, zero, suc, ◌/◌, ◌%◌, Bool, true, false, not, List, [], ◌∷◌, ◌==◌}
use Rattle.timing.specs.declared.registers.Format.{Format}
use Rattle.timing.specs.declared.registers.Parity.{Parity}
use Rattle.timing.specs.declared.registers.Parity.TheVariants.{Disabled, Even, Odd}
use Rattle.timing.specs.Registers.{width}

-- the lowest n bits of a character, lowest first
unfoldable pub bits : ℕ → ℕ → List Bool
bits zero c = []
bits (suc n) c = (c % 2 == 1) ∷ bits n (c / 2)

-- one of the two holds, and not both
abbrev pub differ : Bool → Bool → Bool
differ true b = not b
differ false b = b

-- an odd number of these bits are 1
unfoldable pub odd_among : List Bool → Bool
odd_among [] = false
odd_among (b ∷ bs) = differ b (odd_among bs)

-- a byte has an odd number of ones
unfoldable pub odd_ones : ℕ → Bool
odd_ones n = odd_among (bits 8 n)

-- even parity makes the ones of data and parity bit even in number, odd parity odd
abbrev pub parity_by : Parity → Bool → Bool
parity_by Disabled odd = false
parity_by Even odd = odd
parity_by Odd odd = not odd

-- the parity bit behind the L data bits of a character
unfoldable pub parity_bit : Format → ℕ → Bool
parity_bit f c = parity_by f.parity (odd_among (bits (width f.length) c))
