-- One bit of a register, written. Assumes nothing.
use Rattle.std.specs.Prelude.{ℕ, ◌-◌, ◌^◌, Bool, cond, bit_and, bit_or, nat_lt}

-- a number of at most 16 bits with bit k as v says
abbrev pub with_bit : ℕ → Bool → ℕ → ℕ
with_bit k v n = cond v (bit_or n (2 ^ k)) (bit_and n (65535 - 2 ^ k))

-- a register of w bits after a write to bit k: a bit beyond its width does nothing
abbrev pub written_by : ℕ → ℕ → Bool → ℕ → ℕ
written_by w k v n = cond (nat_lt k w) (with_bit k v n) n

unfoldable pub bit_written : ℕ → ℕ → Bool → ℕ → ℕ
bit_written w k v n = written_by w k v n
