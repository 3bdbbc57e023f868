-- The low bits of a number, and their parity. Assumes nothing.
use Rattle.std.proofs.Common.{◌≡◌, ℕ, zero, suc, ◌+◌, ◌*◌, ◌/◌, ◌%◌, ◌^◌, ◌≤◌, Bool, true, false, cond, eqb, [], ◌∷◌, ◌++◌, sym, refl, ap, ◌∙◌, pow-suc, add-one, arith}
use lib.Pow.{mod-pow-add}
use Rattle.timing.specs.Ones.{bits, odd_among, differ}

-- no ones in 0
none_odd : (k : ℕ) → odd_among (bits k 0) ≡ false
unfolding bits odd_among
none_odd zero = refl
none_odd (suc k) = none_odd k

-- the low n + 1 bits: the lowest one, and n above it
halves : (n c : ℕ) → c % 2 ^ suc n ≡ (c / 2 % 2 ^ n) * 2 + c % 2
halves n c = ap (λ k. c % 2 ^ k) (sym (add-one n)) ∙ mod-pow-add c n 1

low_bit : (n c : ℕ) → c % 2 ^ suc n % 2 ≡ c % 2
low_bit n c = rw halves (omega arith)

high_bits : (n c : ℕ) → c % 2 ^ suc n / 2 ≡ c / 2 % 2 ^ n
high_bits n c = rw halves (omega arith)

-- a number cut to its low n bits has the ones of these bits
pub odd_among_low : (n k c : ℕ) → n ≤ k → odd_among (bits k (c % 2 ^ n)) ≡ odd_among (bits n c)
unfolding bits odd_among
odd_among_low zero k c h = let e : c % 1 ≡ 0 = omega arith in rw e (none_odd k)
odd_among_low (suc n) zero c h = absurd (omega arith)
odd_among_low (suc n) (suc k) c h =
    let rest = odd_among_low n k (c / 2) (omega arith) in
    rw (low_bit, high_bits) (ap (differ (eqb (c % 2) 1)) rest)

-- the ones of k + 1 bits: the lowest, and the k above it
pub odd_among_step : (k c : ℕ) → odd_among (bits (suc k) c) ≡ differ (eqb (c % 2) 1) (odd_among (bits k (c / 2)))
unfolding bits odd_among
odd_among_step k c = refl

-- bits above the low n are not among them
pub bits_low : (n c : ℕ) → bits n (c % 2 ^ n) ≡ bits n c
unfolding bits
bits_low zero c = refl
bits_low (suc n) c = rw (low_bit, high_bits) (ap (λ bs. eqb (c % 2) 1 ∷ bs) (bits_low n (c / 2)))

-- one bit above the low n
above : (n c : ℕ) (b : Bool) → c % 2 ^ suc n + cond b (2 ^ suc n) 0 ≡ 2 * (c / 2 % 2 ^ n + cond b (2 ^ n) 0) + c % 2
above n c true = let h = halves n c in let p = pow-suc 2 n in omega arith
above n c false = let h = halves n c in omega arith

pub bits_above : (n c : ℕ) (b : Bool) → bits (suc n) (c % 2 ^ n + cond b (2 ^ n) 0) ≡ bits n c ++ b ∷ []
unfolding bits
bits_above zero c true = let e : c % 1 ≡ 0 = omega arith in rw e
bits_above zero c false = let e : c % 1 ≡ 0 = omega arith in rw e
bits_above (suc n) c b =
    let x = c / 2 % 2 ^ n + cond b (2 ^ n) 0 in
    let low : (2 * x + c % 2) % 2 ≡ c % 2 = omega arith in
    let high : (2 * x + c % 2) / 2 ≡ x = omega arith in
    rw above (rw (low, high) (ap (λ bs. eqb (c % 2) 1 ∷ bs) (bits_above n (c / 2) b)))
