-- Digits and the numbers that they write. Assumes nothing.
use Rattle.std.proofs.Common.{◌≡◌, length, ℕ, ◌^◌, ◌<◌, ◌≤◌, List, [], ◌∷◌, true, refl, arith}
use Rattle.std.proofs.lemmas.Grind.{common_steps}
use Rattle.std.specs.List.{list_all}
use Rattle.std.specs.Char.{is_digit}
use Rattle.std.specs.Str.Parse.{AllDigits, IsNumeral, digits_value, without_leading_plus}

-- no numeral has a sign
pub no_plus : (radix : ℕ) (bs : List ℕ) → radix ≤ 36 → IsNumeral radix bs → without_leading_plus bs ≡ bs
no_plus radix [] h n = absurd (omega (arith, n.0))
no_plus radix (b ∷ bs) h n = grind (arith, common_steps)

-- a numeral that is not read is too large
pub unread_is_large : (radix : ℕ) (bs : List ℕ) → radix ≤ 36 → 0 < length bs → AllDigits radix bs → ¬ (IsNumeral radix (without_leading_plus bs) × (digits_value radix (without_leading_plus bs) < 2 ^ 32)) → 2 ^ 32 ≤ digits_value radix bs
unread_is_large radix bs h some digits refused =
    let plain = rw (no_plus radix bs h (some, digits)) at refused in
    let not_small : digits_value radix bs < 2 ^ 32 → ⊥ = λ small. plain ((some, digits), small) in
    omega arith

pub digits_if_tested : (radix : ℕ) (bs : List ℕ) → list_all (λ b. is_digit b radix) bs ≡ true → AllDigits radix bs
digits_if_tested radix [] h = tt
digits_if_tested radix (b ∷ bs) h = grind (arith, common_steps, digits_if_tested radix bs)

pub tested_if_digits : (radix : ℕ) (bs : List ℕ) → AllDigits radix bs → list_all (λ b. is_digit b radix) bs ≡ true
tested_if_digits radix [] h = refl
tested_if_digits radix (b ∷ bs) h = grind (arith, common_steps, tested_if_digits radix bs)
