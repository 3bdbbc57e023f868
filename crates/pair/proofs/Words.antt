-- The bits of a word, samples that are inverted, and parity. Assumes nothing.
use Rattle.std.proofs.Common.{◌≡◌, ℕ, zero, suc, ◌+◌, ◌/◌, ◌%◌, ◌^◌, ◌<◌, Bool, true, false, cond, eqb, List, [], ◌∷◌, ◌++◌, length, get_or, sym, refl, ap, ◌∙◌, mod-eq_of_lt, div-one, arith}
use native.Mathlib.Nat.{div-div-eq-div-mul, pow-succ'}
use Rattle.std.proofs.lemmas.List.{get_or_append_left}
use Rattle.timing.specs.declared.registers.Format.{Format}
use Rattle.timing.specs.declared.registers.Parity.{Parity}
use Rattle.timing.specs.declared.registers.Parity.TheVariants.{Disabled, Even, Odd}
use Rattle.timing.specs.Ones.{bits, odd_among, parity_by, parity_bit}
use Rattle.timing.specs.Registers.{bit, width}
use Rattle.timing.proofs.Bits.{bits_low, bits_above}
use Rattle.sections.specs.Transmit.{word_of}
use Rattle.cable.proofs.Turned.{turned_turned, turned_swap}
use Rattle.cable.specs.Passing.{turned}

-- bit k of the half is bit k + 1
bit_half : (k c : ℕ) → bit k (c / 2) ≡ bit (suc k) c
bit_half k c = ap (λ x. eqb (x % 2) 1) (div-div-eq-div-mul c 2 (2 ^ k) ∙ ap (λ y. c / y) (sym (pow-succ' 2 k)))

pub length_bits : (n c : ℕ) → length (bits n c) ≡ n
unfolding bits
length_bits zero c = refl
length_bits (suc n) c = ap suc (length_bits n (c / 2))

pub get_d_bits : (n c k : ℕ) (d : Bool) → k < n → get_or (bits n c) k d ≡ bit k c
unfolding bits
get_d_bits zero c k d h = absurd (omega arith)
get_d_bits (suc n) c zero d h = ap (λ x. eqb (x % 2) 1) (sym (div-one c))
get_d_bits (suc n) c (suc k) d h = get_d_bits n (c / 2) k d (omega arith) ∙ bit_half k c

-- one bit more
pub bits_push : (n c : ℕ) → bits (suc n) c ≡ bits n c ++ bit n c ∷ []
unfolding bits
bits_push zero c = ap (λ x. eqb (x % 2) 1 ∷ []) (sym (div-one c))
bits_push (suc n) c = ap (λ bs. eqb (c % 2) 1 ∷ bs) (bits_push n (c / 2) ∙ ap (λ b. bits n (c / 2) ++ b ∷ []) (bit_half n c))

-- a bit above n low ones
pub held_push : (n h : ℕ) (v : Bool) → h < 2 ^ n → bits (suc n) (h + cond v (2 ^ n) 0) ≡ bits n h ++ v ∷ []
held_push n h v l = ap (λ x. bits (suc n) (x + cond v (2 ^ n) 0)) (sym (mod-eq_of_lt l)) ∙ bits_above n h v

pub held_low : (n h : ℕ) (v : Bool) → h < 2 ^ n → h + cond v (2 ^ n) 0 < 2 ^ suc n
held_low n h true l = let p = pow-succ' 2 n in omega arith
held_low n h false l = let p = pow-succ' 2 n in omega arith

-- a bit of a number that is cut to its low n
pub bit_low : (n c k : ℕ) → k < n → bit k (c % 2 ^ n) ≡ bit k c
bit_low n c k h = sym (get_d_bits n (c % 2 ^ n) k false h) ∙ ap (λ bs. get_or bs k false) (bits_low n c) ∙ get_d_bits n c k false h

-- each of the second, turned over where the first holds
unfoldable pub turn_each : List Bool → List Bool → List Bool
turn_each [] bs = []
turn_each (s ∷ ss) [] = []
turn_each (s ∷ ss) (b ∷ bs) = turned s b ∷ turn_each ss bs

pub turn_each_push : (ss bs : List Bool) (s b : Bool) → length ss ≡ length bs → turn_each (ss ++ s ∷ []) (bs ++ b ∷ []) ≡ turn_each ss bs ++ turned s b ∷ []
unfolding turn_each
turn_each_push [] [] s b h = refl
turn_each_push [] (c ∷ bs) s b h = absurd (omega arith)
turn_each_push (t ∷ ss) [] s b h = absurd (omega arith)
turn_each_push (t ∷ ss) (c ∷ bs) s b h = ap (λ l. turned t c ∷ l) (turn_each_push ss bs s b (omega arith))

pub getD_turn_each : (ss bs : List Bool) (k : ℕ) (d : Bool) → k < length ss → k < length bs → get_or (turn_each ss bs) k d ≡ turned (get_or ss k d) (get_or bs k d)
unfolding turn_each
getD_turn_each [] bs k d h g = absurd (omega arith)
getD_turn_each (s ∷ ss) [] k d h g = absurd (omega arith)
getD_turn_each (s ∷ ss) (b ∷ bs) zero d h g = refl
getD_turn_each (s ∷ ss) (b ∷ bs) (suc k) d h g = getD_turn_each ss bs k d (omega arith) (omega arith)

pub odd_turn_each : (ss bs : List Bool) → length ss ≡ length bs → odd_among (turn_each ss bs) ≡ turned (odd_among ss) (odd_among bs)
unfolding turn_each odd_among
odd_turn_each [] [] h = refl
odd_turn_each [] (b ∷ bs) h = absurd (omega arith)
odd_turn_each (s ∷ ss) [] h = absurd (omega arith)
odd_turn_each (s ∷ ss) (b ∷ bs) h = let ih = odd_turn_each ss bs (omega arith) in grind (arith, turned_turned, turned_swap)

odd_push : (bs : List Bool) (b : Bool) → odd_among (bs ++ b ∷ []) ≡ turned b (odd_among bs)
unfolding odd_among
odd_push [] b = refl
odd_push (c ∷ bs) b = ap (turned c) (odd_push bs b) ∙ turned_swap c b (odd_among bs)

-- the bits of a word with its parity bit
word_bits : (f : Format) (c : ℕ) → bits (suc (width f.length)) (word_of f c) ≡ bits (width f.length) c ++ parity_bit f c ∷ []
word_bits f c = bits_above (width f.length) c (parity_bit f c)

-- data bit k of a word is bit k of its character
pub word_data : (f : Format) (c k : ℕ) → k < width f.length → bit k (word_of f c) ≡ bit k c
word_data f c k h =
    let l = length_bits (width f.length) c in
    sym (get_d_bits (suc (width f.length)) (word_of f c) k false (omega arith))
    ∙ ap (λ bs. get_or bs k false) (word_bits f c)
    ∙ get_or_append_left (bits (width f.length) c) (parity_bit f c ∷ []) false k (omega arith)
    ∙ get_d_bits (width f.length) c k false h

-- an odd number of ones among data and parity bit is what odd parity sends, and even parity never
abbrev pub odd_sent : Parity → Bool → Bool
odd_sent Disabled b = b
odd_sent Even b = false
odd_sent Odd b = true

odd_with_parity : (p : Parity) (b : Bool) → turned (parity_by p b) b ≡ odd_sent p b
odd_with_parity Disabled b = refl
odd_with_parity Even b = grind arith
odd_with_parity Odd b = grind arith

pub odd_word : (f : Format) (c : ℕ) → odd_among (bits (suc (width f.length)) (word_of f c)) ≡ odd_sent f.parity (odd_among (bits (width f.length) c))
unfolding parity_bit
odd_word f c =
    ap odd_among (word_bits f c) ∙ odd_push (bits (width f.length) c) (parity_bit f c)
    ∙ odd_with_parity f.parity (odd_among (bits (width f.length) c))
