-- Digits are read one by one from the text that is left. Assumes nothing.
use Rattle.std.proofs.Common.{◌≡◌, ℕ, suc, ◌+◌, ◌-◌, ◌*◌, ◌<◌, ◌≤◌, Bool, true, false, cond, eqb, leb, List, [], ◌∷◌, length, drop, Ok, Err, Result, refl, ap, ◌∙◌, add_assoc, arith}
use Rattle.std.proofs.lemmas.Bool.Decides.{nat_tests}
use Rattle.faults.specs.declared.Cause.{Cause}
use Rattle.faults.specs.declared.Cause.TheVariants.{BadFields}
use Rattle.lines.specs.Format.{then, largest, goes_on, digits_from, opens_field, in_range}
use Rattle.lines.specs.Rest.{digits_onto, first_field}

-- a place further on by i
abbrev pub on_by : ℕ → ℕ × ℕ → ℕ × ℕ
on_by i f = (f.0, i + f.1)

by_test : (i j v : ℕ) (r s : ℕ × ℕ) (g : Bool) → r ≡ on_by i s → cond g r (v, i + j) ≡ on_by i (cond g s (v, j))
by_test i j v r s true h = h
by_test i j v r s false h = refl

pub digits_on_by : (bs : List ℕ) (i j v : ℕ) → digits_from (i + j) v bs ≡ on_by i (digits_from j v bs)
digits_on_by [] i j v = refl
digits_on_by (b ∷ bs) i j v =
    by_test i j v _ _ (goes_on v b) (ap (λ k. digits_from k (v * 10 + (b - 48)) bs) (add_assoc i j 1) ∙ digits_on_by bs i (j + 1) (v * 10 + (b - 48)))

-- what stands behind one byte more
one_behind : (b : ℕ) (bs : List ℕ) (r : Result (ℕ × ℕ) Cause)
    → then {A = ℕ × ℕ} {B = ℕ × List ℕ} (then r (λ f. Ok (on_by 1 f))) (λ f. Ok (f.0, drop f.1 (b ∷ bs))) ≡ then r (λ f. Ok (f.0, drop f.1 bs))
one_behind b bs (Ok f) = let place : 1 + f.1 ≡ suc f.1 = omega arith in ap (λ m. Ok (f.0, drop m (b ∷ bs))) place
one_behind b bs (Err c) = refl

in_range_on : (f : ℕ × ℕ) → in_range (on_by 1 f) ≡ then (in_range f) (λ g. Ok (on_by 1 g))
in_range_on f = elim (leb f.0 largest) as (λ b. cond b (Ok (on_by 1 f)) (Err BadFields) ≡ then (cond b (Ok f) (Err BadFields)) (λ g. Ok (on_by 1 g))) [ true ↦ refl | false ↦ refl ]

behind_one : (b v : ℕ) (bs : List ℕ) → then (in_range (digits_from 1 v bs)) (λ f. Ok (f.0, drop f.1 (b ∷ bs))) ≡ digits_onto v bs
unfolding digits_onto
behind_one b v bs =
    let d = digits_from 0 v bs in
    ap (λ r. then (in_range r) (λ f. Ok (f.0, drop f.1 (b ∷ bs)))) (digits_on_by bs 1 0 v) ∙ ap (λ r. then r (λ f. Ok (f.0, drop f.1 (b ∷ bs)))) (in_range_on d)
    ∙ one_behind b bs (in_range d)

-- a digit is read on, and nothing else; a number that is too large is refused
pub one_digit : (v b : ℕ) (bs : List ℕ) → v ≤ largest → 48 ≤ b → b ≤ 57 → digits_onto v (b ∷ bs) ≡ digits_onto (v * 10 + (b - 48)) bs
unfolding digits_onto
one_digit v b bs small low high =
    let go : goes_on v b ≡ true = grind (arith, nat_tests) in
    rw go (behind_one b (v * 10 + (b - 48)) bs)

pub no_byte : (v : ℕ) (bs : List ℕ) → v ≤ largest → length bs ≡ 0 → digits_onto v bs ≡ Ok (v, bs)
unfolding digits_onto
no_byte v [] small none = let fits : leb v largest ≡ true = grind (arith, nat_tests) in rw fits
no_byte v (b ∷ bs) small none = absurd (omega arith)

pub no_digit : (v b : ℕ) (bs : List ℕ) → v ≤ largest → (48 ≤ b → b ≤ 57 → ⊥) → digits_onto v (b ∷ bs) ≡ Ok (v, b ∷ bs)
unfolding digits_onto
no_digit v b bs small other =
    let stop : goes_on v b ≡ false = grind (arith, nat_tests, other) in
    let fits : leb v largest ≡ true = grind (arith, nat_tests) in
    rw (stop, fits)

pub too_large : (v : ℕ) (bs : List ℕ) → largest < v → digits_onto v bs ≡ Err BadFields
unfolding digits_onto
too_large v [] large = let over : leb v largest ≡ false = grind (arith, nat_tests) in rw over
too_large v (b ∷ bs) large =
    let over : leb v largest ≡ false = grind (arith, nat_tests) in
    let stop : goes_on v b ≡ false = grind (arith, nat_tests) in
    rw (stop, over)

pub ruleset digit_steps = (one_digit, no_byte, no_digit, too_large)

-- a field is a space and a number
pub field_is : (t : List ℕ) → first_field (32 ∷ t) ≡ cond (opens_field (32 ∷ t) 0) (digits_onto 0 t) (Err BadFields)
unfolding first_field
field_is t = opened (opens_field (32 ∷ t) 0)
  where
    opened : (o : Bool) → then (cond o (in_range (digits_from 1 0 t)) (Err BadFields)) (λ f. Ok (f.0, drop f.1 (32 ∷ t))) ≡ cond o (digits_onto 0 t) (Err BadFields)
    opened true = behind_one 32 0 t
    opened false = refl

pub no_text : (text : List ℕ) → length text ≡ 0 → first_field text ≡ Err BadFields
unfolding first_field
no_text [] h = refl
no_text (b ∷ t) h = absurd (omega arith)

pub no_space : (b : ℕ) (t : List ℕ) → (b ≡ 32 → ⊥) → first_field (b ∷ t) ≡ Err BadFields
unfolding first_field
no_space b t h = let other : eqb b 32 ≡ false = grind (arith, nat_tests) in rw other

pub ruleset field_steps = (field_is, no_text, no_space)
