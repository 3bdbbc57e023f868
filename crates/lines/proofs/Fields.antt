-- A field that is read is a space and the digits of its number, and they are read as that field. Assumes nothing.
use Rattle.std.proofs.Common.{◌≡◌, ℕ, ◌+◌, ◌-◌, ◌*◌, ◌/◌, ◌%◌, ◌^◌, ◌<◌, ◌≤◌, Bool, true, false, cond, eqb, leb, List, [], ◌∷◌, ◌++◌, length, get_or, drop, Ok, Err, decimal, sym, refl, ap, ◌∙◌, append_assoc, arith}
use Rattle.std.proofs.lemmas.Fmt.{decimal_digit, decimal_step, decimal_by_steps, first_decimal}
use Rattle.std.proofs.lemmas.List.{length_push, get_or_append_left}
use Rattle.std.proofs.lemmas.Bool.{and_parts}
use Rattle.std.proofs.lemmas.Bool.Decides.{nat_tests}
use Rattle.faults.specs.declared.Cause.TheVariants.{BadFields}
use Rattle.lines.specs.Format.{then, largest, is_digit, goes_on, opens_field}
use Rattle.lines.specs.Rest.{digits_onto, first_field}
use Rattle.lines.proofs.Digits.{one_digit, no_byte, no_digit, field_is, no_text, no_space}

-- a digit more
digit_more : (v b : ℕ) → 0 < v → goes_on v b ≡ true → decimal (v * 10 + (b - 48)) ≡ decimal v ++ (b ∷ [])
digit_more v b pos go =
    let n = v * 10 + (b - 48) in
    let low : 48 ≤ b = grind (arith, nat_tests) in
    let high : b ≤ 57 = grind (arith, nat_tests) in
    let small : v ≤ largest = grind (arith, nat_tests) in
    let front : n / 10 ≡ v = omega arith in
    let last : 48 + n % 10 ≡ b = omega arith in
    decimal_step n (omega arith) (omega arith) ∙ ap (λ m. decimal m ++ ((48 + n % 10) ∷ [])) front ∙ ap (λ m. decimal v ++ (m ∷ [])) last

-- a number that is not read on
stopped : (v : ℕ) (bs : List ℕ) (small : Bool) (n : ℕ) (rest : List ℕ) → then {A = ℕ × ℕ} {B = ℕ × List ℕ} (cond small (Ok (v, 0)) (Err BadFields)) (λ f. Ok (f.0, drop f.1 bs)) ≡ Ok (n, rest) → decimal v ++ bs ≡ decimal n ++ rest
stopped v bs true n rest h = let e : ◌≡◌ {A = ℕ × List ℕ} (v, bs) (n, rest) = cc in ap (λ p. decimal p.0 ++ p.1) e
stopped v bs false n rest h = cc

-- what stands behind the number so far
by_next :
    (b : ℕ) (bs : List ℕ) (v n : ℕ) (rest : List ℕ) → ((w : ℕ) → 0 < w → digits_onto w bs ≡ Ok (n, rest) → decimal w ++ bs ≡ decimal n ++ rest)
    → 0 < v → (g : Bool) → goes_on v b ≡ g → digits_onto v (b ∷ bs) ≡ Ok (n, rest) → decimal v ++ (b ∷ bs) ≡ decimal n ++ rest
unfolding digits_onto
by_next b bs v n rest on pos true go h =
    let w = v * 10 + (b - 48) in
    let low : 48 ≤ b = grind (arith, nat_tests) in
    let high : b ≤ 57 = grind (arith, nat_tests) in
    let small : v ≤ largest = grind (arith, nat_tests) in
    sym (append_assoc (decimal v) (b ∷ []) bs) ∙ ap (λ ds. ds ++ bs) (sym (digit_more v b pos go)) ∙ on w (omega arith) (sym (one_digit v b bs small low high) ∙ h)
by_next b bs v n rest on pos false stop h = stopped v (b ∷ bs) (leb v largest) n rest (rw stop at h)

digits_read : (bs : List ℕ) (v n : ℕ) (rest : List ℕ) → 0 < v → digits_onto v bs ≡ Ok (n, rest) → decimal v ++ bs ≡ decimal n ++ rest
unfolding digits_onto
digits_read [] v n rest pos h = stopped v [] (leb v largest) n rest h
digits_read (b ∷ bs) v n rest pos h = by_next b bs v n rest (λ w p. digits_read bs w n rest p) pos (goes_on v b) refl h

-- the first digit, with no digit behind a 0
plain : (rest : List ℕ) → is_digit (get_or rest 0 0) ≡ false → (v : ℕ) → v ≤ largest → digits_onto v rest ≡ Ok (v, rest)
plain [] h v small = no_byte v [] small refl
plain (b ∷ bs) h v small = no_digit v b bs small (λ low high. grind (arith, nat_tests))

number_read : (t : List ℕ) (n : ℕ) (rest : List ℕ) → opens_field (32 ∷ t) 0 ≡ true → digits_onto 0 t ≡ Ok (n, rest) → t ≡ decimal n ++ rest
number_read [] n rest h read = cc
number_read (d ∷ u) n rest h read = by_zero (eqb d 48) refl
  where
    dig : is_digit d ≡ true
    dig = (and_parts (is_digit d) _ h).0

    on : digits_onto (d - 48) u ≡ Ok (n, rest)
    on =
        let low : 48 ≤ d = let e = dig in grind (arith, nat_tests) in
        let high : d ≤ 57 = let e = dig in grind (arith, nat_tests) in
        ap (λ v. digits_onto v u) (omega arith) ∙ sym (one_digit 0 d u (omega arith) low high) ∙ read

    by_zero : (z : Bool) → eqb d 48 ≡ z → (d ∷ u) ≡ decimal n ++ rest
    by_zero true e =
        let zero : d ≡ 48 = grind (arith, nat_tests) in
        let next : is_digit (get_or u 0 0) ≡ false = grind (arith, nat_tests) in
        let alone : digits_onto (d - 48) u ≡ Ok (0, u) = ap (λ v. digits_onto v u) (omega arith) ∙ plain u next 0 (omega arith) in
        let f : ◌≡◌ {A = ℕ × List ℕ} (0, u) (n, rest) = let g = sym alone ∙ on in cc in
        ap (λ c. c ∷ u) zero ∙ ap (λ ds. ds ++ u) (sym (decimal_digit 0 (omega arith))) ∙ ap (λ p. decimal p.0 ++ p.1) f
    by_zero false e =
        let low : 48 ≤ d = let e = dig in grind (arith, nat_tests) in
        let high : d ≤ 57 = let e = dig in grind (arith, nat_tests) in
        let more : 48 < d = grind (arith, nat_tests) in
        let digit : decimal (d - 48) ≡ d ∷ [] = decimal_digit (d - 48) (omega arith) ∙ ap (λ m. m ∷ []) (omega arith) in
        ap (λ ds. ds ++ u) (sym digit) ∙ digits_read u (d - 48) n rest (omega arith) on

pub field_read : (text : List ℕ) (n : ℕ) (rest : List ℕ) → first_field text ≡ Ok (n, rest) → text ≡ 32 ∷ (decimal n ++ rest)
field_read [] n rest h = let none = sym (no_text [] refl) ∙ h in cc
field_read (b ∷ t) n rest h = by_space (eqb b 32) refl
  where
    opened : (o : Bool) → opens_field (32 ∷ t) 0 ≡ o → cond o (digits_onto 0 t) (Err BadFields) ≡ Ok (n, rest) → t ≡ decimal n ++ rest
    opened true o r = number_read t n rest o r
    opened false o r = cc

    by_space : (s : Bool) → eqb b 32 ≡ s → (b ∷ t) ≡ 32 ∷ (decimal n ++ rest)
    by_space true e =
        let space : b ≡ 32 = grind (arith, nat_tests) in
        ap (λ c. c ∷ t) space ∙ ap (λ xs. 32 ∷ xs) (opened (opens_field (32 ∷ t) 0) refl (sym (field_is t) ∙ ap (λ c. first_field (c ∷ t)) (sym space) ∙ h))
    by_space false e = let none = sym (no_space b t (λ space. grind (arith, nat_tests))) ∙ h in cc

-- the digits of a number, read from the first on, come to the number, and what follows is read after it
abbrev ComesTo : ℕ → List ℕ → Type 0
ComesTo n ds = n ≤ largest → (rest : List ℕ) → digits_onto 0 (ds ++ rest) ≡ digits_onto n rest

one_comes : (n : ℕ) → n < 10 → ComesTo n ((48 + n) ∷ [])
one_comes n h small rest = one_digit 0 (48 + n) rest (omega arith) (omega arith) (omega arith) ∙ ap (λ v. digits_onto v rest) (omega arith)

more_come : (n : ℕ) (ds : List ℕ) → 10 ≤ n → ComesTo (n / 10) ds → ComesTo n (ds ++ ((48 + n % 10) ∷ []))
more_come n ds h before small rest =
    let d = 48 + n % 10 in
    ap (digits_onto 0) (append_assoc ds (d ∷ []) rest) ∙ before (omega arith) (d ∷ rest)
    ∙ one_digit (n / 10) d rest (omega arith) (omega arith) (omega arith)
    ∙ ap (λ v. digits_onto v rest) (omega arith)

-- the first byte of a number is a digit, and no digit stands behind a 0
first_digit : (n : ℕ) → n < 2 ^ 64 → (0 < length (decimal n)) × (is_digit (get_or (decimal n) 0 0) ≡ true)
first_digit n small =
    decimal_by_steps (λ m ds. (0 < length ds) × (is_digit (get_or ds 0 0) ≡ true))
    (λ m h. (omega arith, grind (arith, nat_tests)))
    (λ m ds h before. (omega (arith, length_push ds (48 + m % 10)), ap is_digit (get_or_append_left ds ((48 + m % 10) ∷ []) 0 0 before.0) ∙ before.1))
    n small

opens_decimal : (n : ℕ) (rest : List ℕ) → n ≤ largest → is_digit (get_or rest 0 0) ≡ false → opens_field (32 ∷ (decimal n ++ rest)) 0 ≡ true
opens_decimal n rest small h =
    let f = first_digit n (omega arith) in
    let t = decimal n ++ rest in
    let first : get_or t 0 0 ≡ get_or (decimal n) 0 0 = get_or_append_left (decimal n) rest 0 0 f.0 in
    let digit : is_digit (get_or t 0 0) ≡ true = ap is_digit first ∙ f.1 in
    let lead : get_or t 0 0 ≡ 48 → is_digit (get_or t 1 0) ≡ false = λ z.
    let above : (0 < n → ⊥) = λ p. let a = first_decimal n p (omega arith) in omega arith in
    let none : n ≡ 0 = omega arith in
    ap (λ m. is_digit (get_or (decimal m ++ rest) 1 0)) none ∙ ap (λ ds. is_digit (get_or (ds ++ rest) 1 0)) (decimal_digit 0 (omega arith)) ∙ h in
    grind (arith, nat_tests, digit, lead)

pub field_taken : (n : ℕ) (rest : List ℕ) → n ≤ largest → is_digit (get_or rest 0 0) ≡ false → first_field (32 ∷ (decimal n ++ rest)) ≡ Ok (n, rest)
field_taken n rest small h =
    field_is (decimal n ++ rest) ∙ ap (λ o. cond o (digits_onto 0 (decimal n ++ rest)) (Err BadFields)) (opens_decimal n rest small h)
    ∙ decimal_by_steps ComesTo one_comes more_come n (omega arith) small rest
    ∙ plain rest h n small
