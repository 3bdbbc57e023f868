-- Fields that are read from the text that is left are those at the places. Assumes nothing.
use Rattle.std.proofs.Common.{◌≡◌, ℕ, zero, suc, ◌+◌, ◌-◌, ◌*◌, ◌≤◌, Bool, true, false, cond, eqb, leb, ltb, List, [], ◌∷◌, length, get_or, drop, Ok, Err, Result, sym, refl, subst, ap, ◌∙◌, add-zero, get_or-drop, length-drop, arith}
use Rattle.std.proofs.lemmas.List.{drop-drop}
use Rattle.std.proofs.lemmas.Bool.Decides.{nat_tests}
use Rattle.faults.specs.declared.Cause.{Cause}
use Rattle.faults.specs.declared.Cause.TheVariants.{LineTooLong, BadFields}
use Rattle.lines.proofs.Digits.{on_by, digits_on_by}
use Rattle.lines.specs.Format.{then, largest, goes_on, digits_from, opens_field, in_range, field, one, two, three, four, command_in, command_of}
use Rattle.lines.specs.Rest.{first_field, fields, command_by_rest}
use Rattle.lines.specs.declared.command.Command.{Command}
use Rattle.lines.specs.declared.command.Command.TheVariants.{Open, Moments, Put, Get, Load, Take}

-- the field at a place is the first field of the text that is left there
moved : (i : ℕ) (o : Bool) (d : ℕ × ℕ) → cond o (in_range (on_by i d)) (Err BadFields) ≡ then (cond o (in_range d) (Err BadFields)) (λ f. Ok (on_by i f))
moved i false d = refl
moved i true d = elim (leb d.0 largest) as (λ b. cond b (Ok (on_by i d)) (Err BadFields) ≡ then (cond b (Ok d) (Err BadFields)) (λ f. Ok (on_by i f))) [ true ↦ refl | false ↦ refl ]

field_on_by : (text : List ℕ) (i : ℕ) → field text i ≡ then (field (drop i text) 0) (λ f. Ok (on_by i f))
field_on_by text i =
    let opens : opens_field text i ≡ opens_field (drop i text) 0 = simp (get_or-drop, add-zero) in
    let behind : drop (i + 1) text ≡ drop 1 (drop i text) = sym (drop-drop 1 i text) in
    let digits : digits_from (i + 1) 0 (drop (i + 1) text) ≡ on_by i (digits_from 1 0 (drop 1 (drop i text))) = ap (digits_from (i + 1) 0) behind ∙ digits_on_by (drop 1 (drop i text)) i 1 0 in
    rw (opens, digits) (moved i (opens_field (drop i text) 0) (digits_from 1 0 (drop 1 (drop i text))))

-- the place behind a field is within the text
passed : {X : Type 0} (b : Bool) (r : Result X Cause) (x : X) → cond b r (Err BadFields) ≡ Ok x → r ≡ Ok x
passed true r x h = h
passed false r x h = cc

end_by_test : (i v n : ℕ) (r : ℕ × ℕ) (g : Bool) → r.1 ≤ i + 1 + n → (cond g r (v, i)).1 ≤ i + suc n
end_by_test i v n r true h = omega arith
end_by_test i v n r false h = omega arith

digits_end : (bs : List ℕ) (i v : ℕ) → (digits_from i v bs).1 ≤ i + length bs
digits_end [] i v = omega arith
digits_end (b ∷ bs) i v = end_by_test i v (length bs) _ (goes_on v b) (digits_end bs (i + 1) (v * 10 + (b - 48)))

field_ends : (text : List ℕ) (f : ℕ × ℕ) → field text 0 ≡ Ok f → f.1 ≤ length text
field_ends [] f h = cc
field_ends (b ∷ t) f h =
    let d = digits_from 1 0 t in
    let p = passed (opens_field (b ∷ t) 0) (in_range d) f h in
    let q = passed (leb d.0 largest) (Ok d) f p in
    let same : d ≡ f = cc in
    subst (λ (g : ℕ × ℕ). g.1 ≤ suc (length t)) same (omega (arith, digits_end t 1 0))

-- so many fields from a place on, and nothing behind them
abbrev fields_at : ℕ → List ℕ → ℕ → Result (List ℕ) Cause
fields_at zero text i = cond (eqb i (length text)) (Ok []) (Err BadFields)
fields_at (suc n) text i = then (field text i) (λ f. then (fields_at n text f.1) (λ ns. Ok (f.0 ∷ ns)))

more_left :
    (n : ℕ) (text : List ℕ) (i : ℕ) (r : Result (ℕ × ℕ) Cause) → ((j : ℕ) → j ≤ length text → fields_at n text j ≡ fields n (drop j text)) → i ≤ length text
    → field (drop i text) 0 ≡ r
    → then (then r (λ f. Ok (on_by i f))) (λ f. then (fields_at n text f.1) (λ ns. Ok (f.0 ∷ ns)))
    ≡ then {A = ℕ × List ℕ} (then r (λ f. Ok (f.0, drop f.1 (drop i text)))) (λ f. then (fields n f.1) (λ ns. Ok (f.0 ∷ ns)))
more_left n text i (Ok f) left h e =
    let within : i + f.1 ≤ length text = omega (arith, field_ends (drop i text) f e, length-drop i text) in
    rw (left (i + f.1) within, drop-drop)
more_left n text i (Err c) left h e = refl

fields_left : (n : ℕ) (text : List ℕ) (i : ℕ) → i ≤ length text → fields_at n text i ≡ fields n (drop i text)
unfolding first_field
fields_left zero text i h =
    let ends : eqb i (length text) ≡ eqb (length (drop i text)) 0 = rw length-drop (grind (arith, nat_tests)) in
    rw ends
fields_left (suc n) text i h = rw (field_on_by text i) (more_left n text i (field (drop i text) 0) (fields_left n text) h refl)

-- one, two, three and four of them, each with the last ones behind it
regroup :
    {X Y : Type 0} (m : ℕ) (these : List ℕ → X) (make : ℕ → X → Y) (all : List ℕ → Y) → ((ns : List ℕ) → all (m ∷ ns) ≡ make m (these ns))
    → (r : Result (List ℕ) Cause)
    → then (then r (λ ns. Ok (these ns))) (λ x. Ok (make m x)) ≡ then (then r (λ ns. Ok (m ∷ ns))) (λ ns. Ok (all ns))
regroup m these make all same (Ok ns) = ap (λ y. Ok y) (sym (same ns))
regroup m these make all same (Err c) = refl

add_field :
    {X Y : Type 0} (text : List ℕ) (n : ℕ) (last : ℕ → Result X Cause) (these : List ℕ → X) (make : ℕ → X → Y) (all : List ℕ → Y)
    → ((j : ℕ) → last j ≡ then (fields_at n text j) (λ ns. Ok (these ns))) → ((m : ℕ) (ns : List ℕ) → all (m ∷ ns) ≡ make m (these ns))
    → (r : Result (ℕ × ℕ) Cause)
    → then r (λ f. then (last f.1) (λ x. Ok (make f.0 x))) ≡ then (then r (λ f. then (fields_at n text f.1) (λ ns. Ok (f.0 ∷ ns)))) (λ ns. Ok (all ns))
add_field text n last these make all h same (Ok f) = rw h (regroup f.0 these make all (same f.0) (fields_at n text f.1))
add_field text n last these make all h same (Err c) = refl

abbrev pub first_two : List ℕ → ℕ × ℕ
first_two ns = (get_or ns 0 0, get_or ns 1 0)

abbrev pub first_three : List ℕ → ℕ × ℕ × ℕ
first_three ns = (get_or ns 0 0, get_or ns 1 0, get_or ns 2 0)

abbrev pub first_four : List ℕ → ℕ × ℕ × ℕ × ℕ
first_four ns = (get_or ns 0 0, get_or ns 1 0, get_or ns 2 0, get_or ns 3 0)

last_one :
    (text : List ℕ) (r : Result (ℕ × ℕ) Cause)
    → then r (λ f. cond (eqb f.1 (length text)) (Ok f.0) (Err BadFields))
    ≡ then (then r (λ f. then (fields_at 0 text f.1) (λ ns. Ok (f.0 ∷ ns)))) (λ ns. Ok (get_or ns 0 0))
last_one text (Ok f) = elim (eqb f.1 (length text)) as (λ e. cond e (Ok f.0) (Err BadFields) ≡ then (then (cond e (Ok []) (Err BadFields)) (λ ns. Ok (f.0 ∷ ns))) (λ ns. Ok (get_or ns 0 0))) [ true ↦ refl | false ↦ refl ]
last_one text (Err c) = refl

one_at : (text : List ℕ) (i : ℕ) → one text i ≡ then (fields_at 1 text i) (λ ns. Ok (get_or ns 0 0))
one_at text i = last_one text (field text i)

two_at : (text : List ℕ) (i : ℕ) → two text i ≡ then (fields_at 2 text i) (λ ns. Ok (first_two ns))
two_at text i = add_field text 1 (one text) (λ ns. get_or ns 0 0) (λ m x. (m, x)) first_two (one_at text) (λ m ns. refl) (field text i)

three_at : (text : List ℕ) (i : ℕ) → three text i ≡ then (fields_at 3 text i) (λ ns. Ok (first_three ns))
three_at text i = add_field text 2 (two text) first_two (λ m x. (m, x.0, x.1)) first_three (two_at text) (λ m ns. refl) (field text i)

four_at : (text : List ℕ) (i : ℕ) → four text i ≡ then (fields_at 4 text i) (λ ns. Ok (first_four ns))
four_at text i = add_field text 3 (three text) first_three (λ m x. (m, x.0, x.1, x.2)) first_four (three_at text) (λ m ns. refl) (field text i)

-- the fields behind a letter
behind_letter :
    {X : Type 0} (letter : ℕ) (rest : List ℕ) (n : ℕ) (these : List ℕ → X) (make : X → Command) (last : Result X Cause)
    → last ≡ then (fields_at n (letter ∷ rest) 1) (λ ns. Ok (these ns)) → then last (λ x. Ok (make x)) ≡ then (fields n rest) (λ ns. Ok (make (these ns)))
behind_letter letter rest n these make last h =
    rw (h, fields_left n (letter ∷ rest) 1 (omega arith)) (made (fields n rest))
  where
    made : (r : Result (List ℕ) Cause) → then (then r (λ ns. Ok (these ns))) (λ x. Ok (make x)) ≡ then r (λ ns. Ok (make (these ns)))
    made (Ok ns) = refl
    made (Err c) = refl

pub by_rest : (text : List ℕ) → command_by_rest text ≡ command_in text (get_or text 0 0)
by_rest [] = refl
by_rest (b ∷ rest) =
    let text = b ∷ rest in
    let o = behind_letter b rest 4 first_four (λ p. Open p.0 p.1 p.2 p.3) (four text 1) (four_at text 1) in
    let m = behind_letter b rest 1 (λ ns. get_or ns 0 0) (λ n. Moments n) (one text 1) (one_at text 1) in
    let p = behind_letter b rest 4 first_four (λ p. Put p.0 p.1 p.2 p.3) (four text 1) (four_at text 1) in
    let g = behind_letter b rest 3 first_three (λ p. Get p.0 p.1 p.2) (three text 1) (three_at text 1) in
    let l = behind_letter b rest 2 first_two (λ p. Load p.0 p.1) (two text 1) (two_at text 1) in
    let t = behind_letter b rest 1 (λ ns. get_or ns 0 0) (λ e. Take e) (one text 1) (one_at text 1) in
    rw (o, m, p, g, l, t)

pub short_by_rest : (text : List ℕ) → length text ≤ 80 → command_by_rest text ≡ command_of text
short_by_rest text h =
    let fits : ltb 80 (length text) ≡ false = grind (arith, nat_tests) in
    by_rest text ∙ sym (ap (λ b. cond b (Err LineTooLong) (command_in text (get_or text 0 0))) fits)
