-- The fields of a text, one after another. Assumes nothing.
use Rattle.std.proofs.Common.{◌≡◌, ℕ, zero, suc, ◌+◌, ◌-◌, ◌<◌, ◌≤◌, Bool, true, false, cond, eqb, List, [], ◌∷◌, ◌++◌, length, get_or, take, decimal, Ok, Err, Result, sym, refl, ap, subst, ◌∙◌, append_assoc, arith}
use Rattle.std.proofs.Math.ListN.{set}
use Rattle.std.proofs.lemmas.List.{append-nil, take_all, take_more_set, length-replicate, length-set}
use Rattle.std.proofs.lemmas.Bool.Decides.{nat_tests}
use Rattle.faults.specs.declared.Cause.{Cause}
use Rattle.faults.specs.declared.Cause.TheVariants.{BadFields}
use Rattle.lines.specs.Format.{then, is_digit}
use Rattle.lines.specs.Texts.{with_field, with_fields}
use Rattle.lines.specs.Accepted.{AllSmall}
use Rattle.lines.proofs.Fields.{field_read, field_taken}
use Rattle.lines.specs.Rest.{first_field, fields}

-- numbers in front of those that are read
abbrev pub behind : List ℕ → Result (List ℕ) Cause → Result (List ℕ) Cause
behind front r = then r (λ ns. Ok (front ++ ns))

behind_none : (r : Result (List ℕ) Cause) → r ≡ behind [] r
behind_none (Ok ns) = refl
behind_none (Err c) = refl

behind_one : (front : List ℕ) (n : ℕ) (r : Result (List ℕ) Cause) → behind front (then r (λ ns. Ok (n ∷ ns))) ≡ behind (front ++ (n ∷ [])) r
behind_one front n (Ok ns) = ap (λ xs. Ok xs) (sym (append_assoc front (n ∷ []) ns))
behind_one front n (Err c) = refl

-- the first i of n numbers, and the fields of the text that is left
abbrev pub with_rest : ℕ → ℕ → List ℕ → List ℕ → Result (List ℕ) Cause
with_rest n i numbers text = behind (take i numbers) (fields (n - i) text)

pub none_read : (n : ℕ) (text : List ℕ) → fields n text ≡ behind [] (fields (n - 0) text)
none_read n text = behind_none (fields n text) ∙ ap (λ m. behind [] (fields m text)) (omega arith)

pub one_read : (n i : ℕ) (numbers text rest : List ℕ) (first : ℕ) → i < n → length numbers ≡ n → first_field text ≡ Ok (first, rest)
    → with_rest n i numbers text ≡ with_rest n (i + 1) (set numbers i first) rest
one_read n i numbers text rest first lt len e =
    let left : n - i ≡ suc (n - (i + 1)) = omega arith in
    rw (left, e, take_more_set numbers i first (omega arith)) (behind_one (take i numbers) first (fields (n - (i + 1)) rest))

pub one_refused : (n i : ℕ) (numbers text : List ℕ) (c : Cause) → i < n → first_field text ≡ Err c → with_rest n i numbers text ≡ Err c
one_refused n i numbers text c lt e =
    let left : n - i ≡ suc (n - (i + 1)) = omega arith in
    rw (left, e)

ended : (front : List ℕ) (e : Bool) → behind front (cond e (Ok []) (Err BadFields)) ≡ cond e (Ok front) (Err BadFields)
ended front true = ap (λ xs. Ok xs) (append-nil front)
ended front false = refl

pub all_read : (n i : ℕ) (numbers text : List ℕ) → n ≤ i → length numbers ≡ n → with_rest n i numbers text ≡ cond (eqb (length text) 0) (Ok numbers) (Err BadFields)
all_read n i numbers text le len =
    let left : n - i ≡ 0 = omega arith in
    rw (left, take_all i numbers (omega arith)) (ended numbers (eqb (length text) 0))

pub ruleset field_steps = (none_read, one_read, one_refused, all_read, length-replicate, length-set)

-- numbers behind a text begin with a space, or there are none
pub apart : (front ns : List ℕ) → with_fields front ns ≡ front ++ with_fields [] ns
apart front [] = sym (append-nil front)
apart front (n ∷ ns) =
    apart (with_field front n) ns ∙ ap (λ xs. xs ++ with_fields [] ns) (append_assoc front (32 ∷ []) (decimal n))
    ∙ append_assoc front (32 ∷ decimal n) (with_fields [] ns)
    ∙ ap (λ xs. front ++ xs) (sym (apart (32 ∷ decimal n) ns))

no_digit : (ns : List ℕ) → is_digit (get_or (with_fields [] ns) 0 0) ≡ false
no_digit [] = refl
no_digit (n ∷ ns) = ap (λ xs. is_digit (get_or xs 0 0)) (apart (32 ∷ decimal n) ns)

-- what came before an accepted answer was accepted
pub came : {X Y : Type 0} (r : Result X Cause) (next : X → Result Y Cause) (y : Y) → then r next ≡ Ok y → (x : X) × ((r ≡ Ok x) × (next x ≡ Ok y))
came (Ok x) next y h = (x, (refl, h))
came (Err c) next y h = cc

no_text : (text ns : List ℕ) → cond (eqb (length text) 0) (Ok []) (Err BadFields) ≡ Ok ns → (text ≡ with_fields [] ns) × (length ns ≡ 0)
no_text [] ns h = let e : [] ≡ ns = cc in subst (λ (ms : List ℕ). ([] ≡ with_fields [] ms) × (length ms ≡ 0)) e (refl, refl)
no_text (b ∷ text) ns h = let some : eqb (suc (length text)) 0 ≡ false = grind (arith, nat_tests) in let h' = rw some at h in cc

-- fields that are read are the text, and the text of numbers is read as them
pub fields_read : (n : ℕ) (text ns : List ℕ) → fields n text ≡ Ok ns → (text ≡ with_fields [] ns) × (length ns ≡ n)
fields_read zero text ns h = no_text text ns h
fields_read (suc n) text ns h =
    let s = came (first_field text) _ ns h in
    let f = s.0 in
    let t = came (fields n f.1) _ ns s.1.1 in
    let more = fields_read n f.1 t.0 t.1.0 in
    let same : f.0 ∷ t.0 ≡ ns = let e : ◌≡◌ {A = Result (List ℕ) Cause} (Ok (f.0 ∷ t.0)) (Ok ns) = t.1.1 in cc in
    subst (λ (ms : List ℕ). (text ≡ with_fields [] ms) × (length ms ≡ suc n)) same
    (field_read text f.0 f.1 s.1.0 ∙ ap (λ rest. 32 ∷ (decimal f.0 ++ rest)) more.0 ∙ sym (apart (32 ∷ decimal f.0) t.0), ap (λ m. suc m) more.1)

pub fields_taken : (ns : List ℕ) → AllSmall ns → fields (length ns) (with_fields [] ns) ≡ Ok ns
fields_taken [] h = refl
fields_taken (n ∷ ns) h = rw (apart (32 ∷ decimal n) ns, field_taken n (with_fields [] ns) h.0 (no_digit ns), fields_taken ns h.1)
