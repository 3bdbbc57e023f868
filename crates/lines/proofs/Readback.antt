-- A line that is accepted is the text of its command. Assumes nothing.
use Rattle.std.proofs.Common.{◌≡◌, ℕ, zero, suc, ◌+◌, Bool, true, false, cond, eqb, ltb, List, [], ◌∷◌, length, get_or, drop, Ok, Err, Result, sym, refl, ap, ◌∙◌, arith}
use Rattle.std.proofs.lemmas.List.{drop_more, drop_all}
use Rattle.std.proofs.lemmas.Bool.Decides.{nat_tests}
use Rattle.faults.specs.declared.Cause.{Cause}
use Rattle.lines.specs.declared.command.Command.{Command}
use Rattle.lines.specs.declared.command.Command.TheVariants.{Open, Moments, Put, Get, Load, Take}
use Rattle.lines.specs.Format.{then, command_of, text_of_line, parsed}
use Rattle.lines.specs.Rest.{fields, command_by_rest}
use Rattle.lines.specs.Texts.{with_fields, command_text}
use Rattle.lines.specs.Accepted.{ItsText}
use Rattle.lines.proofs.FieldLists.{came, apart, fields_read}
use Rattle.lines.proofs.Rests.{by_rest}

-- a list of a known length by its places
abbrev firsts : ℕ → ℕ → List ℕ → List ℕ
firsts zero k ns = []
firsts (suc n) k ns = get_or ns k 0 ∷ firsts n (k + 1) ns

by_places : (n k : ℕ) (ns : List ℕ) → length ns ≡ k + n → drop k ns ≡ firsts n k ns
by_places zero k ns h = drop_all k ns (omega arith)
by_places (suc n) k ns h = drop_more ns k 0 (omega arith) ∙ ap (λ xs. get_or ns k 0 ∷ xs) (by_places n (k + 1) ns (omega arith))

-- one letter or the next
either_way : {X G : Type 0} (t : Bool) (r s : Result X Cause) (x : X) → cond t r s ≡ Ok x → (t ≡ true → r ≡ Ok x → G) → (s ≡ Ok x → G) → G
either_way true r s x h yes_it_is other = yes_it_is refl h
either_way false r s x h yes_it_is other = other h

-- the fields behind a letter
letter_read :
    (b letter n : ℕ) (rest : List ℕ) (c : Command) (make : List ℕ → Command) → ((ns : List ℕ) → command_text (make ns) ≡ with_fields (letter ∷ []) (firsts n 0 ns))
    → eqb b letter ≡ true → then (fields n rest) (λ ns. Ok (make ns)) ≡ Ok c → b ∷ rest ≡ command_text c
letter_read b letter n rest c make same t h =
    let s = came (fields n rest) _ c h in
    let ns = s.0 in
    let r = fields_read n rest ns s.1.0 in
    let first : b ≡ letter = grind (arith, nat_tests) in
    let made : make ns ≡ c = let e : ◌≡◌ {A = Result Command Cause} (Ok (make ns)) (Ok c) = s.1.1 in cc in
    ap (λ l. l ∷ rest) first ∙ ap (λ xs. letter ∷ xs) r.0 ∙ sym (apart (letter ∷ []) ns)
    ∙ ap (with_fields (letter ∷ [])) (by_places n 0 ns (omega (arith, r.1)))
    ∙ sym (same ns)
    ∙ ap command_text made

-- the letters in their order, each with its fields
text_by_rest : (text : List ℕ) (c : Command) → command_by_rest text ≡ Ok c → text ≡ command_text c
text_by_rest [] c h = cc
text_by_rest (b ∷ rest) c h =
    either_way (eqb b 79) _ _ c h (letter_read b 79 4 rest c (λ ns. Open (get_or ns 0 0) (get_or ns 1 0) (get_or ns 2 0) (get_or ns 3 0)) (λ ns. refl))
    (λ h. either_way (eqb b 77) _ _ c h (letter_read b 77 1 rest c (λ ns. Moments (get_or ns 0 0)) (λ ns. refl))
    (λ h. either_way (eqb b 80) _ _ c h (letter_read b 80 4 rest c (λ ns. Put (get_or ns 0 0) (get_or ns 1 0) (get_or ns 2 0) (get_or ns 3 0)) (λ ns. refl))
    (λ h. either_way (eqb b 71) _ _ c h (letter_read b 71 3 rest c (λ ns. Get (get_or ns 0 0) (get_or ns 1 0) (get_or ns 2 0)) (λ ns. refl))
    (λ h. either_way (eqb b 76) _ _ c h (letter_read b 76 2 rest c (λ ns. Load (get_or ns 0 0) (get_or ns 1 0)) (λ ns. refl))
    (λ h. either_way (eqb b 84) _ _ c h (letter_read b 84 1 rest c (λ ns. Take (get_or ns 0 0)) (λ ns. refl)) (λ h. cc))))))

text_read : (text : List ℕ) (c : Command) → command_of text ≡ Ok c → text ≡ command_text c
text_read text c h = either_way (ltb 80 (length text)) _ _ c h (λ t e. cc) (λ e. text_by_rest text c (by_rest text ∙ e))

pub its_text : (line : List ℕ) (r : Result Command Cause) → r ≡ parsed line → ItsText line r
its_text line (Ok c) h = text_read (text_of_line line) c (sym h)
its_text line (Err f) h = tt
