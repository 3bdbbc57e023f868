-- The text of a command is accepted, and read as that command. Assumes nothing.
use Rattle.std.proofs.Common.{◌≡◌, ℕ, ◌+◌, ◌-◌, ◌*◌, ◌^◌, ◌<◌, ◌≤◌, false, cond, eqb, List, [], ◌∷◌, ◌++◌, length, get_or, take, Ok, decimal, sym, refl, ap, ◌∙◌, arith}
use Rattle.std.proofs.lemmas.Fmt.{decimal_is_IsNumeral, length-decimal-le}
use Rattle.std.proofs.lemmas.Str.Parse.{digit_at}
use Rattle.std.proofs.lemmas.List.{length-append, length_push, take_at, take_all, get_or_push, get_or-append-add}
use Rattle.std.proofs.lemmas.Bool.Decides.{nat_tests}
use Rattle.lines.specs.declared.command.Command.{Command}
use Rattle.lines.specs.declared.command.Command.TheVariants.{Open, Moments, Put, Get, Load, Take}
use Rattle.lines.specs.Format.{then, command_of, text_of_line}
use Rattle.lines.specs.Rest.{fields, command_by_rest}
use Rattle.lines.specs.Texts.{with_field, with_fields, command_text, command_values}
use Rattle.lines.specs.Accepted.{AllSmall, CommandsAccepted}
use Rattle.lines.proofs.FieldLists.{apart, fields_taken}
use Rattle.lines.proofs.Rests.{short_by_rest}

-- the command of a letter and its numbers
letter_taken :
    (letter : ℕ) (ns : List ℕ) (make : List ℕ → Command) → ((rest : List ℕ) → command_by_rest (letter ∷ rest) ≡ then (fields (length ns) rest) (λ ns. Ok (make ns)))
    → AllSmall ns → command_by_rest (with_fields (letter ∷ []) ns) ≡ Ok (make ns)
letter_taken letter ns make is h =
    ap command_by_rest (apart (letter ∷ []) ns) ∙ is (with_fields [] ns) ∙ ap (λ r. then r (λ ns. Ok (make ns))) (fields_taken ns h)

command_taken : (c : Command) → AllSmall (command_values c) → command_by_rest (command_text c) ≡ Ok c
command_taken (Open a b c d) h = letter_taken 79 (a ∷ b ∷ c ∷ d ∷ []) (λ ns. Open (get_or ns 0 0) (get_or ns 1 0) (get_or ns 2 0) (get_or ns 3 0)) (λ rest. refl) h
command_taken (Moments n) h = letter_taken 77 (n ∷ []) (λ ns. Moments (get_or ns 0 0)) (λ rest. refl) h
command_taken (Put a b c d) h = letter_taken 80 (a ∷ b ∷ c ∷ d ∷ []) (λ ns. Put (get_or ns 0 0) (get_or ns 1 0) (get_or ns 2 0) (get_or ns 3 0)) (λ rest. refl) h
command_taken (Get a b c) h = letter_taken 71 (a ∷ b ∷ c ∷ []) (λ ns. Get (get_or ns 0 0) (get_or ns 1 0) (get_or ns 2 0)) (λ rest. refl) h
command_taken (Load a b) h = letter_taken 76 (a ∷ b ∷ []) (λ ns. Load (get_or ns 0 0) (get_or ns 1 0)) (λ rest. refl) h
command_taken (Take a) h = letter_taken 84 (a ∷ []) (λ ns. Take (get_or ns 0 0)) (λ rest. refl) h

-- a text of a command has at most 45 bytes, and ends in a digit
field_length : (front : List ℕ) (n : ℕ) → length (with_field front n) ≡ length front + 1 + length (decimal n)
field_length front n = length-append (front ++ (32 ∷ [])) (decimal n) ∙ ap (λ m. m + length (decimal n)) (length_push front 32)

fields_length : (front ns : List ℕ) → AllSmall ns → length (with_fields front ns) ≤ length front + 11 * length ns
fields_length front [] h = omega arith
fields_length front (n ∷ ns) h =
    let small : n ≤ 4294967295 = h.0 in
    let few : length (decimal n) ≤ 10 = length-decimal-le 10 n (omega arith) (omega arith) (omega arith) in
    omega (arith, fields_length (with_field front n) ns h.1, field_length front n)

-- its last byte closes no line
abbrev Unclosed : List ℕ → Type 0
Unclosed text = eqb (get_or text (length text - 1) 0) 10 ≡ false

field_unclosed : (front : List ℕ) (n : ℕ) → n < 2 ^ 64 → Unclosed (with_field front n)
field_unclosed front n small =
    let number = (decimal_is_IsNumeral n small).0 in
    let last = length (decimal n) - 1 in
    let place : length (with_field front n) - 1 ≡ length (front ++ (32 ∷ [])) + last =
    let some = number.0 in omega (arith, field_length front n, length_push front 32) in
    let byte : get_or (with_field front n) (length (with_field front n) - 1) 0 ≡ get_or (decimal n) last 0 =
    ap (λ i. get_or (with_field front n) i 0) place ∙ get_or-append-add (front ++ (32 ∷ [])) (decimal n) last 0 in
    let digit = digit_at (decimal n) last number.1 (omega (arith, number.0)) in
    ap (λ b. eqb b 10) byte ∙ grind (arith, nat_tests)

fields_unclosed : (front : List ℕ) (n : ℕ) (ns : List ℕ) → AllSmall (n ∷ ns) → Unclosed (with_fields front (n ∷ ns))
fields_unclosed front n [] h = let small : n ≤ 4294967295 = h.0 in field_unclosed front n (omega arith)
fields_unclosed front n (m ∷ ms) h = fields_unclosed (with_field front n) m ms h.1

-- such a text, of a command
record Plain (text : List ℕ) : Type 0 where
  short : length text ≤ 80
  last : Unclosed text

plain : (letter n : ℕ) (ns : List ℕ) → AllSmall (n ∷ ns) → length ns ≤ 3 → Plain (with_fields (letter ∷ []) (n ∷ ns))
plain letter n ns h few = record { short = omega (arith, fields_length (letter ∷ []) (n ∷ ns) h); last = fields_unclosed (letter ∷ []) n ns h }

command_plain : (c : Command) → AllSmall (command_values c) → Plain (command_text c)
command_plain (Open a b c d) h = plain 79 a (b ∷ c ∷ d ∷ []) h (omega arith)
command_plain (Moments n) h = plain 77 n [] h (omega arith)
command_plain (Put a b c d) h = plain 80 a (b ∷ c ∷ d ∷ []) h (omega arith)
command_plain (Get a b c) h = plain 71 a (b ∷ c ∷ []) h (omega arith)
command_plain (Load a b) h = plain 76 a (b ∷ []) h (omega arith)
command_plain (Take a) h = plain 84 a [] h (omega arith)

-- the text of a line that has no closing byte, and of one that has
text_unclosed : (text : List ℕ) → Plain text → text_of_line text ≡ text
text_unclosed text p =
    ap (λ b. take (cond b (length text - 1) (length text)) text) p.last ∙ take_all (length text) text (omega arith)

text_closed : (text : List ℕ) → text_of_line (text ++ (10 ∷ [])) ≡ text
text_closed text =
    let line = text ++ (10 ∷ []) in
    let place : length text ≡ length line - 1 = omega (arith, length_push text 10) in
    let byte : get_or line (length line - 1) 0 ≡ 10 = get_or_push text 10 0 (length line - 1) place in
    ap (λ b. take (cond (eqb b 10) (length line - 1) (length line)) line) byte ∙ take_at text (10 ∷ []) (length line - 1) place

text_taken : (c : Command) → AllSmall (command_values c) → command_of (command_text c) ≡ Ok c
text_taken c h = sym (short_by_rest (command_text c) (command_plain c h).short) ∙ command_taken c h

pub commands_accepted : CommandsAccepted
commands_accepted c h =
    (ap command_of (text_unclosed (command_text c) (command_plain c h)) ∙ text_taken c h, ap command_of (text_closed (command_text c)) ∙ text_taken c h)
