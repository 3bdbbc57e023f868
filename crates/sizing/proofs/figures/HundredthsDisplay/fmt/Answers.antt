-- The two decimals of a number below 100 are its two digits: all hundred are computed once and compared.
use Rattle.std.proofs.Common.{◌≡◌, ℕ, ◌/◌, ◌%◌, ◌<◌, List, [], ◌∷◌, ◌++◌, sym, ◌∙◌, arith}
use Rattle.std.proofs.Output.{has_written_of_eq}
use Rattle.std.proofs.lemmas.List.FromFn.{get_or-map-range_with_len}
use Rattle.std.specs.Fmt.{decimal, styled_decimal, format_spec, padded_integral, char_count, digits}
use Rattle.sizing.specs.Figures.{point_two}
use Rattle.sizing.proofs.figures.HundredthsDisplay.fmt.Goals as goal

abbrev padded : ℕ → List ℕ
padded = styled_decimal (format_spec 32 0 4 2 18446744073709551615)

abbrev both : ℕ → List ℕ
both n = decimal (n / 10) ++ decimal (n % 10)

two_digits : (n : ℕ) → n < 100 → padded n ≡ both n
unfolding padded_integral char_count digits
two_digits n h =
    sym (get_or-map-range_with_len padded 0 100 n n [] h (omega arith)) ∙ get_or-map-range_with_len both 0 100 n n [] h (omega arith)

pub returns-clause-writes : goal.returns-clause-writes
returns-clause-writes g c plain ok =
    let n = c.args.self.now.0 in
    let tens : n % 100 / 10 ≡ n / 10 % 10 = omega arith in
    let ones : n % 100 % 10 ≡ n % 10 = omega arith in
    let two : padded (n % 100) ≡ both (n % 100) = two_digits (n % 100) (omega arith) in
    let shown : decimal (n / 100) ++ 46 ∷ styled_decimal c.laid_out.result c.decimals-decimals.result ≡ point_two n = rw (c.laid_out.ensures, c.decimals-decimals.ensures, two, tens, ones) in
    has_written_of_eq _ _ _ _ _ shown (c.write.ensures.writes plain ok)
