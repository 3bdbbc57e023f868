-- A character that is made of inverted samples of a word is a copy of its character. Assumes nothing.
use Rattle.std.proofs.Common.{◌≡◌, ℕ, suc, ◌+◌, ◌%◌, ◌^◌, ◌<◌, ◌≤◌, Bool, true, false, not, ◌&&◌, List, map, length, get_or, sym, refl, ap, ◌∙◌, mod-eq_of_lt, add-one, arith}
use Rattle.std.proofs.lemmas.List.{length-map, get_or-map}
use Rattle.timing.specs.declared.registers.CharacterLength.{CharacterLength}
use Rattle.timing.specs.declared.registers.CharacterLength.TheVariants.{Five, Six, Seven, Eight}
use Rattle.timing.specs.declared.registers.Format.{Format}
use Rattle.timing.specs.declared.registers.Parity.{Parity}
use Rattle.timing.specs.declared.registers.Parity.TheVariants.{Disabled, Even, Odd}
use Rattle.timing.specs.Ones.{bits, odd_among}
use Rattle.timing.specs.Registers.{bit, width, parity_bits, samples}
use Rattle.timing.proofs.Bits.{odd_among_low}
use Rattle.sections.specs.Receive.{odd_held, wrong_parity}
use Rattle.sections.specs.Transmit.{word_of}
use Rattle.cable.specs.Passing.{turned}
use Rattle.pair.specs.Runs.{Stored}
use Rattle.pair.specs.Copies.{Copy, has_parity}
use Rattle.pair.proofs.Words.{length_bits, get_d_bits, bit_low, turn_each, getD_turn_each, odd_turn_each, word_data, odd_sent, odd_word}

width_few : (l : CharacterLength) → width l ≤ 8
width_few Five = omega arith
width_few Six = omega arith
width_few Seven = omega arith
width_few Eight = omega arith

cut_low : (l : CharacterLength) (n : ℕ) → n % 2 ^ width l < 2 ^ width l
cut_low Five n = omega arith
cut_low Six n = omega arith
cut_low Seven n = omega arith
cut_low Eight n = omega arith

parity_bits_few : (p : Parity) → parity_bits p ≤ 1
parity_bits_few Disabled = omega arith
parity_bits_few Even = omega arith
parity_bits_few Odd = omega arith

turned_false : (a : Bool) → turned a false ≡ a
turned_false true = refl
turned_false false = refl

not_turned_true : (a : Bool) → not (turned a true) ≡ a
not_turned_true true = refl
not_turned_true false = refl

-- the character stored where the held samples are these
abbrev pub made : Format → ℕ → Bool → List ℕ → Stored
made f held rover ms = record { received = record { character = held % 2 ^ width f.length; rfer = false; rover = rover; rper = wrong_parity f.parity held }; steps = ms }

module _ (f : Format) (σ : ℕ → Bool) (c held : ℕ) (rover : Bool) (ms : List ℕ) (all : length ms ≡ samples f) (low : held < 2 ^ samples f) (heard : bits (samples f) held ≡ turn_each (map σ ms) (bits (samples f) (word_of f c))) where
  data_bit : (k : ℕ) → k < width f.length → bit k (held % 2 ^ width f.length) ≡ turned (σ (get_or ms k 0)) (bit k c)
  data_bit k h =
      let l = length_bits (samples f) (word_of f c) in
      let m = length-map ms σ in
      let h2 : k < samples f = omega arith in
      let a = bit_low (width f.length) held k h in
      let b = get_d_bits (samples f) held k false h2 in
      let d = ap (λ bs. get_or bs k false) heard in
      let e = getD_turn_each (map σ ms) (bits (samples f) (word_of f c)) k false (omega arith) (omega arith) in
      let g = get_or-map σ ms k 0 false (omega arith) in
      let i = get_d_bits (samples f) (word_of f c) k false h2 in
      let j = word_data f c k h in
      cc

  -- the parity of what was heard
  odd_heard : odd_held held ≡ turned (odd_among (map σ ms)) (odd_among (bits (samples f) (word_of f c)))
  unfolding odd_held
  odd_heard =
      let few : samples f ≤ 9 = omega (arith, width_few f.length, parity_bits_few f.parity) in
      ap (λ n. odd_among (bits 9 n)) (sym (mod-eq_of_lt low)) ∙ odd_among_low (samples f) 9 held few ∙ ap odd_among heard
      ∙ odd_turn_each (map σ ms) (bits (samples f) (word_of f c)) (length-map ms σ ∙ all ∙ sym (length_bits (samples f) (word_of f c)))

  rper_tells : wrong_parity f.parity held ≡ (has_parity f.parity && odd_among (map σ ms))
  rper_tells = by f.parity odd_heard (odd_word f c)
    where
      by : (p : Parity) → odd_held held ≡ turned (odd_among (map σ ms)) (odd_among (bits (width f.length + parity_bits p) (word_of f c))) →
          odd_among (bits (suc (width f.length)) (word_of f c)) ≡ odd_sent p (odd_among (bits (width f.length) c)) →
          wrong_parity p held ≡ (has_parity p && odd_among (map σ ms))
      by Disabled h w = refl
      by Even h w = h ∙ ap (λ n. turned (odd_among (map σ ms)) (odd_among (bits n (word_of f c)))) (add-one (width f.length)) ∙ ap (turned (odd_among (map σ ms))) w ∙ turned_false (odd_among (map σ ms))
      by Odd h w = ap not (h ∙ ap (λ n. turned (odd_among (map σ ms)) (odd_among (bits n (word_of f c)))) (add-one (width f.length)) ∙ ap (turned (odd_among (map σ ms))) w) ∙ not_turned_true (odd_among (map σ ms))

  pub copy_made : Copy f σ c (made f held rover ms)
  copy_made = record {
    all_sampled = all;
    cut_to_length = cut_low f.length held;
    data_inverted_where_sampled = data_bit;
    rper_tells_odd_inversions = rper_tells;
    rfer_is_0 = refl;
  }
