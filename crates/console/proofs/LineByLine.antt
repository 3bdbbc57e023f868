-- Lines answered one after the other. Assumes nothing.
use Rattle.std.proofs.Common.{◌≡◌, ℕ, ◌+◌, ◌^◌, ◌<◌, ◌≤◌, ◌⊎◌, true, false, List, [], ◌∷◌, length, Option, Some, None, IfSome, refl, ◌==◌, if◌then◌else◌, inl, inr, arith}
use Rattle.std.specs.Io.BufRead.{first_piece, drop_through, DropsThrough}
use Rattle.std.specs.Io.KnownBytes.{IsAtEnd}
use Rattle.console.specs.Lines.{AnswersLines}

no_longer : (xs : List ℕ) → length (drop_through 10 xs) ≤ length xs
no_longer [] = omega arith
no_longer (x ∷ xs) =
    elim (x == 10) as (λ b. length (if b then xs else drop_through 10 xs) ≤ length (x ∷ xs)) [
      | true ↦ omega arith
      | false ↦ omega (arith, no_longer xs)
    ]

-- what follows a byte 10 is shorter
shorter : (x : ℕ) (xs : List ℕ) → length (drop_through 10 (x ∷ xs)) ≤ length xs
shorter x xs =
    elim (x == 10) as (λ b. length (if b then xs else drop_through 10 xs) ≤ length xs) [
      | true ↦ omega arith
      | false ↦ no_longer xs
    ]

module _ {F Line : Type 0} (calls : F → ℕ → Line → F → Type 0) (bytes_of : Line → List ℕ) where
  -- one line, and then those behind it
  pub next_line : (answer next : F) (number : ℕ) (line : Line) (old new : Option (List ℕ)) → calls answer number line next → IfSome old (λ xs. (0 < length xs) × (bytes_of line ≡ first_piece 10 xs)) → DropsThrough old new 10 → AnswersLines calls bytes_of next (number + 1) new → AnswersLines calls bytes_of answer number old
  next_line answer next number line None new called known drops others = (line ∷ others.0, others.1, (next, called, others.2), tt)
  next_line answer next number line (Some []) new called known drops others = absurd (omega arith)
  next_line answer next number line (Some (x ∷ xs)) new called known drops others =
      (line ∷ others.0, others.1, (next, called, others.2), λ small. (λ empty. cc, known.1, rw drops at others.3 (omega (arith, shorter x xs))))

  -- no line is left
  pub no_line : (answer : F) (number : ℕ) (known : Option (List ℕ)) → (2 ^ 64 ≤ number + 1) ⊎ IsAtEnd known → AnswersLines calls bytes_of answer number known
  no_line answer number None over = ([], answer, refl, tt)
  no_line answer number (Some []) over = ([], answer, refl, λ _. refl)
  no_line answer number (Some (x ∷ xs)) over =
      ([], answer, refl, λ small. elim over [ inl many ↦ absurd (omega arith) | inr at_end ↦ at_end ])
