-- The lines of an input. Assumes nothing.
use Rattle.std.specs.Prelude.{◌≡◌, ◌≢◌, ℕ, ◌+◌, ◌^◌, ◌<◌, List, [], ◌∷◌, map, length, IfSome, Option}
use Rattle.std.specs.Io.BufRead.{first_piece, drop_through}
use Rattle.std.specs.List.{FoldsTo, enumerate_from}

-- the lines that stand in bytes, each without its closing byte 10; what follows the last byte 10 is one if it has a byte
abbrev pub AreLines : List ℕ → List (List ℕ) → Type 0
AreLines bytes [] = bytes ≡ []
AreLines bytes (line ∷ lines) = (bytes ≢ []) × (line ≡ first_piece 10 bytes) × AreLines (drop_through 10 bytes) lines

-- A function is called with each line and its number, from a number on, in their order. Where the bytes are known, and are so few that the
-- numbers suffice, these are their lines.
abbrev pub AnswersLines : {F Line : Type 0} → (F → ℕ → Line → F → Type 0) → (Line → List ℕ) → F → ℕ → Option (List ℕ) → Type 0
AnswersLines {F} {Line} calls bytes_of answer number known =
    (lines : List Line) × (last : F) × FoldsTo (λ p line q. calls p line.0 line.1 q) answer (enumerate_from number lines) last
    × IfSome known (λ bytes. number + length bytes < 2 ^ 64 → AreLines bytes (map bytes_of lines))
