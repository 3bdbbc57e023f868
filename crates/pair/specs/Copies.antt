-- What became of the characters of one direction, held against what was loaded. Histories have the newest first. Assumes nothing.
use Rattle.std.specs.Prelude.{◌≡◌, ℕ, ◌^◌, ◌<◌, Bool, true, false, cond, ◌&&◌, List, [], ◌∷◌, map, length, Some, None, Option, ◌==◌, slice_index}
use Rattle.timing.specs.declared.registers.Format.{Format}
use Rattle.timing.specs.declared.registers.Parity.{Parity}
use Rattle.timing.specs.declared.registers.Parity.TheVariants.{Disabled, Even, Odd}
use Rattle.timing.specs.Ones.{odd_among}
use Rattle.timing.specs.Registers.{bit, width, samples}
use Rattle.cable.specs.Passing.{turned}
use Rattle.acc.specs.declared.chip.Received.{Received}
use Rattle.pair.specs.Runs.{Stored, Happening, stored, taken}

-- the characters that were stored
unfoldable pub stored_in : List Happening → List Stored
stored_in [] = []
stored_in (stored s ∷ hs) = s ∷ stored_in hs
stored_in (taken x ∷ hs) = stored_in hs

-- the n-th since open, counted from 0: the one with n older ones behind it
unfoldable pub nth : {X : Type 0} → List X → ℕ → Option X
nth [] n = None
nth (x ∷ xs) n = cond (length xs == n) (Some x) (nth xs n)

abbrev pub has_parity : Parity → Bool
has_parity Disabled = false
has_parity Even = true
has_parity Odd = true

-- A stored character is that copy of the loaded character c that the cable let through; inverted t: the pair that step t handed out was
-- inverted, and so was the sample of its clock.
pub record Copy (f : Format) (inverted : ℕ → Bool) (c : ℕ) (s : Stored) : Type 0 where
  -- it has L + P samples
  pub all_sampled : length s.steps ≡ samples f
  -- it is cut to its lowest L bits
  pub cut_to_length : s.received.character < 2 ^ width f.length
  -- with exactly those data bits inverted whose sample was
  pub data_inverted_where_sampled : (k : ℕ) → k < width f.length → bit k s.received.character ≡ turned (inverted (slice_index s.steps k)) (bit k c)
  -- under parity RPER is 1 exactly when an odd number of its samples was inverted, without parity 0
  pub rper_tells_odd_inversions : s.received.rper ≡ (has_parity f.parity && odd_among (map inverted s.steps))
  -- RFER is 0
  pub rfer_is_0 : s.received.rfer ≡ false

-- the n-th character stored is a copy of the n-th loaded
abbrev pub StoredIsLoadedInOrder : Format → (ℕ → Bool) → List ℕ → List Happening → Type 0
StoredIsLoadedInOrder f inverted loaded hs = (n : ℕ) (s : Stored) → nth (stored_in hs) n ≡ Some s → (c : ℕ) × (nth loaded n ≡ Some c) × Copy f inverted c s

-- the last character stored has not been taken
abbrev pub one_waits : List Happening → Bool
one_waits [] = false
one_waits (stored s ∷ hs) = true
one_waits (taken x ∷ hs) = false

-- ROVER of a character is 1 exactly when the one stored directly before it was never taken: not before this one was stored, and since takes answer
-- the last one stored, not after it either
unfoldable pub OverrunTellsAnUntakenCharacter : List Happening → Type 0
OverrunTellsAnUntakenCharacter [] = Unit {0}
OverrunTellsAnUntakenCharacter (stored s ∷ hs) = (s.received.rover ≡ one_waits hs) × OverrunTellsAnUntakenCharacter hs
OverrunTellsAnUntakenCharacter (taken x ∷ hs) = OverrunTellsAnUntakenCharacter hs

-- x is the last one stored, with its flags, and was not taken before
abbrev pub Waits : Received → List Happening → Type 0
Waits x [] = ⊥
Waits x (stored s ∷ hs) = x ≡ s.received
Waits x (taken y ∷ hs) = ⊥

-- an accepted take answered the last one stored, and none was answered twice
unfoldable pub TakeAnswersTheLastStoredOnce : List Happening → Type 0
TakeAnswersTheLastStoredOnce [] = Unit {0}
TakeAnswersTheLastStoredOnce (stored s ∷ hs) = TakeAnswersTheLastStoredOnce hs
TakeAnswersTheLastStoredOnce (taken x ∷ hs) = Waits x hs × TakeAnswersTheLastStoredOnce hs
