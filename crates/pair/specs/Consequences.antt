-- What follows from the law of faithful transmission for a planner. Assumes nothing.
use Rattle.std.specs.Prelude.{◌≡◌, ℕ, ◌+◌, ◌<◌, ◌≤◌, Bool, true, false, not, ◌&&◌, List, [], ◌∷◌, ◌++◌, length, Some}
use Rattle.faults.specs.declared.End.{End}
use Rattle.cable.specs.Channels.{is_clear}
use Rattle.cable.specs.Turnings.{is_inverted}
use Rattle.sections.specs.Transmit.{xsre}
use Rattle.acc.specs.declared.chip.Received.{Received}
use Rattle.pair.specs.Bench.{Bench, chip}
use Rattle.pair.specs.Calls.{Opening, opened}
use Rattle.pair.specs.Runs.{Happening, stored, taken, Call, history, start_of, run}
use Rattle.pair.specs.Copies.{stored_in, nth, one_waits, Copy}
use Rattle.pair.specs.Law.{opposite, channel_to, sent_format, calls_allowed, IsStored, LawFrom}

-- the characters that takes answered, newest first
unfoldable pub taken_in : List Happening → List Received
taken_in [] = []
taken_in (stored s ∷ hs) = taken_in hs
taken_in (taken x ∷ hs) = x ∷ taken_in hs

-- every character was taken before the next was stored
unfoldable pub each_taken_before_the_next : List Happening → Bool
each_taken_before_the_next [] = true
each_taken_before_the_next (stored s ∷ hs) = not (one_waits hs) && each_taken_before_the_next hs
each_taken_before_the_next (taken x ∷ hs) = each_taken_before_the_next hs

-- x is a copy of the n-th character loaded opposite to end e, and shows no overrun
pub record TakesTheNth (o : Bench) (e : End) (loaded : List ℕ) (n : ℕ) (x : Received) : Type 0 where
  pub character : ℕ
  pub steps : List ℕ
  pub loaded_there : nth loaded n ≡ Some character
  pub copy : Copy (sent_format (opposite e) o) (is_inverted (channel_to e o)) character (record { received = x; steps = steps })
  pub no_overrun : x.rover ≡ false

-- Nothing is lost: the n-th take answers a copy of the n-th character loaded, and of those stored at most the last has not been taken.
pub record NothingIsLost (o : Bench) (e : End) (loaded : List ℕ) (hs : List Happening) : Type 0 where
  pub taken_in_order : (n : ℕ) (x : Received) → nth (taken_in hs) n ≡ Some x → TakesTheNth o e loaded n x
  pub all_but_the_last_taken : length (stored_in hs) ≤ length (taken_in hs) + 1

-- so it is, at either end of a bench just opened, if every character is taken before the next is stored
abbrev pub LosesNothingTakenInTime : Bench → Type 0
LosesNothingTakenInTime b =
    (e : End) (cs : List Call) → calls_allowed b cs (start_of b) ≡ true → each_taken_before_the_next (history e (run cs (start_of b))).happened ≡ true →
    NothingIsLost b e (history (opposite e) (run cs (start_of b))).loaded (history e (run cs (start_of b))).happened

-- A label, which is a number of characters loaded one after the other, arrives whole, whenever they were loaded: once XSRE and XBRE are 1, so that all has been sent, and
-- more than D φ clocks have passed since, every character that was loaded is stored, as the one that it is among those loaded.
abbrev pub DeliversLabelsWhole : Bench → Type 0
DeliversLabelsWhole b =
    (e : End) (cs ds : List Call) → calls_allowed b (cs ++ ds) (start_of b) ≡ true →
    xsre (chip (opposite e) (run cs (start_of b)).bench).transmitter ≡ true → (chip (opposite e) (run cs (start_of b)).bench).transmitter.xbre ≡ true →
    (run cs (start_of b)).time + length (channel_to e b).waiting < (run (cs ++ ds) (start_of b)).time →
    (n c : ℕ) → nth (history (opposite e) (run cs (start_of b))).loaded n ≡ Some c → IsStored b e n c (run (cs ++ ds) (start_of b))

abbrev pub NothingIsLostWhenTakenInTime : Type 0
NothingIsLostWhenTakenInTime = (o : Opening) (m : Bench) → is_clear m.channels ≡ true → LosesNothingTakenInTime (opened o m)

abbrev pub ALabelArrivesWhole : Type 0
ALabelArrivesWhole = (o : Opening) (m : Bench) → is_clear m.channels ≡ true → DeliversLabelsWhole (opened o m)

-- all that is promised of the runs of a bench that an open left
pub record Transmits (o : Opening) (b : Bench) : Type 0 where
  pub faithful : LawFrom o b
  pub nothing_lost : LosesNothingTakenInTime b
  pub labels_whole : DeliversLabelsWhole b
