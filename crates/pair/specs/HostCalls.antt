-- Calls as a host makes them, with numbers as they come, and the run that they are. Assumes nothing.
use Rattle.std.specs.Prelude.{◌≡◌, ℕ, cond, List, [], ◌∷◌, ◌++◌, replicate, is_ok, Some, None, Option}
use Rattle.faults.specs.declared.End.{End}
use Rattle.pair.specs.declared.event.Event.{Event}
use Rattle.pair.specs.Bench.{Bench, end_of}
use Rattle.pair.specs.Calls.{load_reply, load_done, take_reply, take_done, moment_reply, moment_done, moments_reply, moments_done}
use Rattle.pair.specs.Runs.{Call, Run, run}
use Rattle.pair.specs.Runs as runs

pub data HostCall : Type 0 where
  load : ℕ → ℕ → HostCall
  take : ℕ → HostCall
  moment : List Event → HostCall
  moments : ℕ → HostCall

-- what a call leaves of the bench, accepted or refused
abbrev pub left_by : HostCall → Bench → Bench
left_by (load e c) m = load_done e c m
left_by (take e) m = take_done e m
left_by (moment vs) m = moment_done vs m
left_by (moments n) m = moments_done n m

unfoldable pub left_by_all : List HostCall → Bench → Bench
left_by_all [] m = m
left_by_all (h ∷ hs) m = left_by_all hs (left_by h m)

abbrev pub at_its_end : Option End → (End → Call) → List Call
at_its_end (Some e) f = f e ∷ []
at_its_end None f = []

-- the same call in a run: n moments are n single ones, and a refused call is none
abbrev pub in_run : HostCall → Bench → List Call
in_run (load e c) m = cond (is_ok (load_reply e c m)) (at_its_end (end_of e) (λ x. runs.load x c)) []
in_run (take e) m = cond (is_ok (take_reply e m)) (at_its_end (end_of e) runs.take) []
in_run (moment vs) m = cond (is_ok (moment_reply vs m)) (runs.moment vs ∷ []) []
in_run (moments n) m = cond (is_ok (moments_reply n m)) (replicate n (runs.moment [])) []

unfoldable pub all_in_run : List HostCall → Bench → List Call
all_in_run [] m = []
all_in_run (h ∷ hs) m = in_run h m ++ all_in_run hs (left_by h m)

-- Whatever loads, takes, moments and n moments a host makes, they leave the bench that a run leaves: so the law, which speaks of runs, speaks of
-- all of them.
abbrev pub HostCallsAreARun : Type 0
HostCallsAreARun = (hs : List HostCall) (r : Run) → (run (all_in_run hs r.bench) r).bench ≡ left_by_all hs r.bench
