-- The calls of a host are a run. Assumes nothing.
use Rattle.std.proofs.Common.{◌≡◌, ℕ, List, [], ◌∷◌, sym, refl, ap, ◌∙◌, arith}
use Rattle.std.proofs.lemmas.Bool.Decides.{nat_tests}
use Rattle.pair.specs.declared.event.Event.{Event}
use Rattle.pair.specs.Runs.{Run, after, run}
use Rattle.pair.specs.HostCalls.{HostCall, load, take, moment, moments, left_by, left_by_all, in_run, all_in_run, HostCallsAreARun}
use Rattle.pair.proofs.Faithful.{run_more}
use Rattle.pair.proofs.Serving.{single_moments}

abbrev Same : HostCall → Run → Type 0
Same h r = (run (in_run h r.bench) r).bench ≡ left_by h r.bench

loads : (e c : ℕ) (r : Run) → Same (load e c) r
unfolding run after
loads e c r = grind (arith, nat_tests)

takes : (e : ℕ) (r : Run) → Same (take e) r
unfolding run after
takes e r = grind (arith, nat_tests)

moment_same : (vs : List Event) (r : Run) → Same (moment vs) r
unfolding run after
moment_same vs r = grind arith

moments_same : (n : ℕ) (r : Run) → Same (moments n) r
unfolding run
moments_same n r = let all = single_moments n r in grind arith

same : (h : HostCall) (r : Run) → Same h r
same (load e c) r = loads e c r
same (take e) r = takes e r
same (moment vs) r = moment_same vs r
same (moments n) r = moments_same n r

pub host_calls : HostCallsAreARun
unfolding all_in_run left_by_all run
host_calls [] r = refl
host_calls (h ∷ hs) r =
    let one = same h r in
    ap (λ (u : Run). u.bench) (run_more (in_run h r.bench) (all_in_run hs (left_by h r.bench)) r)
    ∙ ap (λ m. (run (all_in_run hs m) (run (in_run h r.bench) r)).bench) (sym one)
    ∙ host_calls hs (run (in_run h r.bench) r) ∙ ap (left_by_all hs) one
