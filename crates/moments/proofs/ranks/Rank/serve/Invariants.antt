use Rattle.std.proofs.Common.{◌≡◌, ◌+◌, ◌≤◌, true}
use Rattle.acc.specs.Sound.{sound}
use Rattle.moments.specs.Ranks.{serving, serve_one}
use Rattle.moments.proofs.Pass.{Pass}
use Rattle.moments.proofs.ranks.Rank.serve.Given as goal

abbrev pub invariant-loop-i : goal.invariant-loop-i
invariant-loop-i l =
    (l.n ≤ l.initial.n + l.i)
    × (sound l.initial.chips.a ≡ true → sound l.chips.a ≡ true)
    × (sound l.initial.chips.b ≡ true → sound l.chips.b ≡ true)
    × Pass (serve_one l.self) (serving l.initial.n l.initial.chips.a l.initial.chips.b) (serving l.n l.chips.a l.chips.b) l.initial.events l.events l.i
