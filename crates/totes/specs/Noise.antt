-- The steps that a noisy cable inverts. Assumes nothing.
use Rattle.std.specs.Prelude.{ℕ, ◌+◌, ◌-◌, ◌*◌, List, map}
use Rattle.std.specs.List.{range_with_len}

-- where every n-th step is inverted, counted from 0, the first is n - 1, the next 2n - 1 and so on
abbrev pub inverted_step : ℕ → ℕ → ℕ
inverted_step n i = (i + 1) * n - 1

abbrev pub inverted_steps : ℕ → ℕ → List ℕ
inverted_steps n count = map (inverted_step n) (range_with_len 0 count)
