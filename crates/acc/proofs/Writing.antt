-- Bits written upward, one more of n. Assumes nothing.
use Rattle.std.proofs.Common.{◌≡◌, ℕ, suc, ◌+◌, ◌-◌, ◌/◌, ◌%◌, ◌<◌, eqb, ap, ◌∙◌, arith}
use Rattle.acc.specs.declared.chip.Acc.{Acc}
use Rattle.acc.specs.Calls.{bits_written}
use Rattle.acc.specs.Outputs.{write_of}

pub bits_written_step : (n i a v : ℕ) (e : Acc) → i < n → bits_written (n - i) (a + i) v e ≡ bits_written (n - (i + 1)) (a + (i + 1)) (v / 2) (write_of (a + i) (eqb (v % 2) 1) e)
unfolding bits_written
bits_written_step n i a v e h =
    let m : n - i ≡ suc (n - (i + 1)) = omega arith in
    let b : a + i + 1 ≡ a + (i + 1) = omega arith in
    ap (λ m. bits_written m (a + i) v e) m
    ∙ ap (λ b. bits_written (n - (i + 1)) b (v / 2) (write_of (a + i) (eqb (v % 2) 1) e)) b
