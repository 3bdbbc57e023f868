-- A receiver after a stop sample of space, while the line stays low. Assumes nothing.
use Rattle.std.proofs.Common.{◌≡◌, ℕ, Bool, true, false, cond, ltb, List, [], ◌∷◌, le_refl, le-ltb}
use Rattle.timing.specs.declared.counts.InternalCount.{InternalCount}
use Rattle.timing.specs.declared.registers.Format.{Format}
use Rattle.timing.specs.Registers.{samples}
use Rattle.sections.specs.declared.receiver.Receiver.{Receiver}
use Rattle.sections.specs.declared.receiver.Receiving.TheVariants.{Idle, Half, Character}
use Rattle.sections.specs.Receive.{listen, in_state, stored, released}
use Rattle.sections.specs.Transmit.{runs_out, countdown}
use Rattle.laws.specs.Runs.{Hearing, low_after}

-- a stop sample of space stores
pub stores_space : (control rate : ℕ) (r : Receiver) (f : Format) (left : InternalCount) (held : ℕ) → r.state ≡ Character f left held (samples f) → runs_out left ≡ true → listen control rate false r ≡ stored f held false (in_state r.state false r)
unfolding listen
stores_space control rate r f left held state out =
    let full : ltb (samples f) (samples f) ≡ false = le-ltb (samples f) (samples f) (le_refl (samples f)) in
    rw (state, out, full)

-- idle having seen space, it stays so
pub record Low (r : Receiver) : Type 0 where
  pub idle : r.state ≡ Idle
  pub low : r.seen ≡ false

stays : (control rate : ℕ) (r : Receiver) → Low r → Low (listen control rate false r)
unfolding listen
stays control rate r l =
    let idle = l.idle in
    let low = l.low in
    record { idle = rw (idle, low); low = rw idle }

seen : (b : Bool) (r : Receiver) → Low r → Low (cond b (released r) r)
seen true r l = record { idle = l.idle; low = l.low }
seen false r l = l

pub stays_low : (hs : List Hearing) (r : Receiver) → Low r → Low (low_after hs r)
unfolding low_after
stays_low [] r l = l
stays_low (h ∷ hs) r l = stays_low hs _ (stays h.control h.rate _ (seen h.seen_before r l))

-- after mark a space starts a countdown
pub starts_again : (c₁ r₁ c₂ r₂ : ℕ) (r : Receiver) → Low r → (listen c₂ r₂ false (listen c₁ r₁ true r)).state ≡ Half (countdown r₂ 1)
unfolding listen
starts_again c₁ r₁ c₂ r₂ r l =
    let idle = l.idle in
    let low = l.low in
    rw (idle, low)
