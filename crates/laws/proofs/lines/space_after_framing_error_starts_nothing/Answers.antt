use Rattle.std.proofs.Common.{ap}
use Rattle.sections.specs.declared.receiver.Receiver.{Receiver}
use Rattle.laws.proofs.ReceiverLaw.{Low, stores_space, stays_low, starts_again}
use Rattle.laws.proofs.lines.space_after_framing_error_starts_nothing.Goals as goal

pub returns : goal.returns
returns c control rate r f left held state out =
    let e = stores_space control rate r f left held state out in
    let first : Low _ = record { idle = ap (λ (x : Receiver). x.state) e; low = ap (λ (x : Receiver). x.seen) e } in (
      ap (λ (x : Receiver). x.rfer) e,
      λ hs c₁ r₁ c₂ r₂. let l = stays_low hs _ first in (l.idle, l.low, starts_again c₁ r₁ c₂ r₂ _ l),
    )
