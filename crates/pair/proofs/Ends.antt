-- What settings, allowed writes and clocks leave of a chip. Assumes nothing.
use Rattle.std.proofs.Common.{◌≡◌, ℕ, Bool, true, false, cond, not, ◌&&◌, List, [], ◌∷◌, refl, ap, ◌∙◌, arith}
use Rattle.std.proofs.lemmas.Bool.Decides.{nat_tests}
use Rattle.faults.specs.declared.End.{End}
use Rattle.timing.specs.declared.counts.PhiCount.{PhiCount}
use Rattle.timing.specs.Counts.{phi}
use Rattle.sections.specs.declared.receiver.Receiver.{Receiver}
use Rattle.sections.specs.declared.transmitter.Transmitter.{Transmitter}
use Rattle.sections.specs.Receive.{listen}
use Rattle.sections.specs.Transmit.{send, xsre}
use Rattle.acc.specs.declared.chip.Acc.{Acc}
use Rattle.acc.specs.declared.chip.Modes.{Modes}
use Rattle.acc.specs.declared.chip.Registers.{Registers}
use Rattle.acc.specs.Calls.{dsr_set}
use Rattle.acc.specs.Clock.{fires, begun_clock, divided, compared, timed, listened, transmitted, serve_of, rts_ended, without_rts, clock_of}
use Rattle.acc.specs.Outputs.{write_of}
use Rattle.acc.specs.State.{with_lines}
use Rattle.pair.specs.declared.event.Event.{Event}
use Rattle.pair.specs.Moment.{is_write, is_at, dsr_at, write_at, level_of, set_all, write_all}
use Rattle.pair.specs.Law.{bit_allowed, q_at}
use Rattle.pair.proofs.Conditions.{WritesAllowedBits}
use Rattle.pair.proofs.Link.{due, advanced}

-- the parts of a chip that the passage of characters rests on
pub record Core : Type 0 where
  pub registers : Registers
  pub modes : Modes
  pub transmitter : Transmitter
  pub receiver : Receiver
  pub divider : PhiCount

abbrev pub core : Acc → Core
core e = record { registers = e.registers; modes = e.modes; transmitter = e.transmitter; receiver = e.receiver; divider = e.divider }

-- neither test mode nor break
abbrev pub normal : Modes
normal = record { tstmd = false; brkon = false }

-- what no setting of DSR changes
pub kept_setting : {A : Type 0} (look : Acc → A) → ((v : Bool) (x : Acc) → look (dsr_set v x) ≡ look x) → (e : End) (vs : List Event) (x : Acc) → look (set_all e vs x) ≡ look x
unfolding set_all
kept_setting look k e [] x = refl
kept_setting look k e (v ∷ vs) x =
    let one = k (level_of v) x in
    let rest = kept_setting look k e vs (cond (dsr_at e v) (dsr_set (level_of v) x) x) in
    grind arith

pub set_core : (e : End) (vs : List Event) (x : Acc) → core (set_all e vs x) ≡ core x
set_core = kept_setting core (λ v x. refl)

pub set_rts : (e : End) (vs : List Event) (x : Acc) → (set_all e vs x).lines.rts ≡ x.lines.rts
set_rts = kept_setting (λ x. x.lines.rts) (λ v x. refl)

-- what an allowed write keeps, all of them keep
kept_writing : (P : Acc → Type 0) → ((a : ℕ) (v : Bool) (x : Acc) → bit_allowed a ≡ true → P x → P (write_of a v x)) → (e : End) (vs : List Event) (x : Acc) → WritesAllowedBits vs → P x → P (write_all e vs x)
unfolding write_all WritesAllowedBits
kept_writing P k e [] x m p = p
kept_writing P k e (v ∷ vs) x m p = kept_writing P k e vs (cond (write_at e v) (write_of v.address (level_of v) x) x) m.1 (by (is_write v) refl (is_at e v))
  where
    by : (b : Bool) → is_write v ≡ b → (c : Bool) → P (cond (b && c) (write_of v.address (level_of v) x) x)
    by true t true = k v.address (level_of v) x (m.0 t) p
    by true t false = p
    by false t c = p

allowed_core : (x : Acc) (v : Bool) (a : ℕ) → bit_allowed a ≡ true → core (write_of a v x) ≡ core x
unfolding write_of
allowed_core x v a h = grind (arith, nat_tests)

pub write_core : (e : End) (vs : List Event) (x : Acc) → WritesAllowedBits vs → core (write_all e vs x) ≡ core x
write_core e vs x m = kept_writing (λ y. core y ≡ core x) (λ a v y h p. allowed_core y v a h ∙ p) e vs x m refl

allowed_rts : (x : Acc) (v : Bool) (a : ℕ) → bit_allowed a ≡ true → x.lines.rts ≡ true → (write_of a v x).lines.rts ≡ true
unfolding write_of
allowed_rts x v a h r = grind (arith, nat_tests)

-- RTS once active stays so
pub write_rts : (e : End) (vs : List Event) (x : Acc) → WritesAllowedBits vs → x.lines.rts ≡ true → (write_all e vs x).lines.rts ≡ true
write_rts e vs x m h = kept_writing (λ y. y.lines.rts ≡ true) (λ a v y k p. allowed_rts y v a k p) e vs x m h

-- one φ clock of these parts; go: RTS and CTS are active
abbrev pub core_clock : Registers → Bool → Bool → Core → Core
core_clock g go rin k = record {
  registers = g;
  modes = normal;
  transmitter = cond (due (q_at g) k.divider.0) (send g.control g.transmit_rate false go k.transmitter) k.transmitter;
  receiver = cond (due (q_at g) k.divider.0) (listen g.control g.receive_rate rin k.receiver) k.receiver;
  divider = phi (advanced (q_at g) k.divider.0);
}

-- the same with whatever modes stand
abbrev pub full_clock : Bool → Bool → Bool → Core → Core
full_clock rts rin cts k = record {
  registers = k.registers;
  modes = k.modes;
  transmitter = cond (due (q_at k.registers) k.divider.0) (send k.registers.control k.registers.transmit_rate k.modes.brkon (rts && cond k.modes.tstmd rts cts) k.transmitter) k.transmitter;
  receiver = cond (due (q_at k.registers) k.divider.0) (listen k.registers.control k.registers.receive_rate (cond k.modes.tstmd k.transmitter.xout rin) k.receiver) k.receiver;
  divider = phi (advanced (q_at k.registers) k.divider.0);
}

-- what the fall of RTS keeps
kept_ending : {A : Type 0} (look : Acc → A) → ((x : Acc) → look (with_lines (without_rts x.lines) x) ≡ look x) → (x : Acc) → look (rts_ended x) ≡ look x
kept_ending look k x = by (not x.lines.rtson && (xsre x.transmitter && (x.transmitter.xbre && not x.modes.brkon)))
  where
    by : (b : Bool) → look (cond b (with_lines (without_rts x.lines) x) x) ≡ look x
    by true = k x
    by false = refl

pub clock_full : (rin cts : Bool) (x : Acc) → core (clock_of rin cts x) ≡ full_clock x.lines.rts rin cts (core x)
unfolding clock_of serve_of
clock_full rin cts x =
    let ended = kept_ending core (λ z. refl) (transmitted (listened (timed (compared (divided (begun_clock rin cts x)))))) in
    grind arith

abbrev as_if : Registers → Modes → Core → Core
as_if g m k = record { registers = g; modes = m; transmitter = k.transmitter; receiver = k.receiver; divider = k.divider }

-- x was set to y before the clock
pub clock_core : (g : Registers) (x y : Acc) (rin cts : Bool) → core y ≡ core x → x.registers ≡ g → x.modes ≡ normal → core (clock_of rin cts y) ≡ core_clock g (y.lines.rts && cts) rin (core x)
clock_core g x y rin cts e r m =
    clock_full rin cts y ∙ ap (full_clock y.lines.rts rin cts) e
    ∙ ap (λ a. full_clock y.lines.rts rin cts (as_if a x.modes (core x))) r ∙ ap (λ b. full_clock y.lines.rts rin cts (as_if g b (core x))) m

-- CTS as the clock took it
pub clock_cts : (rin cts : Bool) (x : Acc) → x.modes ≡ normal → (clock_of rin cts x).lines.cts ≡ cts
unfolding clock_of serve_of
clock_cts rin cts x m =
    let ended = kept_ending (λ z. z.lines.cts) (λ z. refl) (transmitted (listened (timed (compared (divided (begun_clock rin cts x)))))) in
    grind arith

-- RTS falls at internal clocks alone
pub clock_rts : (rin cts : Bool) (x : Acc) → fires x ≡ false → (clock_of rin cts x).lines.rts ≡ x.lines.rts
unfolding clock_of
clock_rts rin cts x f = grind arith
