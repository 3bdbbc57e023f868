-- Worked examples that the definitions have to meet, as one theorem. Assumes nothing.
use Rattle.std.specs.Prelude.{◌≡◌, ℕ, suc, Bool, true, false}
use Rattle.timing.specs.declared.registers.CharacterLength.TheVariants.{Seven}
use Rattle.timing.specs.declared.registers.Parity.{Parity}
use Rattle.timing.specs.declared.registers.Parity.TheVariants.{Disabled, Even, Odd}
use Rattle.timing.specs.Counts.{q}
use Rattle.timing.specs.Registers.{width, half_bits, control_of, half_count}
use Rattle.timing.specs.Ones.{parity_bit}
use Rattle.timing.specs.Calls.{deadline_of}
use Rattle.sections.specs.Time.{timer_at}
use Rattle.laws.specs.Runs.{timer_after, filled}

-- the half-bit counts of four rates
abbrev pub HalfBitRows : Type 0
HalfBitRows = (half_count 1592 ≡ 4544) × (half_count 0 ≡ 1024) × (half_count 1024 ≡ 8192) × (half_count 2047 ≡ 8184)

-- a control register has this L, this parity, this stop length in half-bits and this q
pub record Decodes (c bits : ℕ) (p : Parity) (stop divisor : ℕ) : Type 0 where
  pub length : width (control_of c).format.length ≡ bits
  pub parity : (control_of c).format.parity ≡ p
  pub stop_length : half_bits (control_of c).stop ≡ stop
  pub divider : q (control_of c).divider ≡ divisor

abbrev pub ControlRows : Type 0
ControlRows = Decodes 0 5 Disabled 3 3 × Decodes 162 7 Even 2 3

-- the parity bit behind seven data bits
abbrev pub ParityAtSeven : Parity → ℕ → Bool → Type 0
ParityAtSeven p c b = parity_bit (record { length = Seven; parity = p }) c ≡ b

abbrev pub ParityRows : Type 0
ParityRows = ParityAtSeven Even 65 false × ParityAtSeven Odd 65 true

abbrev pub DeadlineRows : Type 0
DeadlineRows = (deadline_of 131 1 0 ≡ 63) × (deadline_of 171 1024 64 ≡ 688200)

-- an interval's timer elapses at internal clock n + 1 and not before
abbrev pub ElapsesAfter : ℕ → Bool → ℕ → Type 0
ElapsesAfter interval tstmd n =
    ((timer_after n interval tstmd (timer_at interval)).timelp ≡ false) × ((timer_after (suc n) interval tstmd (timer_at interval)).timelp ≡ true)

-- interval 25 elapses at internal clock 1600, in test mode at 50
abbrev pub TimerRows : Type 0
TimerRows = ElapsesAfter 25 false 1599 × ElapsesAfter 25 true 49

-- eleven bits fill a rate register, whatever it held
abbrev pub RegisterRows : Type 0
RegisterRows = (filled 11 0 1592 0 ≡ 1592) × (filled 11 0 417 2047 ≡ 417) × (filled 11 0 1232 417 ≡ 1232)

abbrev pub Rows : Type 0
Rows = HalfBitRows × ControlRows × ParityRows × DeadlineRows × TimerRows × RegisterRows
