-- Figures that people read. Assumes nothing.
use Rattle.std.specs.Prelude.{ℕ, ◌+◌, ◌-◌, ◌*◌, ◌/◌, ◌%◌, List, ◌++◌, codes, decimal}
use Rattle.sizing.specs.declared.figures.SystemClock.{SystemClock}
use Rattle.sizing.specs.declared.figures.SystemClock.TheVariants.{Mhz3, Mhz4}

-- φ clocks in a microsecond
abbrev pub megahertz : SystemClock → ℕ
megahertz Mhz3 = 3
megahertz Mhz4 = 4

-- φ clocks in a second
abbrev pub second : SystemClock → ℕ
second c = 1000000 * megahertz c

-- times a second, in hundredths, to the nearest one
abbrev pub rate_at : SystemClock → ℕ → ℕ
rate_at c each = (100 * second c + each / 2) / each

-- microseconds, in hundredths, rounded up
abbrev pub microseconds_at : SystemClock → ℕ → ℕ
microseconds_at c clocks = (100 * clocks + megahertz c - 1) / megahertz c

-- whole times a minute
abbrev pub per_minute_at : SystemClock → ℕ → ℕ
per_minute_at c each = 60 * second c / each

-- what stands behind the point of a number of hundredths
abbrev pub decimals : ℕ → ℕ
decimals n = n % 100

-- a number of hundredths with two decimals
abbrev pub point_two : ℕ → List ℕ
point_two n = decimal (n / 100) ++ (codes "." ++ (decimal (n / 10 % 10) ++ decimal (n % 10)))
