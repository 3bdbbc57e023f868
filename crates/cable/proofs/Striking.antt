-- Flips at place 0 for rising step numbers: one step. Assumes nothing.
use Rattle.std.proofs.Common.{◌≡◌, ℕ, ◌+◌, ◌-◌, ◌<◌, true, cond, not, eqb, List, [], ◌∷◌, length, get_or, take, drop, refl, arith}
use mathlib.Core.Bool.{beq}
use Rattle.std.proofs.lemmas.List.{take_rest}
use Rattle.std.proofs.lemmas.Bool.Decides.{nat_tests}
use Rattle.cable.specs.Channels.{Pair, invert_at, struck, remaining, handed, stepped}
use Rattle.cable.specs.Rising.{rising}
use Rattle.cable.specs.Disturb.{flips_after, flipped}

-- where each number is above e, none is due
quiet : (e m : ℕ) (ps : List ℕ) (xs : List Pair) → e < m → rising m ps ≡ true → struck (flips_after e ps) xs ≡ xs
unfolding struck
quiet e m [] xs l r = refl
quiet e m (p ∷ ps) xs l r = grind (arith, nat_tests, quiet e (p + 1) ps xs)

nearer_all : (e m : ℕ) (ps : List ℕ) → e < m → rising m ps ≡ true → remaining (flips_after e ps) ≡ flips_after (e + 1) ps
unfolding remaining
nearer_all e m [] l r = refl
nearer_all e m (p ∷ ps) l r = grind (arith, nat_tests, nearer_all e (p + 1) ps)

-- what stands behind the first, as a pattern `[_, rest @ ..]` gives it
abbrev pub rest : List ℕ → List ℕ
rest ps = take (length ps - 1) (drop 1 ps)

-- where a number is left, the first of them says what is handed out and which are left then
pub strike_hands : (e : ℕ) (ps : List ℕ) (x : Pair) → 0 < length ps → rising e ps ≡ true → handed (flipped e ps) x ≡ (not (beq x.0 (eqb (get_or ps 0 0) e)), x.1)
unfolding handed struck invert_at
strike_hands e [] x h r = absurd (omega arith)
strike_hands e (p ∷ ps) x h r = grind (arith, nat_tests, quiet e (p + 1) ps)

pub strike_leaves : (e : ℕ) (ps : List ℕ) (x : Pair) → 0 < length ps → rising e ps ≡ true → stepped (flipped e ps) x ≡ flipped (e + 1) (cond (eqb (get_or ps 0 0) e) (rest ps) ps)
unfolding stepped struck remaining invert_at
strike_leaves e [] x h r = absurd (omega arith)
strike_leaves e (p ∷ ps) x h r = let all = take_rest (p ∷ ps) 1 in grind (arith, nat_tests, quiet e (p + 1) ps, nearer_all e (p + 1) ps)

pub rises_on : (e : ℕ) (ps : List ℕ) → 0 < length ps → rising e ps ≡ true → (rising e ps ≡ rising e ps) × (rising (e + 1) (cond (eqb (get_or ps 0 0) e) (rest ps) ps) ≡ true)
rises_on e [] h r = absurd (omega arith)
rises_on e (p ∷ ps) h r = let all = take_rest (p ∷ ps) 1 in grind (arith, nat_tests)

-- and where none is left, all stays
pub none_hands : (e : ℕ) (ps : List ℕ) (x : Pair) → length ps ≡ 0 → handed (flipped e ps) x ≡ x
unfolding handed struck
none_hands e [] x h = refl
none_hands e (p ∷ ps) x h = absurd (omega arith)

pub none_leaves : (e : ℕ) (ps : List ℕ) (x : Pair) → length ps ≡ 0 → stepped (flipped e ps) x ≡ flipped e ps
unfolding stepped struck remaining
none_leaves e [] x h = refl
none_leaves e (p ∷ ps) x h = absurd (omega arith)

pub ruleset strikes = (strike_hands, strike_leaves, rises_on, none_hands, none_leaves, nat_tests)
