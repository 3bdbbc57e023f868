-- Counting labels. Assumes nothing.
use Rattle.std.proofs.Common.{◌≡◌, ℕ, zero, suc, ◌+◌, ◌<◌, ◌≤◌, true, cond, ◌==◌, count_by, eqb, ltb, List, [], ◌∷◌, length, get_or, set, is_some, Some, None, Option, sym, refl, ap, ◌∙◌, arith}
use Rattle.std.proofs.lemmas.List.Recursion.{is_count_by}
use Rattle.std.proofs.lemmas.Bool.{lt-ltb, le-ltb, eqb-true}
use Rattle.totes.specs.declared.outcome.Loss.{Loss}
use Rattle.totes.specs.declared.outcome.Fate.{Fate}
use Rattle.totes.specs.declared.outcome.Fate.TheVariants.{Whole, Damaged, Lost}
use Rattle.totes.specs.Outcome.{damaged, one_if, count_fate, loss_told}

one_of_three : (f : Fate) → one_if Whole f + one_if Lost f + one_if Damaged f ≡ 1
one_of_three Whole = refl
one_of_three Damaged = refl
one_of_three Lost = refl

at_most_one : (f g : Fate) → one_if f g ≤ 1
at_most_one Whole g = omega (arith, one_of_three g)
at_most_one Damaged g = omega (arith, one_of_three g)
at_most_one Lost g = omega (arith, one_of_three g)

added : (k n : ℕ) → k ≤ 1 → k + n ≡ cond (k == 1) (1 + n) n
added zero n h = omega arith
added (suc zero) n h = refl
added (suc (suc k)) n h = absurd (omega arith)

-- counting a fate is counting the labels that have it
pub count_fate_is : (f : Fate) (gs : List Fate) → count_fate f gs ≡ count_by (λ g. one_if f g == 1) gs
count_fate_is f gs = is_count_by (count_fate f) (λ g. one_if f g == 1) refl (λ g hs. added (one_if f g) (count_fate f hs) (at_most_one f g)) gs

-- each label has one of the three fates
pub each_once : (fs : List Fate) → count_fate Whole fs + count_fate Lost fs + count_fate Damaged fs ≡ length fs
each_once [] = refl
each_once (f ∷ fs) = omega (arith, one_of_three f, each_once fs)

damaged_not_lost : (f : Fate) → one_if Lost (damaged f) ≡ one_if Lost f
damaged_not_lost Whole = refl
damaged_not_lost Damaged = refl
damaged_not_lost Lost = refl

-- damage loses no label
pub damage_loses_none : (fs : List Fate) (i : ℕ) (d : Fate) → count_fate Lost (set fs i (damaged (get_or fs i d))) ≡ count_fate Lost fs
damage_loses_none [] i d = refl
damage_loses_none (f ∷ fs) zero d = ap (λ n. n + count_fate Lost fs) (damaged_not_lost f)
damage_loses_none (f ∷ fs) (suc i) d = ap (λ n. one_if Lost f + n) (damage_loses_none fs i d)

-- a label that is set to lost is counted
pub set_lost : (fs : List Fate) (i : ℕ) → i < length fs → 0 < count_fate Lost (set fs i Lost)
set_lost [] i h = omega arith
set_lost (f ∷ fs) zero h = omega arith
set_lost (f ∷ fs) (suc i) h = omega (arith, set_lost fs i (omega arith))

told_by_count : (o : Option Loss) (fs gs : List Fate) → count_fate Lost gs ≡ count_fate Lost fs → loss_told o gs ≡ loss_told o fs
told_by_count (Some l) fs gs e = ap (λ n. ltb 0 n) e
told_by_count None fs gs e = ap (λ n. eqb n 0) e

-- after damage the first loss is told as before
pub told_when_damaged : (o : Option Loss) (fs : List Fate) (i : ℕ) (d g : Fate) → g ≡ damaged (get_or fs i d) → loss_told o fs ≡ true → loss_told o (set fs i g) ≡ true
told_when_damaged o fs i d g e h =
    told_by_count o fs (set fs i g) (ap (λ x. count_fate Lost (set fs i x)) e ∙ damage_loses_none fs i d) ∙ h

pub told_when_lost : (fs : List Fate) (i : ℕ) → i < length fs → ltb 0 (count_fate Lost (set fs i Lost)) ≡ true
told_when_lost fs i h = lt-ltb 0 (count_fate Lost (set fs i Lost)) (set_lost fs i h)

-- there is a first loss exactly if a label is lost
pub first_loss_if_lost : (o : Option Loss) (fs : List Fate) (n : ℕ) → n ≡ count_fate Lost fs → loss_told o fs ≡ true → is_some o ≡ ltb 0 n
first_loss_if_lost (Some l) fs n e h = sym (ap (λ m. ltb 0 m) e ∙ h)
first_loss_if_lost None fs n e h = sym (le-ltb 0 n (omega (arith, e, eqb-true (count_fate Lost fs) 0 h)))
