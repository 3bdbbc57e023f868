-- What a channel carries: each waiting pair stands for something that was sent, and its data level is what was sent, turned over as often as
-- its count says. Assumes nothing.
use Rattle.std.proofs.Common.{◌≡◌, ℕ, zero, suc, Bool, true, false, cond, not, List, [], ◌∷◌, ◌++◌, length, sym, refl, ap, ◌∙◌, arith}
use Rattle.std.proofs.lemmas.Bool.Decides.{nat_tests}
use Rattle.cable.specs.Channels.{Pair, Flip, Channel, invert_at, due, struck, front, behind, handed, stepped}
use Rattle.cable.specs.Passing.{turned}
use Rattle.cable.specs.Turnings.{change_at, changed_by, first_of_list, behind_first, counts_entered, count_handed, odd}

odd_suc : (n : ℕ) → odd (suc n) ≡ not (odd n)
odd_suc n = grind (arith, nat_tests)

not_turned : (a b : Bool) → not (turned a b) ≡ turned (not a) b
not_turned a b = grind arith

pub data Carries {A : Type 0} (lev : A → Bool) : List Pair → List ℕ → List A → Type 0 where
  none : Carries lev [] [] []
  more : {p : Pair} {k : ℕ} {t : A} {ps : List Pair} {ks : List ℕ} {ts : List A} → p.0 ≡ turned (odd k) (lev t) → Carries lev ps ks ts → Carries lev (p ∷ ps) (k ∷ ks) (t ∷ ts)

module _ {A : Type 0} (lev : A → Bool) where
  -- a flip turns the pair over and adds one to its count
  change_keeps : (n : ℕ) {ps : List Pair} {ks : List ℕ} {ts : List A} → Carries lev ps ks ts → Carries lev (invert_at n ps) (change_at suc n ks) ts
  unfolding invert_at change_at
  change_keeps n none = none
  change_keeps zero (more {p = p} {k = k} {t = t} e c) = more (ap not e ∙ not_turned (odd k) (lev t) ∙ ap (λ b. turned b (lev t)) (sym (odd_suc k))) c
  change_keeps (suc n) (more e c) = more e (change_keeps n c)

  changes_keep : (fs : List Flip) {ps : List Pair} {ks : List ℕ} {ts : List A} → Carries lev ps ks ts → Carries lev (struck fs ps) (changed_by suc fs ks) ts
  unfolding struck changed_by
  changes_keep [] c = c
  changes_keep (f ∷ fs) {ps = ps} {ks = ks} {ts = ts} c = by (due f) (λ qs js d. changes_keep fs {ps = qs} {ks = js} d)
    where
      by : (b : Bool) → ((qs : List Pair) (js : List ℕ) → Carries lev qs js ts → Carries lev (struck fs qs) (changed_by suc fs js) ts) → Carries lev (struck fs (cond b (invert_at f.place ps) ps)) (changed_by suc fs (cond b (change_at suc f.place ks) ks)) ts
      by true ih = ih (invert_at f.place ps) (change_at suc f.place ks) (change_keeps f.place c)
      by false ih = ih ps ks c

  push_keeps : (p : Pair) (t : A) {ps : List Pair} {ks : List ℕ} {ts : List A} → p.0 ≡ lev t → Carries lev ps ks ts → Carries lev (ps ++ p ∷ []) (ks ++ 0 ∷ []) (ts ++ t ∷ [])
  push_keeps p t e none = more e none
  push_keeps p t e (more g c) = more g (push_keeps p t e c)

  front_carried : (p : Pair) (t : A) {ps : List Pair} {ks : List ℕ} {ts : List A} → p.0 ≡ lev t → Carries lev ps ks ts → (front p ps).0 ≡ turned (odd (first_of_list 0 ks)) (lev (first_of_list t ts))
  front_carried p t e none = e
  front_carried p t e (more g c) = g

  behind_carried : {ps : List Pair} {ks : List ℕ} {ts : List A} → Carries lev ps ks ts → Carries lev (behind ps) (behind_first ks) (behind_first ts)
  behind_carried none = none
  behind_carried (more g c) = c

  -- what is sent joins the back of a list, and what arrives leaves its front
  abbrev pub arriving : List A → A → A
  arriving ts t = first_of_list t (ts ++ t ∷ [])

  abbrev pub still_under_way : List A → A → List A
  still_under_way ts t = behind_first (ts ++ t ∷ [])

  -- one step
  pub step_carries : (c : Channel) (ks : List ℕ) (ts : List A) (p : Pair) (t : A) → Carries lev c.waiting ks ts → p.0 ≡ lev t →
      ((handed c p).0 ≡ turned (odd (count_handed c.flips ks 0)) (lev (arriving ts t))) × Carries lev (stepped c p).waiting (behind_first (counts_entered c.flips ks)) (still_under_way ts t)
  unfolding handed stepped count_handed
  step_carries c ks ts p t w e =
      let all = changes_keep c.flips (push_keeps p t e w) in
      (front_carried p t e all, behind_carried all)

  pub carries_length : {ps : List Pair} {ks : List ℕ} {ts : List A} → Carries lev ps ks ts → length ps ≡ length ts
  carries_length none = refl
  carries_length (more e c) = ap suc (carries_length c)
