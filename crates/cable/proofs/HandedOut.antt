-- What a channel hands out, step by step. Assumes nothing.
use Rattle.std.proofs.Common.{◌≡◌, ℕ, zero, suc, ◌-◌, ◌<◌, ◌≤◌, Bool, false, cond, eqb, List, [], ◌∷◌, ◌++◌, length, get_or, sym, refl, ap, ◌∙◌, inl, inr, append_assoc, arith}
use lib.Dec.{eqb-zero-suc, eqb-suc-zero, eqb-suc-suc}
use Rattle.std.proofs.lemmas.List.{length_push, get_or_append_left, get_or-append_right}
use Rattle.std.proofs.lemmas.Bool.Decides.{nat_tests}
use Rattle.std.proofs.lemmas.Bool.{cases_lt, cond_both}
use Rattle.cable.specs.Channels.{Pair, Flip, Channel, invert_at, due, struck, remaining, front, behind, entered, handed, stepped, LawfulFlips, LawfulChannel}
use Rattle.cable.proofs.Turned.{turned_turned, turned_swap}
use Rattle.cable.specs.Passing.{turned, odd_at, passed, HandsOutWhatEntered}

-- a pair with its data level turned over if b holds
abbrev turn : Bool → Pair → Pair
turn b p = (turned b p.0, p.1)

length_invert_at : (n : ℕ) (ps : List Pair) → length (invert_at n ps) ≡ length ps
unfolding invert_at
length_invert_at n [] = refl
length_invert_at zero (p ∷ ps) = refl
length_invert_at (suc n) (p ∷ ps) = ap suc (length_invert_at n ps)

getD_invert_at : (n : ℕ) (ps : List Pair) (j : ℕ) (d : Pair) → j < length ps → get_or (invert_at n ps) j d ≡ turn (eqb n j) (get_or ps j d)
unfolding invert_at
getD_invert_at n [] j d h = absurd (omega arith)
getD_invert_at zero (p ∷ ps) zero d h = refl
getD_invert_at zero (p ∷ ps) (suc j) d h = rw eqb-zero-suc
getD_invert_at (suc n) (p ∷ ps) zero d h = rw eqb-suc-zero
getD_invert_at (suc n) (p ∷ ps) (suc j) d h = rw eqb-suc-suc (getD_invert_at n ps j d (omega arith))

length_struck : (fs : List Flip) (ps : List Pair) → length (struck fs ps) ≡ length ps
unfolding struck
length_struck [] ps = refl
length_struck (f ∷ fs) ps = length_struck fs (cond (due f) (invert_at f.place ps) ps) ∙ cond_both (due f) (invert_at f.place ps) ps (λ x. length x ≡ length ps) (λ _. length_invert_at f.place ps) (λ _. refl)

-- an odd number of the flips that are not due have this position
unfoldable odd_left : List Flip → ℕ → Bool
odd_left [] j = false
odd_left (f ∷ fs) j = cond (due f) (odd_left fs j) (turned (eqb f.position j) (odd_left fs j))

-- what the flips that are due have done to a pair, and what the others are still to do, make what all were to do
struck_pair : (fs : List Flip) (ps : List Pair) (j : ℕ) (d : Pair) → j < length ps → turn (odd_left fs j) (get_or (struck fs ps) j d) ≡ turn (odd_at fs j) (get_or ps j d)
unfolding struck odd_left odd_at
struck_pair [] ps j d h = refl
struck_pair (f ∷ fs) ps j d h =
    let struck_first = struck_pair fs (invert_at f.place ps) j d (omega (arith, length_invert_at f.place ps)) in
    let struck_not = struck_pair fs ps j d h in
    grind (arith, nat_tests, getD_invert_at f.place ps j d h, turned_swap, turned_turned)

-- none that is not due has position 0
odd_left_zero : (n : ℕ) (fs : List Flip) → LawfulFlips n fs → odd_left fs 0 ≡ false
unfolding odd_left LawfulFlips
odd_left_zero n [] h = refl
odd_left_zero n (f ∷ fs) h = grind (arith, nat_tests, odd_left_zero n fs h.2)

-- the others are one nearer after the step
odd_left_suc : (n : ℕ) (fs : List Flip) (j : ℕ) → LawfulFlips n fs → odd_left fs (suc j) ≡ odd_at (remaining fs) j
unfolding odd_left remaining odd_at LawfulFlips
odd_left_suc n [] j h = refl
odd_left_suc n (f ∷ fs) j h = grind (arith, nat_tests, odd_left_suc n fs j h.2)

-- none is due past the back of the list
odd_left_far : (n : ℕ) (fs : List Flip) (j : ℕ) → LawfulFlips n fs → n < j → odd_left fs j ≡ odd_at fs j
unfolding odd_left odd_at LawfulFlips
odd_left_far n [] j h l = refl
odd_left_far n (f ∷ fs) j h l = grind (arith, nat_tests, odd_left_far n fs j h.2 l)

pub lawful_remaining : (n : ℕ) (fs : List Flip) → LawfulFlips n fs → LawfulFlips n (remaining fs)
unfolding remaining LawfulFlips
lawful_remaining n [] h = tt
lawful_remaining n (f ∷ fs) h = grind (arith, nat_tests, lawful_remaining n fs h.2)

length_behind : (ps : List Pair) (n : ℕ) → length ps ≡ suc n → length (behind ps) ≡ n
length_behind [] n h = absurd (omega arith)
length_behind (p ∷ ps) n h = omega arith

front_is : (d e : Pair) (ps : List Pair) → 0 < length ps → front d ps ≡ get_or ps 0 e
front_is d e [] h = absurd (omega arith)
front_is d e (p ∷ ps) h = refl

behind_is : (ps : List Pair) (j : ℕ) (d : Pair) → get_or (behind ps) j d ≡ get_or ps (suc j) d
behind_is [] j d = refl
behind_is (p ∷ ps) j d = refl

module _ (c : Channel) (p : Pair) (law : LawfulChannel c) where
  long : length (entered c p) ≡ suc (length c.waiting)
  long = rw length_struck (omega (arith, length_push c.waiting p))

  -- a step leaves as many pairs as there were, and a lawful channel
  pub length_stepped : length (stepped c p).waiting ≡ length c.waiting
  unfolding stepped
  length_stepped = length_behind (entered c p) (length c.waiting) long

  pub lawful_stepped : LawfulChannel (stepped c p)
  unfolding stepped
  lawful_stepped = rw (length_behind (entered c p) (length c.waiting) long) (lawful_remaining (length c.waiting) c.flips law)

  -- what the flips that are due have done to a pair up to the entering one, and the others are still to do, whatever enters after it
  met : (ps : List Pair) (j : ℕ) (d : Pair) → j ≤ length c.waiting → turn (odd_left c.flips j) (get_or (entered c p) j d) ≡ turn (odd_at c.flips j) (get_or (c.waiting ++ p ∷ ps) j d)
  met ps j d h =
      let inside : j < length (c.waiting ++ p ∷ []) = omega (arith, length_push c.waiting p) in
      struck_pair c.flips (c.waiting ++ p ∷ []) j d inside
      ∙ ap (turn (odd_at c.flips j)) (sym (get_or_append_left (c.waiting ++ p ∷ []) ps d j inside) ∙ ap (λ l. get_or l j d) (append_assoc c.waiting (p ∷ []) ps))

  -- the pair handed out now
  now_out : (ps : List Pair) (d : Pair) → handed c p ≡ turn (odd_at c.flips 0) (get_or (c.waiting ++ p ∷ ps) 0 d)
  unfolding handed
  now_out ps d =
      let first = front_is p d (entered c p) (omega (arith, long)) in
      let none = odd_left_zero (length c.waiting) c.flips law in
      let m = met ps 0 d (omega arith) in
      grind arith

  -- a pair that is handed out later
  later_out : (ps : List Pair) (t : ℕ) (d : Pair) → turn (odd_at (stepped c p).flips t) (get_or ((stepped c p).waiting ++ ps) t d) ≡ turn (odd_at c.flips (suc t)) (get_or (c.waiting ++ p ∷ ps) (suc t) d)
  unfolding stepped
  later_out ps t d =
      let left : length (behind (entered c p)) ≡ length c.waiting = length_behind (entered c p) (length c.waiting) long in
      let next = odd_left_suc (length c.waiting) c.flips t law in
      elim (cases_lt t (length c.waiting)) [
        | inl h ↦
            let a = get_or_append_left (behind (entered c p)) ps d t (omega (arith, left)) in
            let e = behind_is (entered c p) t d in
            let m = met ps (suc t) d (omega arith) in
            cc
        | inr h ↦
            let far = odd_left_far (length c.waiting) c.flips (suc t) law (omega arith) in
            let a = get_or-append_right (behind (entered c p)) ps (length c.waiting) t d left h in
            let b = get_or-append_right c.waiting (p ∷ ps) (length c.waiting) (suc t) d refl (omega arith) in
            let k : suc t - length c.waiting ≡ suc (t - length c.waiting) = omega arith in
            let e : get_or (p ∷ ps) (suc t - length c.waiting) d ≡ get_or ps (t - length c.waiting) d = rw k refl in
            cc
      ]

pub hands_out : HandsOutWhatEntered
unfolding passed
hands_out c law [] t d h = absurd (omega arith)
hands_out c law (p ∷ ps) zero d h = now_out c p law ps d
hands_out c law (p ∷ ps) (suc t) d h = hands_out (stepped c p) (lawful_stepped c p law) ps t d (omega arith) ∙ later_out c p law ps t d
