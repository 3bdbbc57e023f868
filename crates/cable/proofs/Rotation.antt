-- A list read as a ring: its front, its next turn and its levels. Assumes nothing.
use Rattle.std.proofs.Common.{◌≡◌, ℕ, ◌+◌, ◌<◌, ◌≤◌, true, false, ◌&&◌, List, [], ◌∷◌, ◌++◌, length, get_or, take, drop, set, sym, refl, ap, ◌∙◌, inl, inr, append_assoc, append-nil, arith, get_or-take}
use mathlib.Core.Bool.{and_comm}
use lib.Seq.{take-set-lt}
use Rattle.std.proofs.lemmas.List.{drop-set-lt, take_more_set, take_all, drop_more, drop_all, length-append, length-drop, length-set, length-take, length-take-le, take-replicate, take-append-drop}
use Rattle.std.proofs.lemmas.List.Folds.{list_all-append}
use Rattle.std.proofs.lemmas.List.Recursion.{same_from_clauses}
use Rattle.std.proofs.lemmas.Bool.{cases_lt, lt-ltb, le-ltb}
use Rattle.std.proofs.lemmas.Bool.Decides.{nat_tests}
use Rattle.std.specs.List.{list_all}
use Rattle.cable.specs.declared.line.Line.{Line}
use Rattle.cable.specs.Channels.{Pair, front, behind, handed, stepped, struck, remaining, all_mark}
use Rattle.cable.specs.Delay.{unflipped, rotated, next_place, idle, waiting_in}

-- the ring once its front is gone and p has joined its back
turned : (h : ℕ) (ys : List Pair) (p : Pair) → h < length ys → rotated (next_place h (length ys)) (set ys h p) ≡ (drop (h + 1) ys ++ take h ys) ++ p ∷ []
turned h ys p low =
    elim (cases_lt (h + 1) (length ys)) [
      | inl more ↦
          rw (lt-ltb (h + 1) (length ys) more) (ap (λ zs. zs ++ take (h + 1) (set ys h p)) (drop-set-lt (h + 1) ys h p (omega arith))
          ∙ ap (λ zs. drop (h + 1) ys ++ zs) (take_more_set ys h p low)
          ∙ sym (append_assoc (drop (h + 1) ys) (take h ys) (p ∷ [])))
      | inr last ↦
          rw (le-ltb (h + 1) (length ys) last) (append-nil (set ys h p)
          ∙ sym (take_all (h + 1) (set ys h p) (rw (length-set ys h p) last))
          ∙ take_more_set ys h p low
          ∙ ap (λ zs. (zs ++ take h ys) ++ p ∷ []) (sym (drop_all (h + 1) ys last)))
    ]

pub turn_hands : (h n : ℕ) (xs : List Pair) (p d : Pair) → h < n → n ≤ length xs → get_or xs h d ≡ handed (unflipped (rotated h (take n xs))) p
unfolding handed struck
turn_hands h n xs p d low fits =
    let within : h < length (take n xs) = rw (length-take-le n xs fits) low in
    sym (ap (λ ys. front p ((ys ++ take h (take n xs)) ++ p ∷ [])) (drop_more (take n xs) h d within) ∙ get_or-take n xs h d low)

pub turn_leaves : (h n : ℕ) (xs : List Pair) (p : Pair) → h < n → n ≤ length xs → unflipped (rotated (next_place h n) (take n (set xs h p))) ≡ stepped (unflipped (rotated h (take n xs))) p
unfolding stepped struck remaining
turn_leaves h n xs p low fits =
    let whole = length-take-le n xs fits in
    let within : h < length (take n xs) = rw whole low in
    ap (λ ys. unflipped (rotated (next_place h n) ys)) (take-set-lt n xs h p low)
    ∙ ap (λ m. unflipped (rotated (next_place h m) (set (take n xs) h p))) (sym whole)
    ∙ ap unflipped (turned h (take n xs) p within)
    ∙ sym (ap (λ ys. unflipped (behind ((ys ++ take h (take n xs)) ++ p ∷ []))) (drop_more (take n xs) h p within))

pub length_rotated : (h n : ℕ) (xs : List Pair) → h ≤ n → n ≤ length xs → length (rotated h (take n xs)) ≡ n
length_rotated h n xs low fits = let whole = length-take-le n xs fits in simp (length-append, length-drop, length-take) (omega arith)

-- the same two of a line, whose head stands within it
pub line_hands : (l : Line) (p : Pair) → handed (unflipped (waiting_in l)) p ≡ get_or l.pairs l.head (false, false)
line_hands l p = sym (turn_hands l.head l.len l.pairs p (false, false) l.within (omega arith))

pub line_leaves : (l : Line) (p : Pair) → stepped (unflipped (waiting_in l)) p ≡ unflipped (rotated (next_place l.head l.len) (take l.len (set l.pairs l.head p)))
line_leaves l p = sym (turn_leaves l.head l.len l.pairs p l.within (omega arith))

pub ruleset turns = (line_hands, line_leaves, nat_tests)

-- the first n places of a new ring, read from its first on
pub idle_waits : (n : ℕ) → n ≤ 64 → rotated 0 (take n (idle 64)) ≡ idle n
idle_waits n few = append-nil _ ∙ take-replicate {X = Pair} n 64 (true, false) few

mark_listed : (ps : List Pair) → all_mark ps ≡ list_all (λ p. p.0) ps
unfolding all_mark
mark_listed = same_from_clauses all_mark (list_all (λ p. p.0)) (λ p b. p.0 && b) refl (λ _ _. refl) (λ _ _. refl)

-- the levels of a ring are all mark where those of its list are
pub all_mark-rotated : (h : ℕ) (ps : List Pair) → all_mark (rotated h ps) ≡ list_all (λ p. p.0) ps
all_mark-rotated h ps = mark_listed (rotated h ps) ∙ rw (list_all-append, and_comm, ← list_all-append, take-append-drop)

pub mark_rotated : (h : ℕ) (ps : List Pair) → all_mark (rotated h ps) ≡ all_mark ps
mark_rotated h ps = all_mark-rotated h ps ∙ sym (mark_listed ps)
