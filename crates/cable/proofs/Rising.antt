-- A list rises strictly exactly where each number is below the next. Assumes nothing.
use Rattle.std.proofs.Common.{◌≡◌, ℕ, zero, suc, ◌+◌, ◌<◌, ◌≤◌, Bool, true, false, ltb, List, [], ◌∷◌, length, get_or, sym, refl, add-one, arith}
use Rattle.std.proofs.lemmas.Bool.Decides.{nat_tests}
use Rattle.std.specs.List.{IsAllAdjacentAnswer}
use Rattle.cable.specs.Rising.{rising}

rises_all : (e : ℕ) (xs : List ℕ) → (0 < length xs → e ≤ get_or xs 0 0) → ((k : ℕ) → suc k < length xs → ltb (get_or xs k 0) (get_or xs (suc k) 0) ≡ true) → rising e xs ≡ true
rises_all e [] low up = refl
rises_all e (x ∷ xs) low up =
    let first : e ≤ x = low (omega arith) in
    let rest = rises_all (x + 1) xs (λ h. let next : ltb x (get_or xs 0 0) ≡ true = up 0 (omega arith) in grind (arith, nat_tests)) (λ k h. up (suc k) (omega arith)) in
    grind (arith, nat_tests)

falls_at : (e : ℕ) (xs : List ℕ) (k : ℕ) → suc k < length xs → ltb (get_or xs k 0) (get_or xs (suc k) 0) ≡ false → rising e xs ≡ false
falls_at e [] k h f = absurd (omega arith)
falls_at e (x ∷ []) k h f = absurd (omega arith)
falls_at e (x ∷ y ∷ ys) zero h f = grind (arith, nat_tests)
falls_at e (x ∷ y ∷ ys) (suc k) h f = let rest = falls_at (x + 1) (y ∷ ys) k (omega arith) f in grind (arith, nat_tests)

pub rises : (xs : List ℕ) (r : Bool) → IsAllAdjacentAnswer (λ x y b. b ≡ ltb x y) xs r → r ≡ rising 0 xs
rises xs true h = sym (rises_all 0 xs (λ _. omega arith) (λ k l. rw add-one at (sym (h k 0 (omega arith)))))
rises xs false h = sym (falls_at 0 xs h.0 (omega arith) (rw add-one at (sym (h.2 0))))
