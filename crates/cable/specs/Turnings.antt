-- How often flips have turned over the pairs of a channel. Assumes nothing.
use Rattle.std.specs.Prelude.{ℕ, zero, suc, ◌%◌, Bool, cond, List, [], ◌∷◌, ◌++◌, length, replicate, ◌==◌, nat_lt}
use Rattle.cable.specs.Channels.{Flip, Channel, due, remaining}

-- What a flip does to the pair at its place (it turns it over) it does to what stands beside that pair in another list: the one at the place is
-- changed, by each flip that is due.
unfoldable pub change_at : {X : Type 0} → (X → X) → ℕ → List X → List X
change_at g n [] = []
change_at g zero (x ∷ xs) = g x ∷ xs
change_at g (suc n) (x ∷ xs) = x ∷ change_at g n xs

unfoldable pub changed_by : {X : Type 0} → (X → X) → List Flip → List X → List X
changed_by g [] xs = xs
changed_by g (f ∷ fs) xs = changed_by g fs (cond (due f) (change_at g f.place xs) xs)

-- the first of a list, and what stands behind it
abbrev pub first_of_list : {X : Type 0} → X → List X → X
first_of_list d [] = d
first_of_list d (x ∷ xs) = x

abbrev pub behind_first : {X : Type 0} → List X → List X
behind_first [] = []
behind_first (x ∷ xs) = xs

-- A count stands beside each waiting pair, and goes through the cable with it: an entering pair has been turned over by no flip, and a flip that
-- turns a pair over adds one to its count.
abbrev pub counts_entered : List Flip → List ℕ → List ℕ
counts_entered fs ks = changed_by suc fs (ks ++ 0 ∷ [])

-- the count of the pair that step t hands out, where fs are the flips and ks the counts before step 0
unfoldable pub count_handed : List Flip → List ℕ → ℕ → ℕ
count_handed fs ks zero = first_of_list 0 (counts_entered fs ks)
count_handed fs ks (suc t) = count_handed (remaining fs) (behind_first (counts_entered fs ks)) t

-- how many flips have turned over the pair that step t hands out, from now on
abbrev pub turnings : Channel → ℕ → ℕ
turnings c t = count_handed c.flips (replicate (length c.waiting) 0) t

abbrev pub odd : ℕ → Bool
odd n = n % 2 == 1

-- the pair that step t hands out is inverted: an odd number of flips turned it over
abbrev pub is_inverted : Channel → ℕ → Bool
is_inverted c t = odd (turnings c t)

-- a flip arrives when the pair that it turned over is handed out
abbrev pub flip_arrives : Channel → ℕ → Bool
flip_arrives c t = nat_lt 0 (turnings c t)
