-- A pass over a list in place: what holds before the element at i. Assumes nothing.
use Rattle.std.proofs.Common.{◌≡◌, ℕ, ◌+◌, ◌<◌, ◌≤◌, List, [], ◌∷◌, ◌++◌, length, get_or, take, drop, set, sym, ap, ◌∙◌, subst, append_assoc, append-nil, arith, take_all, drop-set-lt}
use Rattle.std.proofs.lemmas.List.{drop_more, drop-drop, drop_all, take_more_set}
use Rattle.moments.specs.Ranks.{Turn, passed, items}

module _ {S X : Type 0} where
  -- s and xs have come from s0 and xs0, as far as i
  pub record Pass (f : S → X → Turn S X) (s0 s : S) (xs0 xs : List X) (i : ℕ) : Type 0 where
    pub state : passed f s (drop i xs0) ≡ passed f s0 xs0
    pub list : take i xs ++ items f s (drop i xs0) ≡ items f s0 xs0
    pub rest : drop i xs ≡ drop i xs0

  pass_more : (f : S → X → Turn S X) (s0 s : S) (xs0 xs : List X) (i : ℕ) (d : X) → i < length xs → Pass f s0 s xs0 xs i
      → Pass f s0 (f s (get_or xs i d)).state xs0 (set xs i (f s (get_or xs i d)).item) (i + 1)
  pass_more f s0 s xs0 xs i d h p =
      let x = get_or xs i d in
      let y = (f s x).item in
      let tail : drop (i + 1) xs ≡ drop (i + 1) xs0 = sym (drop-drop 1 i xs) ∙ ap (drop 1) p.rest ∙ drop-drop 1 i xs0 in
      let split : drop i xs0 ≡ x ∷ drop (i + 1) xs0 = sym p.rest ∙ drop_more xs i d h ∙ ap (λ ys. x ∷ ys) tail in
      let next : i < i + 1 = omega arith in
      record {
        state = sym (ap (passed f s) split) ∙ p.state;
        list =
            ap (λ ys. ys ++ items f (f s x).state (drop (i + 1) xs0)) (take_more_set xs i y h)
            ∙ append_assoc (take i xs) (y ∷ []) (items f (f s x).state (drop (i + 1) xs0))
            ∙ sym (ap (λ ys. take i xs ++ items f s ys) split)
            ∙ p.list;
        rest = drop-set-lt (i + 1) xs i y next ∙ tail;
      }

  -- one element more, by a turn that is given by an equation
  pub pass_turn : (f : S → X → Turn S X) (s0 s : S) (xs0 xs : List X) (i : ℕ) (d : X) (s1 : S) (x1 : X) → i < length xs → record { state = s1; item = x1 } ≡ f s (get_or xs i d)
      → Pass f s0 s xs0 xs i → Pass f s0 s1 xs0 (set xs i x1) (i + 1)
  pass_turn f s0 s xs0 xs i d s1 x1 h e p =
      subst (λ (t : Turn S X). Pass f s0 t.state xs0 (set xs i t.item) (i + 1)) (sym e) (pass_more f s0 s xs0 xs i d h p)

  pub pass_state : (f : S → X → Turn S X) (s0 s : S) (xs0 xs : List X) (i : ℕ) → length xs0 ≤ i → Pass f s0 s xs0 xs i → s ≡ passed f s0 xs0
  pass_state f s0 s xs0 xs i h p = sym (ap (passed f s) (drop_all i xs0 h)) ∙ p.state

  pub pass_list : (f : S → X → Turn S X) (s0 s : S) (xs0 xs : List X) (i : ℕ) → length xs0 ≤ i → length xs ≤ i → Pass f s0 s xs0 xs i → xs ≡ items f s0 xs0
  pass_list f s0 s xs0 xs i h k p =
      sym (append-nil xs) ∙ ap (λ ys. ys ++ []) (sym (take_all i xs k)) ∙ sym (ap (λ ys. take i xs ++ items f s ys) (drop_all i xs0 h)) ∙ p.list
