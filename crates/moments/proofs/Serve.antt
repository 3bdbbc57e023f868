-- A pass that serves one rank does what the definitions of a moment say. Assumes nothing.
use Rattle.std.proofs.Common.{◌≡◌, ◌+◌, List, [], ◌∷◌, sym, refl, add-zero, arith}
use Rattle.faults.specs.declared.End.{End}
use Rattle.faults.specs.declared.End.TheVariants as end
use Rattle.acc.specs.declared.chip.Acc.{Acc}
use Rattle.pair.specs.declared.event.Event.{Event}
use Rattle.pair.specs.Moment.{set_all, write_all, how_many, number_each}
use Rattle.moments.specs.declared.ranks.Rank.{Rank}
use Rattle.moments.specs.declared.ranks.Rank.TheVariants.{DsrSettings, WritesAt}
use Rattle.moments.specs.Ranks.{passed, items, belongs, served_at, Serving, serve_one}

pub items_numbered : (k : Rank) (s : Serving) (vs : List Event) → items (serve_one k) s vs ≡ number_each (belongs k) s.number vs
unfolding number_each
items_numbered k s [] = refl
items_numbered k s (v ∷ vs) = grind (arith, items_numbered k (serve_one k s v).state vs)

pub number_passed : (k : Rank) (s : Serving) (vs : List Event) → (passed (serve_one k) s vs).number ≡ s.number + how_many (belongs k) vs
unfolding how_many
number_passed k s [] = sym (add-zero s.number)
number_passed k s (v ∷ vs) = grind (arith, number_passed k (serve_one k s v).state vs)

abbrev at : End → Serving → Acc
at end.A s = s.a
at end.B s = s.b

settings : (e : End) (s : Serving) (vs : List Event) → at e (passed (serve_one DsrSettings) s vs) ≡ set_all e vs (at e s)
unfolding set_all
settings end.A s [] = refl
settings end.B s [] = refl
settings end.A s (v ∷ vs) = grind (arith, settings end.A (serve_one DsrSettings s v).state vs)
settings end.B s (v ∷ vs) = grind (arith, settings end.B (serve_one DsrSettings s v).state vs)

-- the writes at an end, at that end
writes : (e : End) (s : Serving) (vs : List Event) → at e (passed (serve_one (WritesAt e)) s vs) ≡ write_all e vs (at e s)
unfolding write_all
writes end.A s [] = refl
writes end.B s [] = refl
writes end.A s (v ∷ vs) = grind (arith, writes end.A (serve_one (WritesAt end.A) s v).state vs)
writes end.B s (v ∷ vs) = grind (arith, writes end.B (serve_one (WritesAt end.B) s v).state vs)

-- and at the other end
b_stays : (s : Serving) (vs : List Event) → (passed (serve_one (WritesAt end.A)) s vs).b ≡ s.b
b_stays s [] = refl
b_stays s (v ∷ vs) = grind (arith, b_stays (serve_one (WritesAt end.A) s v).state vs)

a_stays : (s : Serving) (vs : List Event) → (passed (serve_one (WritesAt end.B)) s vs).a ≡ s.a
a_stays s [] = refl
a_stays s (v ∷ vs) = grind (arith, a_stays (serve_one (WritesAt end.B) s v).state vs)

pub a_served : (k : Rank) (s : Serving) (vs : List Event) → (passed (serve_one k) s vs).a ≡ served_at k end.A vs s.a
a_served DsrSettings s vs = settings end.A s vs
a_served (WritesAt end.A) s vs = writes end.A s vs
a_served (WritesAt end.B) s vs = a_stays s vs

pub b_served : (k : Rank) (s : Serving) (vs : List Event) → (passed (serve_one k) s vs).b ≡ served_at k end.B vs s.b
b_served DsrSettings s vs = settings end.B s vs
b_served (WritesAt end.A) s vs = b_stays s vs
b_served (WritesAt end.B) s vs = writes end.B s vs
