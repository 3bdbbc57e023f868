-- What comes of characters and labels. Assumes nothing.
use Rattle.std.specs.Prelude.{ℕ, ◌+◌, ◌-◌, Bool, cond, not, ◌||◌, List, [], ◌∷◌, Some, None, Option, ◌==◌, nat_lt, slice_index_or, slice_set}
use Rattle.totes.specs.declared.position.Position.{Position}
use Rattle.totes.specs.declared.outcome.Loss.{Loss}
use Rattle.totes.specs.declared.outcome.LossKind.{LossKind}
use Rattle.totes.specs.declared.outcome.LossKind.TheVariants.{Overwritten, Missed}
use Rattle.totes.specs.declared.outcome.Fate.{Fate}
use Rattle.totes.specs.declared.outcome.Fate.TheVariants.{Whole, Damaged, Lost}

-- the character that is sent next: the next of the label, or the first of the next label, of which 20 is none
abbrev pub next_position : ℕ → Position → Position
next_position length p =
    cond (nat_lt p.character (length - 1)) (record { label = p.label; character = p.character + 1 })
    (record { label = cond (nat_lt p.label 20) (p.label + 1) 20; character = 0 })

-- a label that has lost a character stays lost when another is damaged
abbrev pub damaged : Fate → Fate
damaged Whole = Damaged
damaged Damaged = Damaged
damaged Lost = Lost

-- a character that was read is damaged if its code is another than was sent, or RPER or RFER is 1
abbrev pub is_damaged : ℕ → ℕ → Bool → Bool → Bool
is_damaged sent read rper rfer = not (sent == read) || (rper || rfer)

-- 1 where two fates are the same
abbrev pub one_if : Fate → Fate → ℕ
one_if Whole Whole = 1
one_if Whole Damaged = 0
one_if Whole Lost = 0
one_if Damaged Whole = 0
one_if Damaged Damaged = 1
one_if Damaged Lost = 0
one_if Lost Whole = 0
one_if Lost Damaged = 0
one_if Lost Lost = 1

-- how many labels have a fate
abbrev pub count_fate : Fate → List Fate → ℕ
count_fate f [] = 0
count_fate f (g ∷ gs) = one_if f g + count_fate f gs

-- a first loss is told exactly where a label is lost
abbrev pub loss_told : Option Loss → List Fate → Bool
loss_told (Some l) labels = nat_lt 0 (count_fate Lost labels)
loss_told None labels = count_fate Lost labels == 0

-- a character of a label was damaged; label 20 is none
abbrev pub labels_damaged : ℕ → List Fate → List Fate
labels_damaged label labels = cond (nat_lt label 20) (slice_set labels label (damaged (slice_index_or labels label Whole))) labels

-- a character of a label was lost
abbrev pub labels_lost : ℕ → List Fate → List Fate
labels_lost label labels = cond (nat_lt label 20) (slice_set labels label Lost) labels

-- the loss that stands first
abbrev pub earlier : Option Loss → Loss → Loss
earlier (Some l) next = l
earlier None next = next

abbrev pub first_loss : Loss → Option Loss → Option Loss
first_loss next first = cond (nat_lt next.position.label 20) (Some (earlier first next)) first

-- what is lost where a character is stored: the one before it if that is unread, or itself if the one before it is acknowledged in this
-- very moment
abbrev pub lost_by_store : Option Position → Position → Bool → Option (Position × LossKind)
lost_by_store (Some before) stored acknowledged = Some (before, Overwritten)
lost_by_store None stored acknowledged = cond acknowledged (Some (stored, Missed)) None

-- the board is at work on a label from its last character on
abbrev pub busy_after : ℕ → ℕ → Position → ℕ → ℕ → ℕ
busy_after length work p t busy_until = cond (nat_lt p.character (length - 1)) busy_until (t + work)
