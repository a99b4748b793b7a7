-- What only private contracts cite.
use Rattle.std.specs.Prelude.{◌≡◌, ℕ, ◌+◌, ◌<◌, ◌≤◌, List, length, slice_index_or}
use Rattle.turn_desk.specs.Chairs.{ChairState}
use Rattle.desk_run.specs.Counting.{count_of}

-- the chair made so many acts, and counted no more often
abbrev pub HasCounted : {B : Type 0} → ℕ → ChairState ℕ B → ChairState ℕ B → Type 0
HasCounted acts c d = (d ≡ record c { acts = c.acts + acts; seen = d.seen }) × (count_of c.number d.seen ≤ count_of c.number c.seen + acts)

-- so did each chair of a list
abbrev pub EachHasCounted : {B : Type 0} → ℕ → List (ChairState ℕ B) → List (ChairState ℕ B) → Type 0
EachHasCounted acts cs ds = (length ds ≡ length cs) × ((i : ℕ) (c : ChairState ℕ _) → i < length cs → HasCounted acts (slice_index_or cs i c) (slice_index_or ds i c))
