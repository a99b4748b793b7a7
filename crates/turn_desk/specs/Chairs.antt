-- What contracts see of a desk and of a chair, and what one act is.
use Rattle.std.specs.Prelude.{◌≡◌, ℕ, ◌+◌, ◌<◌, ◌≤◌, List, [], ◌∷◌, ◌++◌, length, slice_index_or, Option, Some}
use Rattle.atomic_table.specs.Seated.{TableId}
use Rattle.turn_desk.specs.Log.{IsPrefix, entries_of, longer, HasSeen, Grows, Joined}

-- a desk: which one it is, and what its value began from
pub record DeskState (B : Type 0) : Type 0 where
  pub table : TableId
  pub base : B

-- A chair: its number, how many acts it has made, and what it has seen; of chair 0 also how many chairs were made and
-- which were joined, each with all its entries.
pub record ChairState (E B : Type 0) : Type 0 where
  pub table : TableId
  pub number : ℕ
  pub acts : ℕ
  pub made : ℕ
  pub joined : List (ℕ × List E)
  pub seen : List E
  pub base : Option B

module _ {E B : Type 0} where
  -- the chair is one of the desk
  abbrev pub IsOf : DeskState B → ChairState E B → Type 0
  IsOf d c = (c.table ≡ d.table) × (c.base ≡ Some d.base)

  -- chair 0 of a desk that has just been made
  abbrev pub first_chair : DeskState B → ChairState E B
  first_chair d = record { table = d.table; number = 0; acts = 0; made = 1; joined = []; seen = []; base = Some d.base }

  -- a chair that chair 0 makes, with this number, which has seen the same
  abbrev pub new_chair : ChairState E B → ℕ → ChairState E B
  new_chair c n = record { table = c.table; number = n; acts = 0; made = 0; joined = []; seen = c.seen; base = c.base }

  -- chair 0, after it has taken in another
  abbrev pub with_chair : (E → ℕ) → ChairState E B → ChairState E B → ChairState E B
  with_chair chair_of c d = record c { joined = c.joined ++ (d.number, entries_of chair_of d.number d.seen) ∷ []; seen = longer c.seen d.seen }

  -- the chairs are numbered one after the other from n on
  abbrev pub IsNumberedFrom : ℕ → List (ChairState E B) → Type 0
  IsNumberedFrom n cs = (i : ℕ) (c : ChairState E B) → i < length cs → (slice_index_or cs i c).number ≡ n + i

  -- they are chairs that chair 0 made, numbered so
  abbrev pub AreNew : ChairState E B → ℕ → List (ChairState E B) → Type 0
  AreNew first n cs = (i : ℕ) (c : ChairState E B) → i < length cs → slice_index_or cs i c ≡ new_chair first (n + i)

  -- the same chair, but for what it has seen and how many acts it has made
  abbrev pub IsSameChair : ChairState E B → ChairState E B → Type 0
  IsSameChair c d = d ≡ record c { acts = d.acts; seen = d.seen }

  -- the same chairs in the same order, but for that
  abbrev pub AreSame : List (ChairState E B) → List (ChairState E B) → Type 0
  AreSame cs ds = (length ds ≡ length cs) × ((i : ℕ) (c : ChairState E B) → i < length cs → IsSameChair (slice_index_or cs i c) (slice_index_or ds i c))

  -- chair 0, but for what it has seen and which chairs it has taken in
  abbrev pub IsSameFirst : ChairState E B → ChairState E B → Type 0
  IsSameFirst c d = (d.table ≡ c.table) × (d.number ≡ c.number) × (d.acts ≡ c.acts) × (d.made ≡ c.made) × (d.base ≡ c.base)

  -- chair 0 has taken the other in, and has seen all that it had seen
  abbrev pub HasTakenIn : (E → ℕ) → ChairState E B → ChairState E B → Type 0
  HasTakenIn chair_of first c = Joined first.joined c.number (entries_of chair_of c.number c.seen) × IsPrefix c.seen first.seen

  -- so it has each of these, from the place n on
  abbrev pub HasJoined : (E → ℕ) → ChairState E B → List (ChairState E B) → ℕ → Type 0
  HasJoined chair_of first cs n = (i : ℕ) (c : ChairState E B) → n ≤ i → i < length cs → HasTakenIn chair_of first (slice_index_or cs i c)

-- One act of the chair k, which had seen so much, at a desk with this base. It found a value, did to it what the action
-- does, and left a value: this is all that happened between. Then it has seen the log of the value that it left.
pub record IsAct {V E B A : Type 0} (log_of : V → List E) (chair_of : E → ℕ) (base_of : V → B) (does : V → A → V → Type 0) (base : B) (k : ℕ) (seen : List E) (answer : A) (sees : List E) : Type 0 where
  pub found : V
  pub left : V
  pub effect : does found answer left
  pub origin : base_of found ≡ base
  pub stays : base_of left ≡ base
  pub begins : HasSeen chair_of k seen (log_of found)
  pub grows : Grows chair_of k (log_of found) (log_of left)
  pub learns : sees ≡ log_of left
