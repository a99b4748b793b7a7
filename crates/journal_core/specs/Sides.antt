-- What the two sides of a disk stand for.
use Rattle.std.specs.Prelude.{◌≡◌, ◌≢◌, ◌⊎◌, ℕ, ◌+◌, ◌^◌, ◌<◌, ◌≤◌, List, [], ◌∷◌, ◌++◌, length, take, drop, get_or}
use Rattle.std.specs.Int.{w32, w64, to_le_bytes}
use Rattle.outside.specs.Disk.{Sides}
use Rattle.outside.specs.declared.side.Side.{Side}
use Rattle.outside.specs.declared.side.Side.TheVariants.{Left, Right}

-- RODINJ1 and a line feed
abbrev pub magic : List ℕ
magic = 82 ∷ 79 ∷ 68 ∷ 73 ∷ 78 ∷ 74 ∷ 49 ∷ 10 ∷ []

-- what stands before the first gate
abbrev pub header : ℕ → List ℕ
header generation = magic ++ to_le_bytes w64 generation

-- a record behind an open gate: its length and its body
abbrev pub record_bytes : List ℕ → List ℕ
record_bytes body = to_le_bytes w32 (length body) ++ body

-- open gates, each with its record
abbrev pub open_records : List (List ℕ) → List ℕ
open_records [] = []
open_records (body ∷ bodies) = 1 ∷ record_bytes body ++ open_records bodies

-- these records, then a gate that isn't open, inside the limit of a side
pub record HasRecords (side : List ℕ) (generation : ℕ) (bodies : List (List ℕ)) : Type 0 where
  pub gate : ℕ
  pub behind : List ℕ
  pub split : side ≡ header generation ++ open_records bodies ++ gate ∷ behind
  pub closed : gate ≢ 1
  pub within : 16 + length (open_records bodies) < 67108864
  pub number : generation < 2 ^ 64

-- a side of at most 17 bytes, or one whose first gate isn't open, holds no project
abbrev pub HoldsNone : List ℕ → Type 0
HoldsNone side = (length side ≤ 17) ⊎ ((take 8 side ≡ magic) × (get_or side 16 0 ≢ 1))

-- a longer side with other first bytes is no journal
abbrev pub IsForeign : List ℕ → Type 0
IsForeign side = (17 < length side) × (take 8 side ≢ magic)

-- the first gate is open, behind the header of this generation
abbrev pub IsOpenSide : List ℕ → ℕ → Type 0
IsOpenSide side generation = (17 < length side) × (take 17 side ≡ header generation ++ 1 ∷ []) × (generation < 2 ^ 64)

-- the side that counts may have the generation of the other one if it is Left
abbrev pub IsBefore : Side → ℕ → ℕ → Type 0
IsBefore Left less generation = less ≤ generation
IsBefore Right less generation = less < generation

-- this side has an open first gate too, and the other one, of this generation, counts
abbrev pub IsOlder : List ℕ → Side → ℕ → Type 0
IsOlder rest side generation = (less : ℕ) × IsOpenSide rest less × IsBefore side less generation

-- this side yields to the other one, which has an open first gate and this generation
abbrev pub Yields : List ℕ → Side → ℕ → Type 0
Yields rest side generation = HoldsNone rest ⊎ IsOlder rest side generation

abbrev pub other : Side → Side
other Left = Right
other Right = Left

-- The sides stand for these records, which this side has in this generation; of no record neither side nor generation is told.
abbrev pub StandsAt : Sides → Side → ℕ → List (List ℕ) → Type 0
StandsAt sides side generation [] = HoldsNone (sides Left) × HoldsNone (sides Right)
StandsAt sides side generation (body ∷ bodies) = HasRecords (sides side) generation (body ∷ bodies) × Yields (sides (other side)) side generation

-- with one more record on this side or without it
abbrev pub IsBeforeOrAfterAppend : Side → ℕ → List (List ℕ) → List ℕ → Sides → Type 0
IsBeforeOrAfterAppend side generation bodies body sides = StandsAt sides side generation bodies ⊎ StandsAt sides side generation (bodies ++ body ∷ [])

-- these records, or this one on the other side, in the next generation
abbrev pub IsBeforeOrOne : Side → ℕ → List (List ℕ) → List ℕ → Sides → Type 0
IsBeforeOrOne side generation bodies body sides = StandsAt sides side generation bodies ⊎ StandsAt sides (other side) (generation + 1) (body ∷ [])

-- behind the open gate at this offset: a length, a body and a next gate, inside the side and its limit
pub record IsWhole (side : List ℕ) (gate : ℕ) (body : List ℕ) : Type 0 where
  pub next : ℕ
  pub behind : List ℕ
  pub split : drop gate side ≡ 1 ∷ (record_bytes body ++ next ∷ behind)
  pub within : gate + 5 + length body < 67108864

-- behind these records an open gate, at this offset, with no whole record
pub record IsBroken (side : List ℕ) (generation gate : ℕ) : Type 0 where
  pub bodies : List (List ℕ)
  pub behind : List ℕ
  pub split : side ≡ header generation ++ open_records bodies ++ 1 ∷ behind
  pub at : gate ≡ 16 + length (open_records bodies)
  pub within : gate < 67108864
  pub broken : (body : List ℕ) → IsWhole side gate body → ⊥

-- the side that counts is damaged at this gate
pub record IsDamaged (sides : Sides) (side : Side) (gate : ℕ) : Type 0 where
  pub generation : ℕ
  pub opened : IsOpenSide (sides side) generation
  pub yields : Yields (sides (other side)) side generation
  pub damage : IsBroken (sides side) generation gate
