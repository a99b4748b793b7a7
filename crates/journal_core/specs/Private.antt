-- What only private contracts cite.
use Rattle.std.specs.Prelude.{◌≡◌, ◌≢◌, ℕ, List, [], ◌⊎◌, ◌≤◌, ◌∷◌, ◌++◌, length, take, drop, get_or, Bool, true, false}
use Rattle.outside.specs.Disk.{Sides, overwritten, LeavesOnly, SameImages}
use Rattle.outside.specs.declared.side.Side.{Side}
use Rattle.journal_core.specs.Sides.{HasRecords, HoldsNone, magic, header, open_records}

-- this side has its first n bytes as they were, and the other is as it was
pub record HasFront (side : Side) (n : ℕ) (old new : Sides) : Type 0 where
  pub front : take n (new side) ≡ take n (old side)
  pub long : n ≤ length (new side)
  pub stays : (rest : Side) → rest ≢ side → new rest ≡ old rest

-- this side has any byte at the gate, and the other is as it was
pub record HasGate (side : Side) (gate : ℕ) (old new : Sides) : Type 0 where
  pub byte : ℕ
  pub changed : new side ≡ overwritten gate (byte ∷ []) (old side)
  pub stays : (rest : Side) → rest ≢ side → new rest ≡ old rest

-- behind the first n bytes of the old side there are these, and then any
abbrev pub IsWritten : ℕ → List ℕ → List ℕ → List ℕ → Type 0
IsWritten n bytes old new = (rest : List ℕ) × (new ≡ take n old ++ (bytes ++ rest))

-- this side is too short for a project, and the other is as it was
pub record IsShort (side : Side) (old new : Sides) : Type 0 where
  pub short : length (new side) ≤ 17
  pub stays : (rest : Side) → rest ≢ side → new rest ≡ old rest

-- this side has any bytes in its header's number, and all else is as it was
pub record IsRenumbered (side : Side) (old new : Sides) : Type 0 where
  pub before : take 8 (new side) ≡ take 8 (old side)
  pub after : drop 16 (new side) ≡ drop 16 (old side)
  pub long : length (old side) ≤ length (new side)
  pub stays : (rest : Side) → rest ≢ side → new rest ≡ old rest

-- The disk was only read: reads and stops give what they gave, and so did a stop at any moment between.
pub record OnlyRead {D : Type 0} (bytes_of : D → Sides) (images : D → Sides → Type 0) (clock : D → ℕ) (moments : D → ℕ → Sides → Type 0) (old new : D) : Type 0 where
  pub bytes : bytes_of new ≡ bytes_of old
  pub same : SameImages (images old) (images new)
  pub any_moment : LeavesOnly clock moments old new (images old)

-- this side is as it was, or it holds no project, and the other is as it was
pub record GivesWay (side : Side) (old new : Sides) : Type 0 where
  pub same_or_none : (new side ≡ old side) ⊎ HoldsNone (new side)
  pub stays : (rest : Side) → rest ≢ side → new rest ≡ old rest

-- a header of this generation, and a first gate that isn't open
pub record IsRenewed (new : List ℕ) (generation : ℕ) : Type 0 where
  pub byte : ℕ
  pub behind : List ℕ
  pub is : new ≡ header generation ++ byte ∷ behind
  pub closed : byte ≢ 1

-- a header, and a first gate that is open or isn't
pub record HasFirstGate (side : List ℕ) (is_open : Bool) : Type 0 where
  pub long : 17 ≤ length side
  pub named : take 8 side ≡ magic
  pub opened : is_open ≡ true → get_or side 16 0 ≡ 1
  pub shut : is_open ≡ false → get_or side 16 0 ≢ 1

-- a side with this one record, and then a gate that isn't open
pub record HasOne (new : List ℕ) (generation : ℕ) (body : List ℕ) : Type 0 where
  pub byte : ℕ
  pub behind : List ℕ
  pub is : new ≡ header generation ++ open_records (body ∷ []) ++ byte ∷ behind
  pub closed : byte ≢ 1

-- a side while it gets this one record: as it was, or without a project, or with the record
pub data IsReplacedSide (generation : ℕ) (body old new : List ℕ) : Type 0 where
  as_before : new ≡ old → IsReplacedSide generation body old new
  without_project : HoldsNone new → IsReplacedSide generation body old new
  with_record : HasRecords new generation (body ∷ []) → IsReplacedSide generation body old new

-- this side is as while it gets this one record, and the other is as it was
pub record IsReplaced (side : Side) (generation : ℕ) (body : List ℕ) (old new : Sides) : Type 0 where
  pub state : IsReplacedSide generation body (old side) (new side)
  pub stays : (rest : Side) → rest ≢ side → new rest ≡ old rest
