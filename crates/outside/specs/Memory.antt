-- What contracts see of the objects in memory.
use Rattle.std.specs.Prelude.{ℕ, ◌<◌, ◌≤◌, Contains, List, length, min}
use Rattle.outside.specs.Cause.{next_count}

-- bytes that are given in pieces: those left, and the most that one piece has
pub record BytesInPieces : Type 0 where
  pub left : List ℕ
  pub most : ℕ

-- numbered calls: the numbers of those that fail, how many were made, and how many of them failed
pub record NumberedCalls : Type 0 where
  pub fails : List ℕ
  pub calls : ℕ
  pub faults : ℕ

-- a source in memory: the bytes left, the most bytes that a call gives, the numbers of the calls that fail,
-- how many calls were made, and how many of them failed
pub record SourceInMemory : Type 0 where
  pub left : List ℕ
  pub most : ℕ
  pub fails : List ℕ
  pub calls : ℕ
  pub faults : ℕ

-- a sink in memory: the bytes that it took, the bytes that it has room for in all, the numbers of the calls that fail,
-- how many calls were made, and how many of them failed
pub record SinkInMemory : Type 0 where
  pub taken : List ℕ
  pub room : ℕ
  pub fails : List ℕ
  pub calls : ℕ
  pub faults : ℕ

-- how many of the bytes left one call gives into a slice of this length: as many as stand there, fit and are allowed
abbrev pub count_given : List ℕ → ℕ → ℕ → ℕ
count_given left room most = min (min (length left) room) most

-- the call that follows so many others has a number that is listed
abbrev pub IsListed : List ℕ → ℕ → Type 0
IsListed fails calls = Contains fails (next_count calls)

-- the sink has no room left, and the piece wants some
abbrev pub IsFull : SinkInMemory → List ℕ → Type 0
IsFull sink piece = (0 < length piece) × (sink.room ≤ length sink.taken)
