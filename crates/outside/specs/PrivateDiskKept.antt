-- What a disk in memory keeps of its calls, and what a call leaves as it was.
use Rattle.std.specs.Prelude.{◌≡◌, ℕ, List, map, reverse, take}
use Rattle.outside.specs.declared.recorded.Recorded.{Recorded}
use Rattle.outside.specs.DiskCalls.{Call, seen}
use Rattle.outside.specs.declared.disk_entry.Log.{Log}

-- what the sides held at first, and how many bytes and calls there may be
pub record IsSameSetup (old new : Recorded) : Type 0 where
  pub left : new.first_left ≡ old.first_left
  pub right : new.first_right ≡ old.first_right
  pub room : new.log.room ≡ old.log.room
  pub limit : new.log.limit ≡ old.log.limit

-- the first so many of the calls that a log keeps
abbrev pub first_calls : ℕ → Log → List Call
first_calls count log = reverse (map (seen log.written.items) (take count log.entries.items))
