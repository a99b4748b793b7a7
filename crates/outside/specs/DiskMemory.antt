-- What contracts see of a disk in memory, and when its calls fail.
use Rattle.std.specs.Prelude.{◌⊎◌, ℕ, ◌+◌, ◌<◌, ◌≤◌, List, length}
use Rattle.outside.specs.Cause.{next_count}
use Rattle.outside.specs.Memory.{IsListed}
use Rattle.outside.specs.Disk.{Sides, Elapses}
use Rattle.outside.specs.DiskCalls.{Call, by_side, bytes_in, contents, noted, Images, Since}

-- a disk in memory: the bytes of each side at first, the calls that it kept with the last of them first, how many bytes all its writes
-- together may have, how many calls it serves, the numbers of the calls that fail, how many calls were made, and how many
-- of them failed
pub record DiskInMemory : Type 0 where
  pub left : List ℕ
  pub right : List ℕ
  pub kept : List Call
  pub room : ℕ
  pub limit : ℕ
  pub fails : List ℕ
  pub calls : ℕ
  pub faults : ℕ

-- what reads gave at first
abbrev pub first_of : DiskInMemory → Sides
first_of disk = by_side disk.left disk.right

-- what reads give
abbrev pub bytes_now : DiskInMemory → Sides
bytes_now disk = contents (first_of disk) disk.kept

-- what a stop now may leave
abbrev pub StopMayLeave : DiskInMemory → Sides → Type 0
StopMayLeave disk = Images (first_of disk) disk.kept

-- what a stop at some moment from this one on might have left
abbrev pub StopMightHaveLeft : DiskInMemory → ℕ → Sides → Type 0
StopMightHaveLeft disk = Since (first_of disk) disk.kept

-- time goes on from the first of these states to the second
abbrev pub TimePasses : DiskInMemory → DiskInMemory → Type 0
TimePasses old new =
    Elapses (length old.kept) (length new.kept) (StopMightHaveLeft old) (StopMightHaveLeft new) (StopMayLeave new)

-- the next call has a number that is listed, or it comes past those that are served
abbrev pub RefusesCall : DiskInMemory → Type 0
RefusesCall disk = IsListed disk.fails disk.calls ⊎ (disk.limit ≤ disk.calls)

-- so many more bytes would pass the room for writes
abbrev pub LacksRoom : DiskInMemory → ℕ → Type 0
LacksRoom disk count = disk.room < bytes_in disk.kept + count

-- the disk after a call that succeeds
abbrev pub served : Call → DiskInMemory → DiskInMemory
served call disk = record disk { kept = noted disk.limit call disk.kept; calls = next_count disk.calls }

-- the disk after a call that fails
abbrev pub failed : Call → DiskInMemory → DiskInMemory
failed call disk = record disk { kept = noted disk.limit call disk.kept; calls = next_count disk.calls; faults = next_count disk.faults }
