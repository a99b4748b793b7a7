-- What contracts see of a disk of two files, and of a source or a sink over one.
use Rattle.std.specs.Prelude.{◌≡◌, ℕ, ℤ, pos, ◌<ℤ◌, Bool, true, Option, None, is_some, IfSome}
use Rattle.outside.specs.declared.side.Side.{Side}
use Rattle.outside.specs.declared.side.Side.TheVariants.{Left, Right}

-- whether a call has opened the files, the descriptors of those that are there, and how often one failed
pub record FilesOfDisk : Type 0 where
  pub opened : Bool
  pub left : Option ℤ
  pub right : Option ℤ
  pub faults : ℕ

abbrev pub descriptor_at : FilesOfDisk → Side → Option ℤ
descriptor_at disk Left = disk.left
descriptor_at disk Right = disk.right

abbrev pub is_there : FilesOfDisk → Side → Bool
is_there disk side = is_some (descriptor_at disk side)

-- a call has opened the files, and this one isn't there
abbrev pub IsAbsent : FilesOfDisk → Side → Type 0
IsAbsent disk side = (disk.opened ≡ true) × (descriptor_at disk side ≡ None)

-- a descriptor other than those of the standard streams, 0 to 2
abbrev pub IsNoStream : ℤ → Type 0
IsNoStream descriptor = pos 2 <ℤ descriptor

-- no file has the descriptor of a standard stream
pub record LeavesStreams (disk : FilesOfDisk) : Type 0 where
  pub left : IfSome disk.left IsNoStream
  pub right : IfSome disk.right IsNoStream

-- of files that were opened before none came and none went
pub record SameFiles (old new : FilesOfDisk) : Type 0 where
  pub opened : old.opened ≡ true → new.opened ≡ true
  pub left : old.opened ≡ true → new.left ≡ old.left
  pub right : old.opened ≡ true → new.right ≡ old.right

-- of files that were opened before none went
pub record KeepsFiles (old new : FilesOfDisk) : Type 0 where
  pub opened : old.opened ≡ true → new.opened ≡ true
  pub left : old.opened ≡ true → is_some old.left ≡ true → new.left ≡ old.left
  pub right : old.opened ≡ true → is_some old.right ≡ true → new.right ≡ old.right

-- of one file: whether a call has opened it, its descriptor if it is there, and how often a call failed
pub record StreamOfFile : Type 0 where
  pub opened : Bool
  pub descriptor : Option ℤ
  pub faults : ℕ

-- it doesn't have the descriptor of a standard stream
abbrev pub LeavesEachStream : StreamOfFile → Type 0
LeavesEachStream stream = IfSome stream.descriptor IsNoStream

-- what a call has opened stays so
pub record StaysOpen (old new : StreamOfFile) : Type 0 where
  pub opened : old.opened ≡ true → new.opened ≡ true
  pub descriptor : old.opened ≡ true → new.descriptor ≡ old.descriptor
