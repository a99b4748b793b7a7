-- What only private contracts cite.
use Rattle.std.specs.Prelude.{ℕ, ℤ, ◌+◌, ◌≤◌, List, [], ◌∷◌, length, Bool, true, nat_le, ◌&&◌, ⊤, Option, None, Some, IfSome}
use Rattle.std.specs.Fd.{file_raw_fd}
use Rattle.std.specs.declared.fs.File.{File}
use Rattle.outside.specs.Files.{IsNoStream}
use Rattle.outside.specs.Disk.{Sides}
use Rattle.outside.specs.declared.entry.Entry.{Entry}
use Rattle.outside.specs.declared.entry.Entry.TheVariants.{Wrote}
use Rattle.outside.specs.DiskCalls.{Call, wrote, was_cut, contents}

-- where the kept bytes of a write end
abbrev pub end_of : Entry → ℕ
end_of (Wrote side at from count) = from + count
end_of rest = 0

-- the bytes of a kept write stand among those that are kept
abbrev pub IsInside : ℕ → Entry → Type 0
IsInside n entry = end_of entry ≤ n

-- each write and cut began inside the side
abbrev pub are_possible : Sides → List Call → Bool
are_possible first [] = true
are_possible first (wrote side at bytes ∷ calls) = nat_le at (length (contents first calls side)) && are_possible first calls
are_possible first (was_cut side len ∷ calls) = nat_le len (length (contents first calls side)) && are_possible first calls
are_possible first (call ∷ calls) = are_possible first calls

-- a call that left all bytes as reads gave them
abbrev pub IsStill : Call → Type 0
IsStill (wrote side at bytes) = ⊥
IsStill (was_cut side len) = ⊥
IsStill call = ⊤

-- the descriptor of a file that is there
abbrev pub descriptor_of : Option File → Option ℤ
descriptor_of None = None
descriptor_of (Some file) = Some (file_raw_fd file)

-- this file, if it is there, has the descriptor of no standard stream
abbrev pub HasNoStream : Option File → Type 0
HasNoStream file = IfSome (descriptor_of file) IsNoStream
