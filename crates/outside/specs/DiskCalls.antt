-- The calls on a disk in memory, and what a stop after them may leave.
use Rattle.std.specs.Prelude.{◌≡◌, ◌⊎◌, ℕ, ◌+◌, ◌≤◌, List, [], ◌∷◌, length, take, drop, nat_lt}
use Rattle.std.specs.Bool.{if◌then◌else◌}
use Rattle.outside.specs.Disk.{Sides, overwritten, Torn, TornCut, OnSide}
use Rattle.outside.specs.declared.side.Side.{Side}
use Rattle.outside.specs.declared.side.Side.TheVariants.{Left, Right}
use Rattle.outside.specs.declared.entry.Entry.{Entry}
use Rattle.outside.specs.declared.entry.Entry.TheVariants.{Nothing, Wrote, Tore, Cut, ToreCut, Synced}

-- a call: one that changed nothing; a write and its bytes; a write of so many bytes that failed; a cut; a cut that failed; a sync
pub data Call : Type 0 where
  nothing : Call
  wrote : Side → ℕ → List ℕ → Call
  tore : Side → ℕ → ℕ → Call
  was_cut : Side → ℕ → Call
  tore_cut : Side → ℕ → Call
  synced : Side → Call

abbrev pub seen : List ℕ → Entry → Call
seen written Nothing = nothing
seen written (Wrote side at from count) = wrote side at (take count (drop from written))
seen written (Tore side at count) = tore side at count
seen written (Cut side len) = was_cut side len
seen written (ToreCut side len) = tore_cut side len
seen written (Synced side) = synced side

abbrev pub by_side : List ℕ → List ℕ → Sides
by_side left right Left = left
by_side left right Right = right

-- one side changed
abbrev pub changed : Side → (List ℕ → List ℕ) → Sides → Sides
changed Left f sides Left = f (sides Left)
changed Left f sides Right = sides Right
changed Right f sides Left = sides Left
changed Right f sides Right = f (sides Right)

-- what reads give after the calls, the last of which stands first
abbrev pub contents : Sides → List Call → Sides
contents first [] = first
contents first (wrote side at bytes ∷ calls) = changed side (overwritten at bytes) (contents first calls)
contents first (was_cut side len ∷ calls) = changed side (take len) (contents first calls)
contents first (call ∷ calls) = contents first calls

-- what a call makes of an image, where reads gave these bytes before it
abbrev pub PerformsCall : Sides → Call → Sides → Sides → Type 0
PerformsCall bytes nothing old new = new ≡ old
PerformsCall bytes (wrote side at written) old new = OnSide side (Torn at (length written)) old new
PerformsCall bytes (tore side at count) old new = OnSide side (Torn at count) old new
PerformsCall bytes (was_cut side len) old new = OnSide side (TornCut len) old new
PerformsCall bytes (tore_cut side len) old new = OnSide side (TornCut len) old new
PerformsCall bytes (synced side) old new = (new ≡ old) × (old side ≡ bytes side)

-- what a stop after the calls may leave
abbrev pub Images : Sides → List Call → Sides → Type 0
Images first [] c = c ≡ first
Images first (call ∷ calls) c = (d : Sides) × Images first calls d × PerformsCall (contents first calls) call d c

-- what a stop after t calls or more might have left
abbrev pub Since : Sides → List Call → ℕ → Sides → Type 0
Since first [] t c = Images first [] c
Since first (call ∷ calls) t c = Images first (call ∷ calls) c ⊎ ((t ≤ length calls) × Since first calls t c)

-- the calls with one more, if fewer than so many are kept
abbrev pub noted : ℕ → Call → List Call → List Call
noted limit call calls = if nat_lt (length calls) limit then call ∷ calls else calls

-- the number of bytes that the calls wrote
abbrev pub bytes_in : List Call → ℕ
bytes_in [] = 0
bytes_in (wrote side at bytes ∷ calls) = length bytes + bytes_in calls
bytes_in (call ∷ calls) = bytes_in calls
