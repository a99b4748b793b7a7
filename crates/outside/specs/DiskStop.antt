-- What a stop inside a call on a disk in memory leaves, where each byte that may be any is one and the same, and each length that may vary is
-- the greatest or the least.
use Rattle.std.specs.Prelude.{◌≡◌, ◌⊎◌, ◌<◌, ◌≤◌, get_or, ℕ, ◌-◌, List, [], ◌∷◌, ◌++◌, length, take, drop, replicate, Bool, true, false, nat_le}
use Rattle.std.specs.Bool.{if◌then◌else◌}
use Rattle.outside.specs.Disk.{Sides, overwritten}
use Rattle.outside.specs.declared.side.Side.{Side}
use Rattle.outside.specs.DiskCalls.{Call, nothing, wrote, tore, was_cut, tore_cut, synced, changed, contents}

-- a write of n bytes that is cut short: its range has this byte, and the side has grown or it has not; a side that ends before it stays
abbrev pub torn : ℕ → Bool → ℕ → ℕ → List ℕ → List ℕ
torn fill true at n old = if nat_le at (length old) then overwritten at (replicate n fill) old else old
torn fill false at n old = take (length old) (overwritten at (replicate n fill) old)

-- a cut to n bytes that is cut short: this byte stands past n, or nothing does
abbrev pub torn_cut : ℕ → Bool → ℕ → List ℕ → List ℕ
torn_cut fill true n old = take n old ++ replicate (length old - n) fill
torn_cut fill false n old = take n old

-- what a call makes of what a stop leaves, where reads gave these bytes before it
abbrev pub left_by : ℕ → Bool → Sides → Call → Sides → Sides
left_by fill long bytes nothing old = old
left_by fill long bytes (wrote side at written) old = changed side (torn fill long at (length written)) old
left_by fill long bytes (tore side at n) old = changed side (torn fill long at n) old
left_by fill long bytes (was_cut side n) old = changed side (torn_cut fill long n) old
left_by fill long bytes (tore_cut side n) old = changed side (torn_cut fill long n) old
left_by fill long bytes (synced side) old = changed side (λ _. bytes side) old

-- what a stop after the calls leaves
abbrev pub left_after : ℕ → Bool → Sides → List Call → Sides
left_after fill long first [] = first
left_after fill long first (call ∷ calls) = left_by fill long (contents first calls) call (left_after fill long first calls)

-- the calls before a stop inside the last of them: a sync has done nothing until it ends
abbrev pub unsynced : List Call → List Call
unsynced (synced side ∷ calls) = calls
unsynced calls = calls

-- the calls before a stop inside the one of this number; one that isn't kept changes nothing
abbrev pub begun : ℕ → List Call → List Call
begun number calls = if nat_le number (length calls) then unsynced (drop (length calls - number) calls) else calls

-- each length is the greatest among these images if it is long, and else the least
abbrev pub IsExtreme : Bool → (Sides → Type 0) → Sides → Type 0
IsExtreme true images left = (c : Sides) → images c → (side : Side) → length (c side) ≤ length (left side)
IsExtreme false images left = (c : Sides) → images c → (side : Side) → length (left side) ≤ length (c side)

-- each byte is this one, or all these images have it there
abbrev pub IsFilled : ℕ → (Sides → Type 0) → Sides → Type 0
IsFilled fill images left = (c : Sides) → images c → (side : Side) (i : ℕ) → i < length (left side) → i < length (c side)
    → (get_or (left side) i 0 ≡ fill) ⊎ (get_or (left side) i 0 ≡ get_or (c side) i 0)
