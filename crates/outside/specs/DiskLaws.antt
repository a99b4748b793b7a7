-- A disk in memory: this moment is one of those since an earlier one, and since this moment there is no other.
use Rattle.std.specs.Prelude.{ℕ, List, [], ◌∷◌, length}
use mathlib.Core.Logic.{inl, inr}
use Rattle.std.proofs.Math.Nat.{not-suc-le_self}
use Rattle.outside.specs.Disk.{Sides}
use Rattle.outside.specs.DiskCalls.{Call, Images, Since}

pub counts_now : (first : Sides) (calls : List Call) (t : ℕ) (c : Sides) → Images first calls c → Since first calls t c
counts_now first [] t c now = now
counts_now first (call ∷ calls) t c now = inl now

pub only_now : (first : Sides) (calls : List Call) (c : Sides) → Since first calls (length calls) c → Images first calls c
only_now first [] c since = since
only_now first (call ∷ calls) c (inl now) = now
only_now first (call ∷ calls) c (inr past) = absurd (not-suc-le_self (length calls) past.0)
