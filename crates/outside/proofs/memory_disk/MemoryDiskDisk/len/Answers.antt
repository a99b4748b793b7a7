use Rattle.std.proofs.Common.{inl, inr, arith, refl}
use Rattle.outside.specs.DiskCalls.{nothing, by_side}
use Rattle.outside.specs.DiskLog.{calls_of}
use Rattle.outside.proofs.Reading.{kept_or_not, still, image, time, same_images}
use Rattle.outside.proofs.memory_disk.MemoryDiskDisk.len.Goals as goal
use Rattle.outside.proofs.memory_disk.MemoryDiskDisk.len.Goals.{then-is_full-via-then-is_full, then-is_full-via-else-is_full+then-is_listed}

pub returns-then-is_full-clause-bytes : goal.returns-then-is_full-clause-bytes
returns-then-is_full-clause-bytes c = rw (← c.self.view_is) (λ t. still (by_side c.self.inside.disk.first_left.items c.self.inside.disk.first_right.items) _ (λ i. by_side (c.note_if_room.ensures.same.left i).items (c.note_if_room.ensures.same.right i).items) nothing (calls_of c.self.inside.disk.log) _ (kept_or_not c.self.inside.disk.log.limit (nothing) (calls_of c.self.inside.disk.log) _ c.note_if_room.ensures.calls) _)

pub returns-then-is_full-clause-images : goal.returns-then-is_full-clause-images
returns-then-is_full-clause-images c = rw (← c.self.view_is) (λ t. same_images (by_side c.self.inside.disk.first_left.items c.self.inside.disk.first_right.items) _ (λ i. by_side (c.note_if_room.ensures.same.left i).items (c.note_if_room.ensures.same.right i).items) (calls_of c.self.inside.disk.log) _ (kept_or_not c.self.inside.disk.log.limit (nothing) (calls_of c.self.inside.disk.log) _ c.note_if_room.ensures.calls))

pub returns-then-is_full-clause-image : goal.returns-then-is_full-clause-image
returns-then-is_full-clause-image c = λ t. image (by_side c.self.inside.disk.first_left.items c.self.inside.disk.first_right.items) _ (λ i. by_side (c.note_if_room.ensures.same.left i).items (c.note_if_room.ensures.same.right i).items) (nothing) (calls_of c.self.inside.disk.log) _ (kept_or_not c.self.inside.disk.log.limit (nothing) (calls_of c.self.inside.disk.log) _ c.note_if_room.ensures.calls) c.self.inside.disk.possible c.self.inside.disk.possible

pub returns-then-is_full-clause-time : goal.returns-then-is_full-clause-time
returns-then-is_full-clause-time c = rw (← c.self.view_is) (λ t. time (by_side c.self.inside.disk.first_left.items c.self.inside.disk.first_right.items) _ (λ i. by_side (c.note_if_room.ensures.same.left i).items (c.note_if_room.ensures.same.right i).items) (nothing) (calls_of c.self.inside.disk.log) _ (kept_or_not c.self.inside.disk.log.limit (nothing) (calls_of c.self.inside.disk.log) _ c.note_if_room.ensures.calls))

pub returns-clause-bytes : goal.returns-clause-bytes
returns-clause-bytes c = rw (← c.self.view_is) (λ t. still (by_side c.self.inside.disk.first_left.items c.self.inside.disk.first_right.items) _ (λ i. by_side (c.note_if_room.ensures.same.left i).items (c.note_if_room.ensures.same.right i).items) nothing (calls_of c.self.inside.disk.log) _ (kept_or_not c.self.inside.disk.log.limit (nothing) (calls_of c.self.inside.disk.log) _ c.note_if_room.ensures.calls) _)

pub returns-clause-images : goal.returns-clause-images
returns-clause-images c = rw (← c.self.view_is) (λ t. same_images (by_side c.self.inside.disk.first_left.items c.self.inside.disk.first_right.items) _ (λ i. by_side (c.note_if_room.ensures.same.left i).items (c.note_if_room.ensures.same.right i).items) (calls_of c.self.inside.disk.log) _ (kept_or_not c.self.inside.disk.log.limit (nothing) (calls_of c.self.inside.disk.log) _ c.note_if_room.ensures.calls))

pub returns-clause-image : goal.returns-clause-image
returns-clause-image c = λ t. image (by_side c.self.inside.disk.first_left.items c.self.inside.disk.first_right.items) _ (λ i. by_side (c.note_if_room.ensures.same.left i).items (c.note_if_room.ensures.same.right i).items) (nothing) (calls_of c.self.inside.disk.log) _ (kept_or_not c.self.inside.disk.log.limit (nothing) (calls_of c.self.inside.disk.log) _ c.note_if_room.ensures.calls) c.self.inside.disk.possible c.self.inside.disk.possible

pub returns-clause-time : goal.returns-clause-time
returns-clause-time c = rw (← c.self.view_is) (λ t. time (by_side c.self.inside.disk.first_left.items c.self.inside.disk.first_right.items) _ (λ i. by_side (c.note_if_room.ensures.same.left i).items (c.note_if_room.ensures.same.right i).items) (nothing) (calls_of c.self.inside.disk.log) _ (kept_or_not c.self.inside.disk.log.limit (nothing) (calls_of c.self.inside.disk.log) _ c.note_if_room.ensures.calls))

pub returns-then-is_full-clause-failing : goal.returns-then-is_full-clause-failing
returns-then-is_full-clause-failing c = rw (← c.self.view_is) (
  λ _. elim c.then-is_full.branch [
    | then-is_full-via-then-is_full w ↦ inr (omega (arith, c.is_full-is_full.ensures.0 w.if-is_full.true, c.self.invariant))
    | then-is_full-via-else-is_full+then-is_listed w ↦ inl (c.begin-is_listed.ensures.listed.0 w.if-is_listed.true)
  ],
  λ _. refl,
)
