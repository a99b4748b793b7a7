use Rattle.std.proofs.Common.{◌≤◌, inl, inr, length, arith, refl, subst, sym}
use Rattle.outside.specs.DiskCalls.{wrote, tore, by_side, contents}
use Rattle.outside.specs.DiskLog.{calls_of}
use Rattle.outside.proofs.Reading.{kept_or_not, still_reads, image, time, leaves_torn, leaves_wrote, and_true, lacks}
use Rattle.outside.specs.DiskMemory.{first_of}
use Rattle.outside.proofs.memory_disk.MemoryDiskDisk.write_at.Goals as goal
use Rattle.outside.proofs.memory_disk.MemoryDiskDisk.write_at.Goals.{then-is_full-via-then-is_full, then-is_full-via-else-is_full+then-is_listed, then-is_full-via-else-is_full+else-is_listed+then-not-has_room}

pub returns-then-is_full-clause-bytes : goal.returns-then-is_full-clause-bytes
returns-then-is_full-clause-bytes c = rw (← c.self.view_is) (λ t. still_reads (by_side c.self.inside.disk.first_left.items c.self.inside.disk.first_right.items) _ (λ i. by_side (c.note_if_room.ensures.same.left i).items (c.note_if_room.ensures.same.right i).items) (tore c.args.side c.args.at (length c.args.bytes.now)) (calls_of c.self.inside.disk.log) _ (kept_or_not c.self.inside.disk.log.limit (tore c.args.side c.args.at (length c.args.bytes.now)) (calls_of c.self.inside.disk.log) _ c.note_if_room.ensures.calls) c.args.side _ _ _)

pub returns-then-is_full-clause-images : goal.returns-then-is_full-clause-images
returns-then-is_full-clause-images c = rw (← c.self.view_is) (λ t. leaves_torn (by_side c.self.inside.disk.first_left.items c.self.inside.disk.first_right.items) _ (λ i. by_side (c.note_if_room.ensures.same.left i).items (c.note_if_room.ensures.same.right i).items) (calls_of c.self.inside.disk.log) _ c.args.side c.args.at (length c.args.bytes.now) _ (kept_or_not c.self.inside.disk.log.limit (tore c.args.side c.args.at (length c.args.bytes.now)) (calls_of c.self.inside.disk.log) _ c.note_if_room.ensures.calls))

pub returns-then-is_full-clause-image : goal.returns-then-is_full-clause-image
returns-then-is_full-clause-image c = λ t. image (by_side c.self.inside.disk.first_left.items c.self.inside.disk.first_right.items) _ (λ i. by_side (c.note_if_room.ensures.same.left i).items (c.note_if_room.ensures.same.right i).items) (tore c.args.side c.args.at (length c.args.bytes.now)) (calls_of c.self.inside.disk.log) _ (kept_or_not c.self.inside.disk.log.limit (tore c.args.side c.args.at (length c.args.bytes.now)) (calls_of c.self.inside.disk.log) _ c.note_if_room.ensures.calls) c.self.inside.disk.possible c.self.inside.disk.possible

pub returns-then-is_full-clause-time : goal.returns-then-is_full-clause-time
returns-then-is_full-clause-time c = rw (← c.self.view_is) (λ t. time (by_side c.self.inside.disk.first_left.items c.self.inside.disk.first_right.items) _ (λ i. by_side (c.note_if_room.ensures.same.left i).items (c.note_if_room.ensures.same.right i).items) (tore c.args.side c.args.at (length c.args.bytes.now)) (calls_of c.self.inside.disk.log) _ (kept_or_not c.self.inside.disk.log.limit (tore c.args.side c.args.at (length c.args.bytes.now)) (calls_of c.self.inside.disk.log) _ c.note_if_room.ensures.calls))

pub returns-clause-images : goal.returns-clause-images
returns-clause-images c = rw (← c.self.view_is) (λ t. leaves_wrote (by_side c.self.inside.disk.first_left.items c.self.inside.disk.first_right.items) _ (λ i. by_side (c.write.ensures.same.left i).items (c.write.ensures.same.right i).items) (calls_of c.self.inside.disk.log) _ _ c.args.side c.args.at c.args.bytes.now c.write.ensures.calls)

pub returns-clause-image : goal.returns-clause-image
returns-clause-image c = λ t. image (by_side c.self.inside.disk.first_left.items c.self.inside.disk.first_right.items) _ (λ i. by_side (c.write.ensures.same.left i).items (c.write.ensures.same.right i).items) (wrote c.args.side c.args.at c.args.bytes.now) (calls_of c.self.inside.disk.log) _ (inl c.write.ensures.calls) c.self.inside.disk.possible (and_true c.args.at _ _ (subst (λ d. c.args.at ≤ length (contents (first_of d) d.kept c.args.side)) (sym c.self.view_is) (c.requires.within t)) c.self.inside.disk.possible)

pub returns-clause-time : goal.returns-clause-time
returns-clause-time c = rw (← c.self.view_is) (λ t. time (by_side c.self.inside.disk.first_left.items c.self.inside.disk.first_right.items) _ (λ i. by_side (c.write.ensures.same.left i).items (c.write.ensures.same.right i).items) (wrote c.args.side c.args.at c.args.bytes.now) (calls_of c.self.inside.disk.log) _ (inl c.write.ensures.calls))

pub returns-then-is_full-clause-failing : goal.returns-then-is_full-clause-failing
returns-then-is_full-clause-failing c = rw (← c.self.view_is) (
  λ _. elim c.then-is_full.branch [
    | then-is_full-via-then-is_full w ↦ inl (inr (omega (arith, c.is_full-is_full.ensures.0 w.if-is_full.true, c.self.invariant)))
    | then-is_full-via-else-is_full+then-is_listed w ↦ inl (inl (c.begin-is_listed.ensures.listed.0 w.if-is_listed.true))
    | then-is_full-via-else-is_full+else-is_listed+then-not-has_room w ↦ inr (lacks w.has_room.result _ _ w.if-not-has_room.true w.has_room.ensures.1)
  ],
  λ _. refl,
)
