use Rattle.std.proofs.Common.{◌≡◌, ◌∙◌, None, sym, ap, subst, inl, arith, ◌+◌, ◌≤◌, Some, [], ◌∷◌, ◌++◌, length}
use Rattle.event_weights.specs.Weights.{weight_of}
use Rattle.store_log.specs.declared.fault.StoreFault.TheVariants.{SessionFull, OutOfMemory}
use Rattle.project_store.specs.Store.{met, weight}
use Rattle.project_store.proofs.Moments.{idle}
use Rattle.project_store.proofs.Keeping.{Sound, not_failed, refused, done_by, undone_by, acted, has_stopped, is_too_heavy, has_no_memory, weight_on}
use Rattle.project_store.proofs.Stood.{Stood, stood_done, stood_still, stood_undone}
use Rattle.project_store.proofs.store.Store.act.Goals as goal

pub overflow_sub-room : goal.overflow_sub-room
overflow_sub-room g c = omega (arith, c.self.invariant.1, c.self.invariant.0.light)

pub perform-requires : goal.perform-requires
perform-requires g c =
    let none : c.self.inside.kept ≡ None = ap (λ s. s.kept) c.self.view_is ∙ c.requires.sound in
    let old = subst (Sound g.D.Disk.told g.D.Disk.bytes_of g.D.Disk.images g.D.Disk.clock g.D.Disk.moments g.D.Disk.faults c.self.inside.base.value c.self.inside.count c.self.inside.journal c.self.inside.core c.self.inside.history.items) none c.self.invariant.0 in
    let sound = not_failed g.D.Disk.told g.D.Disk.bytes_of g.D.Disk.images g.D.Disk.clock g.D.Disk.moments g.D.Disk.faults c.self.inside.base.value c.self.inside.count c.self.inside.journal c.self.inside.core c.self.inside.history.items old in
    record {
      sound = sound;
      small = old.small;
      orderly = old.orderly;
      number = omega (arith, old.tickets, c.reserve.ensures.few, ap length c.reserve.ensures.items);
      reads = λ t. old.reads t sound;
      stops = λ t e here. old.stops t e here;
    }

pub overflow_add-self : goal.overflow_add-self
overflow_add-self g c = omega (arith, c.self.invariant.1, c.self.invariant.0.light, c.in-Some.ensures.weight.0, c.in-Some.ensures.weight.1)

pub invariant_of-self : goal.invariant_of-self
invariant_of-self g c =
    let none : c.self.inside.kept ≡ None = ap (λ s. s.kept) c.self.view_is ∙ c.requires.sound in
    let old = subst (Sound g.D.Disk.told g.D.Disk.bytes_of g.D.Disk.images g.D.Disk.clock g.D.Disk.moments g.D.Disk.faults c.self.inside.base.value c.self.inside.count c.self.inside.journal c.self.inside.core c.self.inside.history.items) none c.self.invariant.0 in (
      subst (Sound g.D.Disk.told g.D.Disk.bytes_of g.D.Disk.images g.D.Disk.clock g.D.Disk.moments g.D.Disk.faults c.self.inside.base.value c.self.inside.count c.self.inside.journal c.self.inside.core c.self.inside.history.items) (sym c.keep.ensures)
          (refused g.D.Disk.told g.D.Disk.bytes_of g.D.Disk.images g.D.Disk.clock g.D.Disk.moments g.D.Disk.faults c.self.inside.base.value c.self.inside.count c.self.inside.journal c.self.inside.core c.self.inside.history.items old SessionFull c.args.chair c.args.event (λ e. cc) (λ e. cc) (λ e. omega (arith, c.self.invariant.1, old.light, c.in-None.ensures.weight)) (λ e. cc)),
      c.self.invariant.1,
      λ known t. subst (Stood g.D.Disk.clock g.D.Disk.moments g.K.Opening.moment g.K.Opening.images g.K.Opening.moments c.self.inside.base.value c.self.inside.count c.self.inside.journal c.self.inside.core c.self.inside.history.items) (sym c.keep.ensures)
          (stood_still g.D.Disk.clock g.D.Disk.moments g.K.Opening.moment g.K.Opening.images g.K.Opening.moments c.self.inside.base.value c.self.inside.count c.self.inside.journal c.self.inside.core c.self.inside.history.items old.exchanges old.run (subst (Stood g.D.Disk.clock g.D.Disk.moments g.K.Opening.moment g.K.Opening.images g.K.Opening.moments c.self.inside.base.value c.self.inside.count c.self.inside.journal c.self.inside.core c.self.inside.history.items) none (c.self.invariant.2 known t)) c.args.chair c.args.event (met SessionFull c.args.chair c.args.event)),
    )

pub returns-in-None-clause-outcome : goal.returns-in-None-clause-outcome
returns-in-None-clause-outcome g c = rw (← c.self.view_is)
    (is_too_heavy g.D.Disk.told g.D.Disk.bytes_of g.D.Disk.images g.D.Disk.clock g.D.Disk.moments g.D.Disk.faults c.self.inside.base.value c.self.inside.count c.self.inside.journal c.self.inside.core c.self.inside.history.items c.self.inside.kept c.args.chair c.args.event c.keep.new.kept (omega (arith, c.self.invariant.1, c.self.invariant.0.light, c.in-None.ensures.weight)) c.keep.ensures)

pub returns-in-None-clause-any_moment : goal.returns-in-None-clause-any_moment
returns-in-None-clause-any_moment g c = rw (← c.self.view_is) (λ t.
    let none : c.self.inside.kept ≡ None = ap (λ s. s.kept) c.self.view_is ∙ c.requires.sound in
    let old = subst (Sound g.D.Disk.told g.D.Disk.bytes_of g.D.Disk.images g.D.Disk.clock g.D.Disk.moments g.D.Disk.faults c.self.inside.base.value c.self.inside.count c.self.inside.journal c.self.inside.core c.self.inside.history.items) none c.self.invariant.0 in
    idle g.D.Disk.clock g.D.Disk.moments c.self.inside.journal.disk _ (λ e left. inl (old.stops t e (g.met.D.Disk.only_now t c.self.inside.journal.disk e left))))

pub invariant_of-self-then-is_err : goal.invariant_of-self-then-is_err
invariant_of-self-then-is_err g c =
    let none : c.self.inside.kept ≡ None = ap (λ s. s.kept) c.self.view_is ∙ c.requires.sound in
    let old = subst (Sound g.D.Disk.told g.D.Disk.bytes_of g.D.Disk.images g.D.Disk.clock g.D.Disk.moments g.D.Disk.faults c.self.inside.base.value c.self.inside.count c.self.inside.journal c.self.inside.core c.self.inside.history.items) none c.self.invariant.0 in (
      subst (λ h. Sound g.D.Disk.told g.D.Disk.bytes_of g.D.Disk.images g.D.Disk.clock g.D.Disk.moments g.D.Disk.faults c.self.inside.base.value c.self.inside.count c.self.inside.journal c.self.inside.core h c.keep-then-is_err.new.kept) (sym c.reserve.ensures.items)
          (subst (Sound g.D.Disk.told g.D.Disk.bytes_of g.D.Disk.images g.D.Disk.clock g.D.Disk.moments g.D.Disk.faults c.self.inside.base.value c.self.inside.count c.self.inside.journal c.self.inside.core c.self.inside.history.items) (sym c.keep-then-is_err.ensures)
          (refused g.D.Disk.told g.D.Disk.bytes_of g.D.Disk.images g.D.Disk.clock g.D.Disk.moments g.D.Disk.faults c.self.inside.base.value c.self.inside.count c.self.inside.journal c.self.inside.core c.self.inside.history.items old OutOfMemory c.args.chair c.args.event (λ e. cc) (λ e. cc) (λ e. cc) (λ e. cc))),
      c.self.invariant.1 ∙ ap weight (sym c.reserve.ensures.items),
      λ known t. subst (λ h. Stood g.D.Disk.clock g.D.Disk.moments g.K.Opening.moment g.K.Opening.images g.K.Opening.moments c.self.inside.base.value c.self.inside.count c.self.inside.journal c.self.inside.core h c.keep-then-is_err.new.kept) (sym c.reserve.ensures.items)
          (subst (Stood g.D.Disk.clock g.D.Disk.moments g.K.Opening.moment g.K.Opening.images g.K.Opening.moments c.self.inside.base.value c.self.inside.count c.self.inside.journal c.self.inside.core c.self.inside.history.items) (sym c.keep-then-is_err.ensures) (stood_still g.D.Disk.clock g.D.Disk.moments g.K.Opening.moment g.K.Opening.images g.K.Opening.moments c.self.inside.base.value c.self.inside.count c.self.inside.journal c.self.inside.core c.self.inside.history.items old.exchanges old.run (subst (Stood g.D.Disk.clock g.D.Disk.moments g.K.Opening.moment g.K.Opening.images g.K.Opening.moments c.self.inside.base.value c.self.inside.count c.self.inside.journal c.self.inside.core c.self.inside.history.items) none (c.self.invariant.2 known t)) c.args.chair c.args.event (met OutOfMemory c.args.chair c.args.event))),
    )

pub returns-then-is_err-clause-outcome : goal.returns-then-is_err-clause-outcome
returns-then-is_err-clause-outcome g c = rw (← c.self.view_is) (
    let light : weight c.self.inside.history.items + weight_of c.args.event ≤ 67108864 = omega (arith, c.self.invariant.1, c.self.invariant.0.light, c.in-Some.ensures.weight.0, c.in-Some.ensures.weight.1) in
    has_no_memory g.D.Disk.told g.D.Disk.bytes_of g.D.Disk.images g.D.Disk.clock g.D.Disk.moments g.D.Disk.faults c.self.inside.base.value c.self.inside.count c.self.inside.journal c.self.inside.core c.self.inside.history.items c.self.inside.kept c.args.chair c.args.event c.reserve.new.self.items c.keep-then-is_err.new.kept c.reserve.ensures.items light c.keep-then-is_err.ensures)

pub returns-then-is_err-clause-any_moment : goal.returns-then-is_err-clause-any_moment
returns-then-is_err-clause-any_moment g c = rw (← c.self.view_is) (λ t.
    let none : c.self.inside.kept ≡ None = ap (λ s. s.kept) c.self.view_is ∙ c.requires.sound in
    let old = subst (Sound g.D.Disk.told g.D.Disk.bytes_of g.D.Disk.images g.D.Disk.clock g.D.Disk.moments g.D.Disk.faults c.self.inside.base.value c.self.inside.count c.self.inside.journal c.self.inside.core c.self.inside.history.items) none c.self.invariant.0 in
    idle g.D.Disk.clock g.D.Disk.moments c.self.inside.journal.disk _ (λ e left. inl (old.stops t e (g.met.D.Disk.only_now t c.self.inside.journal.disk e left))))

pub invariant_of-self-in-Ok : goal.invariant_of-self-in-Ok
invariant_of-self-in-Ok g c =
    let none : c.self.inside.kept ≡ None = ap (λ s. s.kept) c.self.view_is ∙ c.requires.sound in
    let old = subst (Sound g.D.Disk.told g.D.Disk.bytes_of g.D.Disk.images g.D.Disk.clock g.D.Disk.moments g.D.Disk.faults c.self.inside.base.value c.self.inside.count c.self.inside.journal c.self.inside.core c.self.inside.history.items) none c.self.invariant.0 in
    let light : weight c.self.inside.history.items + weight_of c.args.event ≤ 67108864 = omega (arith, c.self.invariant.1, c.self.invariant.0.light, c.in-Some.ensures.weight.0, c.in-Some.ensures.weight.1) in
    let is = c.note.ensures ∙ ap (λ l. l ++ (c.args.chair, c.args.event) ∷ []) c.reserve.ensures.items in (
      subst (Sound g.D.Disk.told g.D.Disk.bytes_of g.D.Disk.images g.D.Disk.clock g.D.Disk.moments g.D.Disk.faults c.self.inside.base.value c.self.inside.count c.perform.new.journal c.perform.new.core c.note.new.self.items) (sym none)
          (done_by g.D.Disk.told g.D.Disk.bytes_of g.D.Disk.images g.D.Disk.clock g.D.Disk.moments g.D.Disk.faults c.self.inside.base.value c.self.inside.count c.self.inside.journal c.self.inside.core c.self.inside.history.items old c.perform.new.journal c.args.chair c.args.event c.in-Ok.reply c.perform.new.core c.note.new.self.items c.in-Ok.ensures.outcome is c.in-Ok.ensures.later light),
      omega (arith, c.self.invariant.1, c.in-Some.ensures.weight.0, ap weight is, weight_on c.self.inside.history.items c.args.chair c.args.event),
      λ known t. subst (Stood g.D.Disk.clock g.D.Disk.moments g.K.Opening.moment g.K.Opening.images g.K.Opening.moments c.self.inside.base.value c.self.inside.count c.perform.new.journal c.perform.new.core c.note.new.self.items) (sym none)
          (stood_done g.D.Disk.clock g.D.Disk.moments g.K.Opening.moment g.K.Opening.images g.K.Opening.moments c.self.inside.base.value c.self.inside.count c.self.inside.journal c.self.inside.core c.self.inside.history.items old.exchanges old.run (subst (Stood g.D.Disk.clock g.D.Disk.moments g.K.Opening.moment g.K.Opening.images g.K.Opening.moments c.self.inside.base.value c.self.inside.count c.self.inside.journal c.self.inside.core c.self.inside.history.items) none (c.self.invariant.2 known t)) c.args.chair c.args.event c.perform.new.journal c.perform.new.core c.note.new.self.items is (c.in-Ok.ensures.any_moment t)),
    )

pub returns-in-Ok-clause-outcome : goal.returns-in-Ok-clause-outcome
returns-in-Ok-clause-outcome g c = rw (← c.self.view_is) (
    let none : c.self.inside.kept ≡ None = ap (λ s. s.kept) c.self.view_is ∙ c.requires.sound in
    let old = subst (Sound g.D.Disk.told g.D.Disk.bytes_of g.D.Disk.images g.D.Disk.clock g.D.Disk.moments g.D.Disk.faults c.self.inside.base.value c.self.inside.count c.self.inside.journal c.self.inside.core c.self.inside.history.items) none c.self.invariant.0 in
    let light : weight c.self.inside.history.items + weight_of c.args.event ≤ 67108864 = omega (arith, c.self.invariant.1, c.self.invariant.0.light, c.in-Some.ensures.weight.0, c.in-Some.ensures.weight.1) in
    let is = c.note.ensures ∙ ap (λ l. l ++ (c.args.chair, c.args.event) ∷ []) c.reserve.ensures.items in
    acted g.D.Disk.told g.D.Disk.bytes_of g.D.Disk.images g.D.Disk.clock g.D.Disk.moments g.D.Disk.faults c.self.inside.base.value c.self.inside.count c.self.inside.journal c.self.inside.core c.self.inside.history.items c.self.inside.kept c.perform.new.journal c.args.chair c.args.event c.in-Ok.reply c.perform.new.core c.note.new.self.items c.in-Ok.ensures.outcome is light none)

pub invariant_of-self-in-Err : goal.invariant_of-self-in-Err
invariant_of-self-in-Err g c =
    let none : c.self.inside.kept ≡ None = ap (λ s. s.kept) c.self.view_is ∙ c.requires.sound in
    let old = subst (Sound g.D.Disk.told g.D.Disk.bytes_of g.D.Disk.images g.D.Disk.clock g.D.Disk.moments g.D.Disk.faults c.self.inside.base.value c.self.inside.count c.self.inside.journal c.self.inside.core c.self.inside.history.items) none c.self.invariant.0 in (
      subst (Sound g.D.Disk.told g.D.Disk.bytes_of g.D.Disk.images g.D.Disk.clock g.D.Disk.moments g.D.Disk.faults c.self.inside.base.value c.self.inside.count c.perform.new.journal c.perform.new.core c.reserve.new.self.items) (sym c.keep-in-Err.ensures)
          (subst (λ h. Sound g.D.Disk.told g.D.Disk.bytes_of g.D.Disk.images g.D.Disk.clock g.D.Disk.moments g.D.Disk.faults c.self.inside.base.value c.self.inside.count c.perform.new.journal c.perform.new.core h (Some (met c.in-Err.fault c.args.chair c.args.event))) (sym c.reserve.ensures.items)
          (undone_by g.D.Disk.told g.D.Disk.bytes_of g.D.Disk.images g.D.Disk.clock g.D.Disk.moments g.D.Disk.faults c.self.inside.base.value c.self.inside.count c.self.inside.journal c.self.inside.core c.self.inside.history.items old c.perform.new.journal c.args.chair c.args.event c.perform.new.core c.in-Err.fault c.in-Err.ensures.outcome c.in-Err.ensures.any_moment c.in-Err.ensures.later
          (λ t e here. g.met.D.Disk.counts_now t c.perform.new.journal.disk (g.D.Disk.clock c.self.inside.journal.disk) e (c.in-Err.ensures.any_moment t).later here))),
      c.self.invariant.1 ∙ ap weight (sym c.reserve.ensures.items),
      λ known t. subst (Stood g.D.Disk.clock g.D.Disk.moments g.K.Opening.moment g.K.Opening.images g.K.Opening.moments c.self.inside.base.value c.self.inside.count c.perform.new.journal c.perform.new.core c.reserve.new.self.items) (sym c.keep-in-Err.ensures)
          (stood_undone g.D.Disk.clock g.D.Disk.moments g.K.Opening.moment g.K.Opening.images g.K.Opening.moments c.self.inside.base.value c.self.inside.count c.self.inside.journal c.self.inside.core c.self.inside.history.items old.exchanges old.run (subst (Stood g.D.Disk.clock g.D.Disk.moments g.K.Opening.moment g.K.Opening.images g.K.Opening.moments c.self.inside.base.value c.self.inside.count c.self.inside.journal c.self.inside.core c.self.inside.history.items) none (c.self.invariant.2 known t)) c.args.chair c.args.event c.perform.new.journal c.perform.new.core c.reserve.new.self.items c.in-Err.fault c.in-Err.ensures.outcome.same c.reserve.ensures.items c.in-Err.ensures.outcome.stays (c.in-Err.ensures.any_moment t)),
    )

pub returns-in-Err-clause-outcome : goal.returns-in-Err-clause-outcome
returns-in-Err-clause-outcome g c = rw (← c.self.view_is) (
    let light : weight c.self.inside.history.items + weight_of c.args.event ≤ 67108864 = omega (arith, c.self.invariant.1, c.self.invariant.0.light, c.in-Some.ensures.weight.0, c.in-Some.ensures.weight.1) in
    has_stopped g.D.Disk.told g.D.Disk.bytes_of g.D.Disk.images g.D.Disk.clock g.D.Disk.moments g.D.Disk.faults c.self.inside.base.value c.self.inside.count c.self.inside.journal c.self.inside.core c.self.inside.history.items c.self.inside.kept c.perform.new.journal c.args.chair c.args.event c.perform.new.core c.reserve.new.self.items c.keep-in-Err.new.kept c.in-Err.fault c.in-Err.ensures.outcome c.reserve.ensures.items light c.keep-in-Err.ensures)
