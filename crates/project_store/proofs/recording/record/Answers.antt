use Rattle.std.proofs.Common.{inl, ◌⊎◌, sym, subst, [], ◌∷◌}
use Rattle.core_steps.specs.State.{entered}
use Rattle.project_store.specs.Records.{Recovers, RecoversAt, IsBody}
use Rattle.project_store.proofs.Moments.{weaken, both}
use Rattle.project_store.proofs.Further.{one_further, before_or_after}
use Rattle.project_store.proofs.recording.record.Goals as goal

pub returns-in-Ok-clause-any_moment : goal.returns-in-Ok-clause-any_moment
returns-in-Ok-clause-any_moment g c = λ t.
    let mid = c.in_ok-make_room.ensures.reads t in
    let body = subst (λ b. IsBody b (c.args.entry.now ∷ [])) (sym c.deref.ensures.value) c.in_ok-body.ensures.good in
    both g.D.Disk.clock g.D.Disk.moments _ _ _ (λ e. Recovers e c.args.durable.now ⊎ Recovers e (entered c.args.durable.now c.args.entry.now))
    (weaken g.D.Disk.clock g.D.Disk.moments _ _ _ _ (c.make_room.ensures.any_moment t) (λ e same. inl same))
    (weaken g.D.Disk.clock g.D.Disk.moments _ _ _ _ (c.append.ensures.any_moment t c.in_ok-make_room.ensures.room.1 mid.bodies mid.stands)
    (before_or_after c.make_room.new.journal.side c.make_room.new.journal.generation c.args.durable.now mid.bodies mid.leads c.args.entry.now _ body c.requires.next))

pub returns-in-Ok-clause-acknowledged : goal.returns-in-Ok-clause-acknowledged
returns-in-Ok-clause-acknowledged g c = λ t e now.
    let mid = c.in_ok-make_room.ensures.reads t in
    let body = subst (λ b. IsBody b (c.args.entry.now ∷ [])) (sym c.deref.ensures.value) c.in_ok-body.ensures.good in (
      c.make_room.new.journal.side,
      c.make_room.new.journal.generation,
      one_further c.make_room.new.journal.side c.make_room.new.journal.generation c.args.durable.now mid.bodies mid.leads c.args.entry.now _ body c.requires.next e (c.in-Ok.ensures.acknowledged t mid.bodies mid.stands e now),
    )

pub returns-in-Ok-clause-reads : goal.returns-in-Ok-clause-reads
returns-in-Ok-clause-reads g c = λ t.
    let mid = c.in_ok-make_room.ensures.reads t in
    let body = subst (λ b. IsBody b (c.args.entry.now ∷ [])) (sym c.deref.ensures.value) c.in_ok-body.ensures.good in
    let at = one_further c.make_room.new.journal.side c.make_room.new.journal.generation c.args.durable.now mid.bodies mid.leads c.args.entry.now _ body c.requires.next _ (c.in-Ok.ensures.read t mid.bodies mid.stands) in
    subst (λ s. RecoversAt (g.D.Disk.bytes_of c.append.new.self.disk) s c.append.new.self.generation (entered c.args.durable.now c.args.entry.now)) (sym c.in-Ok.ensures.same.0)
    (subst (λ n. RecoversAt (g.D.Disk.bytes_of c.append.new.self.disk) c.make_room.new.journal.side n (entered c.args.durable.now c.args.entry.now)) (sym c.in-Ok.ensures.same.1) at)

pub returns-clause-any_moment : goal.returns-clause-any_moment
returns-clause-any_moment g c = λ t.
    let mid = c.in_ok-make_room.ensures.reads t in
    let body = subst (λ b. IsBody b (c.args.entry.now ∷ [])) (sym c.deref.ensures.value) c.in_ok-body.ensures.good in
    both g.D.Disk.clock g.D.Disk.moments _ _ _ (λ e. Recovers e c.args.durable.now ⊎ Recovers e (entered c.args.durable.now c.args.entry.now))
    (weaken g.D.Disk.clock g.D.Disk.moments _ _ _ _ (c.make_room.ensures.any_moment t) (λ e same. inl same))
    (weaken g.D.Disk.clock g.D.Disk.moments _ _ _ _ (c.append.ensures.any_moment t c.in_ok-make_room.ensures.room.1 mid.bodies mid.stands)
    (before_or_after c.make_room.new.journal.side c.make_room.new.journal.generation c.args.durable.now mid.bodies mid.leads c.args.entry.now _ body c.requires.next))

pub returns-in_err-make_room-clause-any_moment : goal.returns-in_err-make_room-clause-any_moment
returns-in_err-make_room-clause-any_moment g c = λ t. weaken g.D.Disk.clock g.D.Disk.moments _ _ _ _ (c.make_room.ensures.any_moment t) (λ e same. inl same)
