use Rattle.std.proofs.Common.{◌+◌, sym, subst}
use Rattle.journal_core.specs.Sides.{other}
use Rattle.project_store.specs.Records.{Recovers, RecoversAt, IsBody, checkpoint_entries}
use Rattle.project_store.proofs.Moments.{weaken}
use Rattle.project_store.proofs.Further.{the_state, before_or_state}
use Rattle.project_store.proofs.recording.make_room.Goals as goal

pub returns-in-Ok-clause-any_moment : goal.returns-in-Ok-clause-any_moment
returns-in-Ok-clause-any_moment g c = λ t.
    let was = c.requires.reads t in
    let body = subst (λ b. IsBody b (checkpoint_entries c.args.durable.now)) (sym c.deref.ensures.value) c.in_ok-state.ensures.good in
    weaken g.D.Disk.clock g.D.Disk.moments _ _ _ (λ e. Recovers e c.args.durable.now) (c.checkpoint.ensures.any_moment t c.requires.sound was.bodies was.stands)
    (before_or_state c.args.journal.now.side c.args.journal.now.generation c.args.durable.now was.bodies was.leads c.state_again.ensures.again _ body c.requires.small)

pub returns-in-Ok-clause-reads : goal.returns-in-Ok-clause-reads
returns-in-Ok-clause-reads g c = λ t.
    let body = subst (λ b. IsBody b (checkpoint_entries c.args.durable.now)) (sym c.deref.ensures.value) c.in_ok-state.ensures.good in
    let at = the_state c.state_again.ensures.again c.args.durable.now (other c.args.journal.now.side) (c.args.journal.now.generation + 1) _ body c.requires.small _ (c.in-Ok.ensures.read t) in
    subst (λ s. RecoversAt (g.D.Disk.bytes_of c.checkpoint.new.self.disk) s c.checkpoint.new.self.generation c.args.durable.now) (sym c.in-Ok.ensures.turned)
    (subst (λ n. RecoversAt (g.D.Disk.bytes_of c.checkpoint.new.self.disk) (other c.args.journal.now.side) n c.args.durable.now) (sym c.in-Ok.ensures.next) at)

pub returns-clause-any_moment : goal.returns-clause-any_moment
returns-clause-any_moment g c = λ t.
    let was = c.requires.reads t in
    let body = subst (λ b. IsBody b (checkpoint_entries c.args.durable.now)) (sym c.deref.ensures.value) c.in_ok-state.ensures.good in
    weaken g.D.Disk.clock g.D.Disk.moments _ _ _ (λ e. Recovers e c.args.durable.now) (c.checkpoint.ensures.any_moment t c.requires.sound was.bodies was.stands)
    (before_or_state c.args.journal.now.side c.args.journal.now.generation c.args.durable.now was.bodies was.leads c.state_again.ensures.again _ body c.requires.small)
