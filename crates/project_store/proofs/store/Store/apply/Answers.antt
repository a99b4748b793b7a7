use Rattle.std.proofs.Common.{◌≡◌, ◌∙◌, Some, inl, sym, ap, subst, refl}
use Rattle.std.specs.Prelude.{Err, IsErrOf}
use Rattle.core_steps.specs.declared.events.Reply.{Reply}
use Rattle.store_log.specs.declared.fault.StoreFault.{StoreFault}
use Rattle.store_log.specs.declared.fault.StoreFault.TheVariants.{DiskFault}
use Rattle.project_store.specs.Store.{IsDiskFault, IsImage, again}
use Rattle.project_store.proofs.Applying.{applied, image_after, never_again}
use Rattle.project_store.proofs.Moments.{idle}
use Rattle.project_store.proofs.store.Store.apply.Goals as goal

pub returns-clause-step : goal.returns-clause-step
returns-clause-step g c = (applied g.D.Disk.told g.D.Disk.images g.D.Disk.faults _ _ c.args.chair c.args.event c.act.result c.act.ensures.outcome).step

pub returns-clause-noted : goal.returns-clause-noted
returns-clause-noted g c = (applied g.D.Disk.told g.D.Disk.images g.D.Disk.faults _ _ c.args.chair c.args.event c.act.result c.act.ensures.outcome).noted

pub returns-clause-same : goal.returns-clause-same
returns-clause-same g c = (applied g.D.Disk.told g.D.Disk.images g.D.Disk.faults _ _ c.args.chair c.args.event c.act.result c.act.ensures.outcome).same

pub returns-clause-acknowledged : goal.returns-clause-acknowledged
returns-clause-acknowledged g c = (applied g.D.Disk.told g.D.Disk.images g.D.Disk.faults _ _ c.args.chair c.args.event c.act.result c.act.ensures.outcome).acknowledged

pub returns-clause-first : goal.returns-clause-first
returns-clause-first g c = λ none. (applied g.D.Disk.told g.D.Disk.images g.D.Disk.faults _ _ c.args.chair c.args.event c.act.result c.act.ensures.outcome).first

pub returns-clause-heavy : goal.returns-clause-heavy
returns-clause-heavy g c = λ none. (applied g.D.Disk.told g.D.Disk.images g.D.Disk.faults _ _ c.args.chair c.args.event c.act.result c.act.ensures.outcome).heavy

pub returns-clause-full : goal.returns-clause-full
returns-clause-full g c = λ none. (applied g.D.Disk.told g.D.Disk.images g.D.Disk.faults _ _ c.args.chair c.args.event c.act.result c.act.ensures.outcome).full

pub returns-clause-no_room : goal.returns-clause-no_room
returns-clause-no_room g c = (applied g.D.Disk.told g.D.Disk.images g.D.Disk.faults _ _ c.args.chair c.args.event c.act.result c.act.ensures.outcome).no_room

pub returns-clause-fault : goal.returns-clause-fault
returns-clause-fault g c = (applied g.D.Disk.told g.D.Disk.images g.D.Disk.faults _ _ c.args.chair c.args.event c.act.result c.act.ensures.outcome).fault

pub returns-clause-untouched : goal.returns-clause-untouched
returns-clause-untouched g c = (applied g.D.Disk.told g.D.Disk.images g.D.Disk.faults _ _ c.args.chair c.args.event c.act.result c.act.ensures.outcome).untouched

pub returns-clause-kept : goal.returns-clause-kept
returns-clause-kept g c = λ none. (applied g.D.Disk.told g.D.Disk.images g.D.Disk.faults _ _ c.args.chair c.args.event c.act.result c.act.ensures.outcome).kept

pub returns-in-Some-clause-any_moment : goal.returns-in-Some-clause-any_moment
returns-in-Some-clause-any_moment g c = rw (← c.self.view_is) (λ t other.
    idle g.D.Disk.clock g.D.Disk.moments c.self.inside.journal.disk _
    (λ e left. inl (image_after c.self.inside.core c.in-Some.kept e (λ is. other (subst IsDiskFault (sym c.in-Some.is) is)) (subst (λ k. IsImage c.self.inside.core k e) c.in-Some.is
    (c.self.invariant.0.stops t e (g.met.D.Disk.only_now t c.self.inside.journal.disk e left))))))

pub returns-in-Some-clause-fault : goal.returns-in-Some-clause-fault
returns-in-Some-clause-fault g c = λ e. absurd (never_again c.in-Some.kept.fault (subst (λ f. IsErrOf {T = Reply} {E = StoreFault} (Err f) DiskFault) c.again.ensures e))

pub returns-in-Some-clause-no_room : goal.returns-in-Some-clause-no_room
returns-in-Some-clause-no_room g c = λ none. (tt, λ e. never_again c.in-Some.kept.fault (subst (λ f. IsErrOf {T = Reply} {E = StoreFault} (Err f) DiskFault) c.again.ensures e))

pub returns-in-Some-clause-again : goal.returns-in-Some-clause-again
returns-in-Some-clause-again g c = rw (← c.self.view_is) (λ kept is.
    let e : Some c.in-Some.kept ≡ Some kept = sym c.in-Some.is ∙ is in
    let same : c.in-Some.kept ≡ kept = cc in
    (ap Err (c.again.ensures ∙ ap (λ k. again k.fault) same), refl))
