use Rattle.std.proofs.Common.{◌≡◌, ◌∙◌, inl, sym, ap, subst}
use Rattle.std.specs.Prelude.{Ok, Err, MatchResult}
use Rattle.std.proofs.lemmas.Result.{err_from_is_err_and}
use Rattle.core_steps.specs.State.{entered_if}
use Rattle.prepared_events.specs.Prepared.{IsReady, changed_by}
use Rattle.project_store.specs.Records.{IsSmall, Recovers, RecoversAt}
use Rattle.project_store.proofs.Moments.{idle}
use Rattle.project_store.proofs.Preparing.{IsRecorded, finished, refused_for_memory, event_moments}
use Rattle.project_store.proofs.acting.perform.Goals as goal

pub record_prepared-recorded-requires : goal.record_prepared-recorded-requires
record_prepared-recorded-requires g c =
    let at = c.durable.ensures.durable ∙ ap (λ s. s.durable) c.prepare.ensures.same in
    record {
      sound = c.requires.sound;
      small = subst IsSmall (sym at) c.requires.small;
      next = subst (λ d. IsSmall (entered_if d c.in_ok-prepared.prepared.entry)) (sym at) c.in_ok-prepared.ensures.known.small;
      reads = λ t. subst (λ d. RecoversAt (g.D.Disk.bytes_of c.args.journal.now.disk) c.args.journal.now.side c.args.journal.now.generation d) (sym at) (c.requires.reads t);
      stops = λ t e here. subst (Recovers e) (sym at) (c.requires.stops t e here);
    }

pub commit_if-requires : goal.commit_if-requires
commit_if-requires g c = subst (λ s. IsReady s c.in_ok-prepared.prepared) (sym c.prepare.ensures.same) c.in_ok-prepared.ensures.known.ready

pub returns-clause-outcome : goal.returns-clause-outcome
returns-clause-outcome g c =
    let p = c.in_ok-prepared.prepared in
    let r = c.record_prepared-recorded.ensures in
    let recorded = c.record_prepared-recorded.result in
    let same = c.prepare.ensures.same in
    let at = c.durable.ensures.durable ∙ ap (λ s. s.durable) same in
    finished g.D.Disk.told g.D.Disk.bytes_of g.D.Disk.images g.D.Disk.faults c.args.journal.now c.record_prepared-recorded.new.journal c.args.core.now c.args.event.now p c.in_ok-prepared.ensures.known
    recorded c.commit_if.result c.commit_if.new.core
    (subst (λ d. IsRecorded g.D.Disk.told g.D.Disk.bytes_of g.D.Disk.images g.D.Disk.faults c.args.journal.now c.record_prepared-recorded.new.journal d p.entry recorded) at
    (record { idle = r.idle; acknowledged = r.acknowledged; reads = r.reads; sound = r.sound; causes = r.causes; full = r.full; refused = r.refused; fault = r.fault; failed = r.failed }))
    (subst (λ s. MatchResult recorded (λ _. (c.commit_if.result ≡ Ok p.reply) × (c.commit_if.new.core ≡ changed_by p s)) (λ fault. (c.commit_if.result ≡ Err fault) × (c.commit_if.new.core ≡ s))) same c.commit_if.ensures)

pub returns-clause-any_moment : goal.returns-clause-any_moment
returns-clause-any_moment g c = λ t.
    let p = c.in_ok-prepared.prepared in
    let known = c.in_ok-prepared.ensures.known in
    let at = c.durable.ensures.durable ∙ ap (λ s. s.durable) c.prepare.ensures.same in
    event_moments g.D.Disk.clock g.D.Disk.moments _ _ c.args.core.now c.durable.result.now c.args.event.now p.reply p.entry (changed_by p c.args.core.now) (c.record_prepared-recorded.ensures.any_moment t) at known.does known.enters

pub returns-in_err-prepared-clause-outcome : goal.returns-in_err-prepared-clause-outcome
returns-in_err-prepared-clause-outcome g c =
    let q = err_from_is_err_and c.from_residual.result c.from_residual.ensures.1 in
    refused_for_memory g.D.Disk.told g.D.Disk.bytes_of g.D.Disk.images g.D.Disk.faults c.args.journal.now c.args.core.now c.prepare.new.core c.args.event.now c.from_residual.result q.0 q.1 q.2 c.prepare.ensures.same

pub returns-in_err-prepared-clause-any_moment : goal.returns-in_err-prepared-clause-any_moment
returns-in_err-prepared-clause-any_moment g c = λ t.
    idle g.D.Disk.clock g.D.Disk.moments c.args.journal.now.disk _ (λ e left. inl (c.requires.stops t e (g.met.D.Disk.only_now t c.args.journal.now.disk e left)))
