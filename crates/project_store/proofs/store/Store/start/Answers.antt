use Rattle.std.proofs.Common.{◌∙◌, sym, ap, subst, arith}
use Rattle.std.specs.List.{AllByRecursion}
use Rattle.journal_core.specs.Start.{bodies_of, ArePlaced}
use Rattle.outside.specs.Disk.{LeavesOnly}
use Rattle.core_steps.specs.Laws.{IsOrderly}
use Rattle.core_steps.specs.State.{no_texts}
use Rattle.project_store.specs.Records.{Leads}
use Rattle.project_store.specs.Opening.{StandsAsSome, IsCause, IsAnswerFor, durable}
use Rattle.project_store.specs.Private.{IsSingle, IsCoreFault}
use Rattle.project_store.proofs.Moments.{weaken}
use Rattle.project_store.proofs.Starting.{lifts_some, cause_of, journal_cause, journal_means, opened_means, refused_means, sound_at_first}
use Rattle.project_store.proofs.Stood.{stood_first}
use Rattle.project_store.proofs.store.Store.start.Goals as goal

pub returns-in-Err-clause-opened : goal.returns-in-Err-clause-opened
returns-in-Err-clause-opened g c = λ t. subst (IsCause (g.D.Disk.bytes_of c.args.disk)) (sym c.opening_fault.ensures) (journal_cause (g.D.Disk.bytes_of c.args.disk) c.in-Err.fault (c.in-Err.ensures.records t))

pub returns-in-Err-clause-exactly : goal.returns-in-Err-clause-exactly
returns-in-Err-clause-exactly g c = λ t meaning stands.
    subst (IsAnswerFor meaning) (sym c.opening_fault.ensures) (journal_means (g.D.Disk.bytes_of c.args.disk) c.in-Err.fault (c.in-Err.ensures.exactly t) meaning stands)

pub returns-in-Err-clause-any_moment : goal.returns-in-Err-clause-any_moment
returns-in-Err-clause-any_moment g c = λ t. weaken g.D.Disk.clock g.D.Disk.moments _ _ _ _ (c.in-Err.ensures.any_moment t) (lifts_some (g.D.Disk.images c.args.disk))

pub returns-in-Ok-open_core-clause-any_moment : goal.returns-in-Ok-open_core-clause-any_moment
returns-in-Ok-open_core-clause-any_moment g c = λ t. weaken g.D.Disk.clock g.D.Disk.moments _ _ _ _ (c.in-Ok.ensures.any_moment t) (lifts_some (g.D.Disk.images c.args.disk))

pub returns-clause-any_moment : goal.returns-clause-any_moment
returns-clause-any_moment g c = λ t.
    subst (λ d. LeavesOnly g.D.Disk.clock g.D.Disk.moments c.args.disk d (StandsAsSome (g.D.Disk.images c.args.disk))) (sym c.into_disk.ensures.disk)
    (weaken g.D.Disk.clock g.D.Disk.moments _ _ _ _ (c.in-Ok.ensures.any_moment t) (lifts_some (g.D.Disk.images c.args.disk)))

pub returns-clause-opened : goal.returns-clause-opened
returns-clause-opened g c = λ t.
    let stop = subst (λ ps. IsCoreFault (bodies_of ps) c.in-Ok.opened.0.side c.in-Err-open_core.fault) c.deref.ensures.value
    (c.in-Err-open_core.ensures.fault c.in-Ok.opened.0.side (subst (ArePlaced c.in-Ok.opened.0.side 16) (sym c.deref.ensures.value) (c.in-Ok.ensures.placed t))) in
    cause_of (g.D.Disk.bytes_of c.args.disk) c.in-Ok.opened.0.side c.in-Ok.opened.0.generation (bodies_of c.in-Ok.opened.1.items) c.in-Err-open_core.fault (c.in-Ok.ensures.records t) stop

pub returns-clause-exactly : goal.returns-clause-exactly
returns-clause-exactly g c = λ t meaning stands.
    let stop = subst (λ ps. IsCoreFault (bodies_of ps) c.in-Ok.opened.0.side c.in-Err-open_core.fault) c.deref.ensures.value
    (c.in-Err-open_core.ensures.fault c.in-Ok.opened.0.side (subst (ArePlaced c.in-Ok.opened.0.side 16) (sym c.deref.ensures.value) (c.in-Ok.ensures.placed t))) in
    refused_means (g.D.Disk.bytes_of c.args.disk) c.in-Ok.opened.0.side c.in-Ok.opened.0.generation (bodies_of c.in-Ok.opened.1.items) (c.in-Ok.ensures.exactly t) c.in-Err-open_core.fault stop meaning stands

pub returns-in-Ok-open_core-clause-exactly : goal.returns-in-Ok-open_core-clause-exactly
returns-in-Ok-open_core-clause-exactly g c = λ t meaning stands.
    let leads = subst (λ ps. Leads no_texts (bodies_of ps) c.in-Ok-open_core.core.durable) c.deref.ensures.value c.in-Ok-open_core.ensures.opened.1 in
    let single = subst (λ ps. AllByRecursion IsSingle (bodies_of ps)) c.deref.ensures.value c.in-Ok-open_core.ensures.single in
    let base_is = c.of-base.ensures ∙ c.durable.ensures.durable in
    opened_means (g.D.Disk.bytes_of c.args.disk) c.in-Ok.opened.0.side c.in-Ok.opened.0.generation (bodies_of c.in-Ok.opened.1.items) (c.in-Ok.ensures.exactly t) c.in-Ok-open_core.core.durable leads single meaning stands
    ∙ ap durable (sym base_is)

pub returns-clause-fault : goal.returns-clause-fault
returns-clause-fault g c = λ is. absurd (c.in-Err-open_core.ensures.own (let e = is in cc))

pub invariant_of-result : goal.invariant_of-result
invariant_of-result g c =
    let begun = c.in-Ok-open_core.ensures.opened.0 in
    let leads = subst (λ ps. Leads no_texts (bodies_of ps) c.in-Ok-open_core.core.durable) c.deref.ensures.value c.in-Ok-open_core.ensures.opened.1 in
    let sound = sound_at_first g.D.Disk.told g.D.Disk.bytes_of g.D.Disk.images g.D.Disk.faults c.in-Ok.opened.0 c.in-Ok-open_core.core c.of-base.result.value c.new.result.items c.faults-count.result (bodies_of c.in-Ok.opened.1.items)
    (c.of-base.ensures ∙ c.durable.ensures.durable) begun (subst IsOrderly (sym begun) (c.opens_orderly.ensures c.in-Ok-open_core.core.durable)) c.in-Ok-open_core.ensures.small leads
    c.in-Ok.ensures.begun c.in-Ok.ensures.read c.in-Ok.ensures.standing (omega (arith, c.faults-count.ensures, c.in-Ok.ensures.later)) c.new.ensures in (
      sound.0,
      sound.1,
      λ known t. stood_first g.D.Disk.clock g.D.Disk.moments g.K.Opening.moment g.K.Opening.images g.K.Opening.moments g.D.Disk.images c.args.disk (c.requires.opening known t) _ (c.in-Ok.ensures.any_moment t),
    )
