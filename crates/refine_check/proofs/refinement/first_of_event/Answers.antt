use Rattle.std.proofs.Common.{◌∙◌, ◌++◌, List, map}
use Rattle.model_core.specs.declared.checked.CheckedEvent.{CheckedEvent}
use Rattle.model_core.specs.Faults.{first_by_place}
use Rattle.check_rules.specs.Refinements.{no_abstract_events, lost_in_own, lost_in_inherited}
use Rattle.refine_check.specs.Private.{merged_differ_of, bad_witnesses_of, needed_of, bad_convergence_of}
use Rattle.refine_check.proofs.Faults.{six}
use Rattle.refine_check.proofs.refinement.first_of_event.Goals as goal

pub returns : goal.returns
returns c =
    let abstract : List CheckedEvent = map (λ x. x.now) c.args.refined.now in
    six (no_abstract_events c.args.beside.now.component.now c.args.beside.now.events.now c.args.event.now)
    (merged_differ_of c.args.beside.now.component.now c.args.beside.now.events.now c.in_ok-kept.kept c.args.event.now)
    (bad_witnesses_of c.args.beside.now.component.now (needed_of abstract c.in_ok-kept.kept c.args.beside.now.lost.now c.args.event.now) c.args.event.now)
    (lost_in_own c.args.beside.now.component.now c.args.beside.now.lost.now c.args.event.now)
    (lost_in_inherited c.args.beside.now.component.now c.args.beside.now.lost.now (c.args.event.now, c.args.typed.now))
    (bad_convergence_of c.args.beside.now.component.now abstract c.args.beside.now.has_variant c.args.event.now)
    c.in_ok-unpaired.unpaired c.in_ok-merged.merged c.in_ok-witness.witness c.in_ok-own.own c.in_ok-inherited.inherited c.in_ok-badly.badly
    c.earlier-two.result c.earlier-three.result c.earlier-four.result c.earlier-five.result c.earlier.result
    c.in_ok-unpaired.ensures c.in_ok-merged.ensures c.in_ok-witness.ensures c.in_ok-own.ensures c.in_ok-inherited.ensures c.in_ok-badly.ensures
    c.earlier-two.ensures c.earlier-three.ensures c.earlier-four.ensures c.earlier-five.ensures c.earlier.ensures
    ∙ (λ i. first_by_place (no_abstract_events c.args.beside.now.component.now c.args.beside.now.events.now c.args.event.now
    ++ merged_differ_of c.args.beside.now.component.now c.args.beside.now.events.now (c.in_ok-kept.ensures i) c.args.event.now
    ++ bad_witnesses_of c.args.beside.now.component.now (needed_of abstract (c.in_ok-kept.ensures i) c.args.beside.now.lost.now c.args.event.now) c.args.event.now
    ++ lost_in_own c.args.beside.now.component.now c.args.beside.now.lost.now c.args.event.now
    ++ lost_in_inherited c.args.beside.now.component.now c.args.beside.now.lost.now (c.args.event.now, c.args.typed.now)
    ++ bad_convergence_of c.args.beside.now.component.now abstract c.args.beside.now.has_variant c.args.event.now))
