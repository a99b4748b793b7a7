use Rattle.std.proofs.Common.{◌∙◌, ap, sym, [], ◌∷◌, map}
use Rattle.std.proofs.lemmas.Iterator.{YieldsList-from_slice, YieldsList-from_zip}
use Rattle.std.proofs.lemmas.Iterator.Consumers.{YieldsList-at, YieldsList-end}
use Rattle.formula_core.specs.Formulas.{joined}
use Rattle.model_core.specs.Faults.{first_by_place}
use Rattle.check_rules.specs.Refinements.{refinement_row}
use Rattle.refine_check.proofs.Faults.{joined_more, map-append}
use Rattle.refine_check.proofs.refinement.first_in_events.Goals as goal

pub loop-event-preserved : goal.loop-event-preserved
loop-event-preserved c =
    c.earlier-first.ensures
    ∙ joined_more (refinement_row c.args.beside.now.component.now c.args.beside.now.events.now c.args.beside.now.lost.now c.args.beside.now.has_variant) (map (λ p. (p.0.now, p.1.now)) c.loop-event.yielded) (c.in-Some.event.now, c.in-Some.one.now) c.loop-event.first c.in_ok-here.here
    c.loop-event.invariant c.in_ok-here.ensures
    ∙ ap (λ xs. first_by_place (joined (map (refinement_row c.args.beside.now.component.now c.args.beside.now.events.now c.args.beside.now.lost.now c.args.beside.now.has_variant) xs))) (sym (map-append (λ p. (p.0.now, p.1.now)) c.loop-event.yielded ((c.in-Some.event, c.in-Some.one) ∷ [])))

pub returns : goal.returns
returns c =
    let road = YieldsList-at c.into_iter-event-iterator.ensures.into_iter_gives (YieldsList-from_zip
    (YieldsList-at c.zip-event-items.ensures.first (YieldsList-from_slice c.args.written.now c.iter.ensures.rest))
    (YieldsList-at c.zip-event-items.ensures.second (YieldsList-from_slice c.args.typed.now c.iter-2.ensures.rest))) in
    let t = YieldsList-end road c.loop-event.yielded c.loop-event.event-iterator c.loop-event.yielded_by c.next.result c.next.new.self c.in-None.is c.next.ensures.steps in
    c.loop-event.invariant ∙ ap (λ xs. first_by_place (joined (map (refinement_row c.args.beside.now.component.now c.args.beside.now.events.now c.args.beside.now.lost.now c.args.beside.now.has_variant) xs))) t.0
