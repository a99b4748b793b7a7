use Rattle.std.proofs.Common.{◌≡◌, ◌∙◌, ap, map, subst, IfOk}
use Rattle.model_core.specs.Faults.{first_by_place}
use Rattle.refine_check.specs.Private.{event_row}
use Rattle.refine_check.proofs.refinement.first_at_event.Goals as goal

pub returns : goal.returns
returns c =
    subst (λ abstract. IfOk c.first_of_event.result (λ first. first ≡ first_by_place (event_row c.args.beside.now.component.now c.args.beside.now.events.now abstract c.args.beside.now.lost.now c.args.beside.now.has_variant (c.args.event.now, c.args.typed.now))))
    (ap (map (λ x. x.now)) c.deref.ensures.value ∙ c.in_ok-refined.ensures)
    c.first_of_event.ensures
