use Rattle.std.proofs.Common.{◌∙◌, ap, subst, map}
use Rattle.std.specs.Arc.{arc_value}
use Rattle.static_check.specs.Settling.{IsComponentOrder}
use Rattle.build_core.proofs.components.Components.order.Goals as goal

pub returns : goal.returns
returns c =
    rw (← c.self.view_is) (subst (λ cs. IsComponentOrder cs c.in_ok-order.order)
    (ap (map (λ x. x.now)) c.deref-2.ensures.value ∙ c.in_ok-components.ensures ∙ ap (map arc_value) c.deref.ensures.value) c.in_ok-order.ensures)
