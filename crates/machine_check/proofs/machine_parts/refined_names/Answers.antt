use Rattle.std.proofs.Common.{◌∙◌, ◌||◌, ap, map, false}
use Rattle.formula_core.specs.Formulas.{joined}
use Rattle.model_core.specs.Each.{is_among}
use Rattle.model_core.specs.Borrowed.{has}
use Rattle.machine_check.proofs.Machines.{joined_refines, texts_grow}
use Rattle.context_check.proofs.Repeated.{has_none}
use Rattle.context_check.proofs.Views.{append_none}
use Rattle.machine_check.proofs.machine_parts.refined_names.Goals as goal

pub loop-event-init : goal.loop-event-init
loop-event-init c = has_none c.new-texts.result c.new-texts.ensures.empty

pub loop-event-preserved : goal.loop-event-preserved
loop-event-preserved c =
    texts_grow (λ es. joined (map (λ e. e.refines) es)) joined_refines c.args.events.now c.loop-event.event-index c.event-item.result
    (λ x. false) (has c.loop-event.texts) (has c.add_names.new.texts) c.loop-event-test.true c.event-item.is c.loop-event.invariant
    (λ x. c.in_ok-add_names.ensures x ∙ ap (λ ns. has c.loop-event.texts x || is_among ns x) (c.items.ensures ∙ append_none c.event-item.result.refines))
