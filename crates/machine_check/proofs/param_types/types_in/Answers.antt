use Rattle.std.proofs.Common.{◌∙◌, ap, None}
use Rattle.std.specs.Option.{option_or}
use Rattle.formula_core.specs.Env.{type_in}
use Rattle.context_check.proofs.Views.{append_none}
use Rattle.machine_check.specs.PrivateTyped.{type_of_text}
use Rattle.machine_check.proofs.Params.{params_append, params_of}
use Rattle.machine_check.proofs.Types.{none_there, types_grow}
use Rattle.machine_check.proofs.param_types.types_in.Goals as goal

pub loop-event-init : goal.loop-event-init
loop-event-init c = none_there c.new-types.result c.new-types.ensures.empty

pub loop-event-preserved : goal.loop-event-preserved
loop-event-preserved c =
    types_grow params_of params_append c.args.events.now c.loop-event.event-index c.event-item.result
    (λ x. None) (type_of_text c.loop-event.types) (type_of_text c.note_types.new.types) c.loop-event-test.true c.event-item.is c.loop-event.invariant
    (λ x. c.in_ok-note_types.ensures x ∙ ap (λ ps. option_or (type_of_text c.loop-event.types x) (type_in ps x)) (c.items.ensures ∙ append_none c.event-item.result.now.params))
