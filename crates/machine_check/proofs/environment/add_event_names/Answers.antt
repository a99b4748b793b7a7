use Rattle.std.proofs.Common.{◌∙◌, ap}
use Rattle.type_action.specs.CoreActions.{with_all}
use Rattle.check_rules.specs.Contexts.{names_of}
use Rattle.check_rules.specs.Typed.{in_order}
use Rattle.machine_check.proofs.Params.{behind}
use Rattle.machine_check.proofs.environment.add_event_names.Goals as goal

pub returns : goal.returns
returns c =
    let inherited = c.in_ok-add_all.ensures ∙ ap (with_all c.args.env.now) c.inherited_params.ensures in
    c.in_ok-add_flowing.ensures ∙ (λ i. with_all (inherited i) (in_order (behind c.args.refined.now i) (names_of (c.items.ensures i))))
