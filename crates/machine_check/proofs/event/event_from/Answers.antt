use Rattle.std.proofs.Common.{◌++◌, ◌∙◌, ap, length}
use Rattle.check_rules.specs.Contexts.{names_of}
use Rattle.check_rules.specs.Typed.{in_order}
use Rattle.machine_check.specs.PrivateTyped.{guards_in, actions_in}
use Rattle.machine_check.proofs.Events.{names_behind}
use Rattle.machine_check.proofs.event.event_from.Goals as goal

pub returns : goal.returns
returns c =
    let guards = c.guards_in-inherited_guards.ensures ∙ ap guards_in c.extended-extended.ensures in
    let actions = c.actions_in-inherited_actions.ensures ∙ ap actions_in c.extended-extended.ensures in
    λ i. record {
      name = c.in_ok-copy.ensures i;
      convergence = c.args.event.now.convergence;
      refines = (c.in_ok-event_names.ensures ∙ names_behind c.args.refined.now) i;
      params = (c.in_ok-with_params.ensures ∙ (λ j. c.inherited_params-params.ensures j ++ in_order c.args.env.now (names_of (c.items.ensures j)))) i;
      guards = (c.in_ok-with_labelled.ensures ∙ ap (λ xs. xs ++ c.args.guards.items) guards) i;
      own_guards_from = (c.in_ok-count.ensures ∙ ap length guards) i;
      witnesses = c.in_ok-witnesses_of.ensures i;
      actions = (c.in_ok-with_actions.ensures ∙ ap (λ xs. xs ++ c.args.actions.items) actions) i;
      own_actions_from = (c.in_ok-count-2.ensures ∙ ap length actions) i;
    }
