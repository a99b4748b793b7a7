use Rattle.std.proofs.Common.{◌∙◌, ◌++◌, ap, append_assoc, take}
use Rattle.check_rules.specs.Refinements.{chosen, all_chosen, without_labels}
use Rattle.model_core.specs.Borrowed.{texts}
use Rattle.refine_check.proofs.Wanted.{chosen_more}
use Rattle.refine_check.proofs.witnesses.add_all_chosen.Goals as goal

pub loop-action-preserved : goal.loop-action-preserved
loop-action-preserved c =
    c.in_ok-add_chosen.ensures
    ∙ ap (λ xs. xs ++ chosen c.action-item.result.1) c.loop-action.invariant
    ∙ append_assoc (texts c.args.found.now.items) (all_chosen (without_labels (take c.loop-action.action-index c.args.actions.now))) (chosen c.action-item.result.1)
    ∙ ap (λ xs. texts c.args.found.now.items ++ xs) (chosen_more c.args.actions.now c.loop-action.action-index c.action-item.result c.loop-action-test.true c.action-item.is)
