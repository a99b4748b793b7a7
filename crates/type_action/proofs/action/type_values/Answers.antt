use Rattle.std.proofs.Common.{◌∙◌, ap, subst, map}
use Rattle.type_formula.specs.Views.{bare_of}
use Rattle.type_action.specs.Private.{TellsAction}
use Rattle.type_action.specs.CoreActions.{Assign}
use Rattle.type_action.proofs.action.type_values.Goals as goal

pub returns : goal.returns
returns c =
    subst (λ bs. TellsAction c.args.env.now (Assign c.args.targets.now bs) c.assign.result) (ap (map bare_of) c.deref.ensures.value ∙ c.in_ok-trees.ensures) c.assign.ensures
