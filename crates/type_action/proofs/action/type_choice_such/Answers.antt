use Rattle.std.proofs.Common.{subst}
use Rattle.type_action.specs.Private.{TellsAction}
use Rattle.type_action.specs.CoreActions.{ChooseSuch}
use Rattle.type_action.proofs.action.type_choice_such.Goals as goal

pub returns : goal.returns
returns c = subst (λ b. TellsAction c.args.env.now (ChooseSuch c.args.targets.now b) c.choose_such.result) c.in_ok-tree.ensures c.choose_such.ensures
