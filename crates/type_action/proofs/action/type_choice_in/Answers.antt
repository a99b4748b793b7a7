use Rattle.std.proofs.Common.{subst}
use Rattle.type_action.specs.Private.{TellsAction}
use Rattle.type_action.specs.CoreActions.{ChooseIn}
use Rattle.type_action.proofs.action.type_choice_in.Goals as goal

pub returns : goal.returns
returns c = subst (λ b. TellsAction c.args.env.now (ChooseIn c.args.target.now b) c.choose_in.result) c.in_ok-tree.ensures c.choose_in.ensures
