use Rattle.std.proofs.Common.{◌∙◌, ◌∷◌, [], ap, subst, map}
use Rattle.type_formula.specs.Views.{bare_of}
use Rattle.type_action.specs.Private.{TellsAction}
use Rattle.type_action.specs.CoreActions.{Assign}
use Rattle.type_action.proofs.action.type_value_at.Goals as goal

pub returns : goal.returns
returns c =
    let one = subst (λ ts. TellsAction c.args.env.now (Assign ts (map bare_of c.from_ref-2.result.now)) c.assign.result) c.from_ref.ensures.value c.assign.ensures in
    subst (λ bs. TellsAction c.args.env.now (Assign (c.args.target.now ∷ []) bs) c.assign.result) (ap (map bare_of) c.from_ref-2.ensures.value ∙ ap (λ b. b ∷ []) c.in_ok-tree.ensures) one
