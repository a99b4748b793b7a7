use Rattle.std.proofs.Common.{◌≡◌, ◌∙◌, sym}
use Rattle.std.proofs.lemmas.Result.{IfOk-weaker}
use Rattle.rules_arith.specs.Private.{act_of, joined_with}
use Rattle.rules_arith.proofs.Atoms.{joined_by_parts}
use Rattle.rules_arith.proofs.joining.joined_by.Goals as goal

pub returns : goal.returns
returns c = IfOk-weaker c.joined_with.result _ _ (λ o e. e
    ∙ (λ i. joined_with (act_of c.args.joining) (c.joined_constants-constant.ensures i) (c.in_ok-atoms.ensures.atoms i) (c.atoms_of.ensures i))
    ∙ sym (joined_by_parts (act_of c.args.joining) c.args.a c.args.b)) c.joined_with.ensures
