use Rattle.type_formula.specs.Views.{bare_of}
use Rattle.type_action.specs.Typings.{IsFormulaOf}
use Rattle.type_action.proofs.Told.{tree_fault}
use Rattle.type_action.proofs.Typed.{two_formulas}
use Rattle.type_action.proofs.values.type_as.Goals as goal

pub returns-clause-fault : goal.returns-clause-fault
returns-clause-fault c =
    tree_fault (IsFormulaOf c.args.env.now (bare_of c.args.tree.now) c.args.ty.now) c.type_tree.result c.type_tree.ensures.clash
    (λ e. two_formulas c.args.env.now (bare_of c.args.tree.now) c.args.ty.now (c.type_tree.ensures.untyped e)) c.type_tree.ensures.unknown
