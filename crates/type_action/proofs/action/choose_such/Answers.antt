use Rattle.std.proofs.Common.{◌∙◌, sym, []}
use Rattle.type_formula.specs.Unknowns.{unknowns}
use Rattle.type_formula.specs.Views.{bare_of}
use Rattle.type_action.specs.CoreActions.{unknown_targets}
use Rattle.type_action.proofs.UnknownNames.{none_first}
use Rattle.type_action.proofs.action.choose_such.Goals as goal

pub choose_such_known-requires-clause-known : goal.choose_such_known-requires-clause-known
choose_such_known-requires-clause-known c =
    none_first (unknown_targets c.args.env.now c.args.targets.now) (unknowns c.args.after.now [] [] (bare_of c.args.tree.now)) (sym c.in_ok-name.ensures ∙ c.in-None.is)
