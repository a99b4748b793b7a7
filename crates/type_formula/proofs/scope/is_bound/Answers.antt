use Rattle.std.proofs.Common.{◌∙◌}
use Rattle.type_formula.specs.PrivateViews.{scope_of}
use Rattle.type_formula.proofs.Entries.{is_bound}
use Rattle.type_formula.proofs.scope.is_bound.Goals as goal

pub returns : goal.returns
returns c = c.is_some.ensures ∙ is_bound _ c.args.name.now (scope_of c.args.scope.now) c.find_bound.ensures.place
