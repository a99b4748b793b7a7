use Rattle.std.proofs.Common.{ap, ◌∙◌}
use Rattle.unification.specs.Solutions.{equations_of}
use Rattle.unification.proofs.Steps.{equations_of-append}
use Rattle.type_formula.proofs.collect.add.Goals as goal

pub returns : goal.returns
returns c = ap equations_of c.in_ok-push.ensures.items ∙ equations_of-append _ _
