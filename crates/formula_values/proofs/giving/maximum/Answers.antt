use Rattle.std.proofs.Common.{rules}
use Rattle.formula_values.proofs.FormRules.{greatest_of_some}
use Rattle.std.proofs.lemmas.Int.{to_z-of_z}
use Rattle.std.specs.Int.{w128}
use Rattle.formula_values.proofs.giving.maximum.Goals as goal

pub returns-in-Some : goal.returns-in-Some
returns-in-Some c = greatest_of_some c.args.set.now c.in-Some.n _ (to_z-of_z w128 c.in-Some.n (search rules)) c.in-Some.ensures
