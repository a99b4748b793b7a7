use Rattle.formula_core.proofs.FreeIdentifiers.{free_is_distinct, free_is_what_occurs}
use Rattle.formula_core.proofs.laws.free_identifiers_are_once.Goals as goal

pub returns-clause-distinct : goal.returns-clause-distinct
returns-clause-distinct c = free_is_distinct c.args.f.now

pub returns-clause-those : goal.returns-clause-those
returns-clause-those c = λ x. free_is_what_occurs c.args.f.now x
