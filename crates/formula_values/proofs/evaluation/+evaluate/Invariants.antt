use Rattle.std.proofs.Common.{drop, map}
use Rattle.formula_values.specs.Means.{Means}
use Rattle.formula_values.specs.Private.{Leads, held}
use Rattle.formula_values.proofs.evaluation.+evaluate.Given as goal

abbrev pub invariant-evaluate_all-loop-p : goal.invariant-evaluate_all-loop-p
invariant-evaluate_all-loop-p l = Leads (Means l.values) l.parts (map held l.out.items) (drop l.p-index l.parts)
