use Rattle.std.proofs.Common.{◌≡◌, drop}
use Rattle.formula_core.specs.Env.{type_in}
use Rattle.type_formula.proofs.predicate.type_among.Given as goal

abbrev pub invariant-loop-entry : goal.invariant-loop-entry
invariant-loop-entry l = type_in l.free l.name ≡ type_in (drop l.entry-index l.free) l.name
