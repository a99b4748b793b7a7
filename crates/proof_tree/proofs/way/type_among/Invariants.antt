use Rattle.std.proofs.Common.{◌≡◌, drop}
use Rattle.formula_core.specs.Env.{type_in}
use Rattle.proof_tree.proofs.way.type_among.Given as goal

abbrev pub invariant-loop-identifier : goal.invariant-loop-identifier
invariant-loop-identifier l = type_in l.identifiers l.name ≡ type_in (drop l.identifier-index l.identifiers) l.name
