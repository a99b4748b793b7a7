use Rattle.std.proofs.Common.{◌≡◌, max, drop}
use Rattle.unification.specs.Solutions.{equations_of}
use Rattle.unification.specs.PrivateGraph.{variables_in}
use Rattle.unification.proofs.building.count_variables.Given as goal

abbrev pub invariant-loop-equation : goal.invariant-loop-equation
invariant-loop-equation l = variables_in (equations_of l.equations) ≡ max l.count (variables_in (equations_of (drop l.equation-index l.equations)))
