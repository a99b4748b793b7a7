use Rattle.std.proofs.Common.{◌≡◌, [], map, take}
use Rattle.formula_core.specs.Formulas.{joined}
use Rattle.model_core.specs.Faults.{first_by_place}
use Rattle.check_rules.specs.Refinements.{superfluous_witness_row}
use Rattle.refine_check.proofs.witnesses.first_superfluous.Given as goal

abbrev pub invariant-loop-witness : goal.invariant-loop-witness
invariant-loop-witness l = l.first ≡ first_by_place (joined (map (superfluous_witness_row l.component l.needed []) (take l.witness-index l.witnesses)))
