use Rattle.std.proofs.Common.{◌≡◌, [], map, take}
use Rattle.formula_core.specs.Formulas.{joined}
use Rattle.model_core.specs.Faults.{first_by_place}
use Rattle.check_rules.specs.Refinements.{missing_witness_row}
use Rattle.refine_check.proofs.witnesses.first_missing.Given as goal

abbrev pub invariant-loop-name : goal.invariant-loop-name
invariant-loop-name l = l.first ≡ first_by_place (joined (map (missing_witness_row l.component l.place l.labels []) (take l.name-index l.needed)))
