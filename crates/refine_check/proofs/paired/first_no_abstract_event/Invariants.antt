use Rattle.std.proofs.Common.{◌≡◌, map, take}
use Rattle.formula_core.specs.Formulas.{joined}
use Rattle.model_core.specs.Faults.{first_by_place}
use Rattle.check_rules.specs.Refinements.{no_abstract_event_row}
use Rattle.refine_check.proofs.paired.first_no_abstract_event.Given as goal

abbrev pub invariant-loop-reference : goal.invariant-loop-reference
invariant-loop-reference l =
    l.first ≡ first_by_place (joined (map (no_abstract_event_row l.component l.events l.event) (take l.reference-index l.reference-items)))
