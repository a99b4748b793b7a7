use Rattle.std.proofs.Common.{◌≡◌, map}
use Rattle.formula_core.specs.Formulas.{joined}
use Rattle.model_core.specs.Faults.{first_by_place}
use Rattle.check_rules.specs.Refinements.{refinement_row}
use Rattle.refine_check.proofs.refinement.first_in_events.Given as goal

abbrev pub invariant-loop-event : goal.invariant-loop-event
invariant-loop-event l =
    l.first ≡ first_by_place (joined (map (refinement_row l.beside.component.now l.beside.events.now l.beside.lost.now l.beside.has_variant) (map (λ p. (p.0.now, p.1.now)) l.yielded)))
