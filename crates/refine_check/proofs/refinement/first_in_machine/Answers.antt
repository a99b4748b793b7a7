use Rattle.std.proofs.Common.{◌∙◌, ◌++◌, map}
use Rattle.std.specs.List.{zip}
use Rattle.formula_core.specs.Formulas.{joined}
use Rattle.model_core.specs.Faults.{first_by_place}
use Rattle.check_rules.specs.Refinements.{lost_in_variant, bad_variant, refinement_row}
use Rattle.refine_check.proofs.Faults.{both}
use Rattle.refine_check.proofs.refinement.first_in_machine.Goals as goal

pub returns : goal.returns
returns c =
    c.earlier.ensures
    ∙ both (lost_in_variant c.args.beside.now.component.now c.args.beside.now.lost.now c.args.written.now ++ bad_variant c.args.beside.now.component.now c.args.written.now c.args.variant.now)
    (joined (map (refinement_row c.args.beside.now.component.now c.args.beside.now.events.now c.args.beside.now.lost.now c.args.beside.now.has_variant) (zip c.args.events.now c.args.typed.now))) c.earlier-of_variant.result c.in_ok-of_events.of_events
    (c.earlier-of_variant.ensures
    ∙ both (lost_in_variant c.args.beside.now.component.now c.args.beside.now.lost.now c.args.written.now) (bad_variant c.args.beside.now.component.now c.args.written.now c.args.variant.now) c.in_ok-lost.lost c.in_ok-bad.bad
    c.in_ok-lost.ensures c.in_ok-bad.ensures)
    c.in_ok-of_events.ensures
    ∙ (λ i. first_by_place ((lost_in_variant c.args.beside.now.component.now c.args.beside.now.lost.now c.args.written.now ++ bad_variant c.args.beside.now.component.now c.args.written.now c.args.variant.now)
    ++ joined (map (refinement_row c.args.beside.now.component.now c.args.beside.now.events.now c.args.beside.now.lost.now (c.requires i)) (zip c.args.events.now c.args.typed.now))))
