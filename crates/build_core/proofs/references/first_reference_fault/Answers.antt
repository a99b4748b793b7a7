use Rattle.std.proofs.Common.{◌∙◌, ap, refl, true, false}
use Rattle.std.specs.Option.{option_to_list}
use Rattle.model_core.specs.Faults.{first_by_place}
use Rattle.build_core.specs.Projects.{wanting}
use Rattle.build_core.specs.Private.{faults_at}
use Rattle.build_core.proofs.Referred.{machine_first}
use Rattle.build_core.proofs.references.first_reference_fault.Goals as goal

pub returns-in_ok-seen-in-Machine : goal.returns-in_ok-seen-in-Machine
returns-in_ok-seen-in-Machine c =
    c.earlier.ensures
    ∙ machine_first c.args.outcomes.now _ c.args.raw.now c.heading.result.now.name (wanting false (option_to_list c.in-Machine.refines)) (wanting true c.in-Machine.sees)
    c.in_ok-refined-in-Machine.refined c.in_ok-seen-in-Machine.seen c.in-Machine.is (ap (λ r. r.name) c.heading.ensures) refl c.in_ok-refined-in-Machine.ensures
    (c.in_ok-seen-in-Machine.ensures ∙ ap (λ rs. first_by_place (faults_at c.args.outcomes.now c.heading.result.now.name (wanting true rs))) c.items-in-Machine.ensures)
