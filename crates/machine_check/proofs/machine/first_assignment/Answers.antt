use Rattle.std.proofs.Common.{◌∙◌, ap, map}
use Rattle.model_core.specs.Faults.{first_by_place}
use Rattle.check_rules.specs.Assignments.{assignment_faults}
use Rattle.check_rules.specs.Contexts.{names_of}
use Rattle.machine_check.specs.PrivateEvents.{both_of}
use Rattle.machine_check.proofs.machine.first_assignment.Goals as goal

pub returns : goal.returns
returns c =
    let w = c.args.written.now in
    c.in_ok-first.ensures
    ∙ ap (λ ps. first_by_place (assignment_faults w.name.now.name w.name.now.place (names_of w.variables.now) c.args.variables.now ps)) (ap (map both_of) c.deref.ensures.value ∙ c.in_ok-pairs.ensures)
