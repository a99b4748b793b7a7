use Rattle.std.proofs.Common.{◌∙◌, ap, map}
use Rattle.model_core.specs.Borrowed.{has}
use Rattle.machine_check.specs.PrivateEvents.{both_of}
use Rattle.check_rules.specs.Contexts.{names_of}
use Rattle.model_core.specs.Faults.{earlier}
use Rattle.machine_check.proofs.Targets.{assignments_are}
use Rattle.machine_check.proofs.assignments.first_bad_assignment.Goals as goal

pub returns : goal.returns
returns c =
    c.earlier-2.ensures ∙ ap (λ a. earlier a c.in_ok-start.start) c.earlier.ensures
    ∙ assignments_are c.args.component.now.name c.args.component.now.place (names_of c.args.own.now) c.args.variables.now (map both_of c.args.events.now) (has c.in_ok-known.known)
    c.in_ok-unknown.unknown c.in_ok-twice.twice c.in_ok-start.start c.in_ok-known.ensures c.in_ok-unknown.ensures c.in_ok-twice.ensures c.in_ok-start.ensures
