use Rattle.std.proofs.Common.{◌≡◌, subst, IfOk}
use Rattle.model_core.specs.Borrowed.{has}
use Rattle.machine_check.proofs.Targets.{reads_pairs}
use Rattle.machine_check.proofs.assignments.reads_on_right.Goals as goal

pub returns-in-Assign : goal.returns-in-Assign
returns-in-Assign c =
    subst (λ b. IfOk c.one_reads.result (λ r. r ≡ b)) (reads_pairs (has c.args.variables.now) c.args.action.now c.in-Assign.pairs c.items.result.now c.in-Assign.is c.items.ensures) c.one_reads.ensures
