use Rattle.std.proofs.Common.{◌∙◌, [], get_or}
use Rattle.std.proofs.lemmas.List.{get_or_default}
use Rattle.context_check.specs.declared.declarations.Mark.{Mark}
use Rattle.context_check.specs.Texts.{mark_of}
use Rattle.model_core.specs.Borrowed.{has}
use Rattle.machine_check.specs.PrivateEvents.{no_variable_at}
use Rattle.machine_check.proofs.Assigned.{first_joined}
use Rattle.machine_check.proofs.assignments.first_no_variable_among.Goals as goal

abbrev some_mark : Mark
some_mark = record { text = record { ref_ptr = (0, 0); now = [] }; place = 0 }

pub loop-mark-preserved : goal.loop-mark-preserved
loop-mark-preserved c =
    c.earlier-first.ensures
    ∙ first_joined (no_variable_at c.args.component.now (has c.args.variables.now)) mark_of c.args.targets.now c.loop-mark.mark-index (get_or c.args.targets.now c.loop-mark.mark-index some_mark)
    c.loop-mark.first c.in_ok-here.here c.loop-mark-test.true
    (get_or_default c.args.targets.now c.loop-mark.mark-index some_mark (get_or c.args.targets.now c.loop-mark.mark-index some_mark) c.loop-mark-test.true)
    c.loop-mark.invariant c.in_ok-here.ensures
