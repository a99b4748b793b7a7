use Rattle.std.proofs.Common.{map}
use Rattle.std.specs.List.{filter}
use Rattle.check_rules.specs.Visible.{entries}
use Rattle.model_core.specs.Borrowed.{has}
use Rattle.context_check.specs.Views.{placed}
use Rattle.machine_check.proofs.Machines.{entries_placed}
use Rattle.context_check.proofs.Views.{append_none, grows}
use Rattle.machine_check.proofs.machine_parts.add_kept.Goals as goal

pub loop-variable-init : goal.loop-variable-init
loop-variable-init c = append_none c.args.all.now.items

pub loop-variable-preserved : goal.loop-variable-preserved
loop-variable-preserved c =
    grows (λ ps. filter (λ e. has c.args.kept.now e.0) (entries (map placed ps))) (entries_placed (λ e. has c.args.kept.now e.0)) c.args.variables.now c.loop-variable.variable-index c.variable-item.result
    c.args.all.now.items c.loop-variable.all.items c.push_kept.new.all.items c.loop-variable-test.true c.variable-item.is c.loop-variable.invariant c.in_ok-push_kept.ensures
