use Rattle.std.proofs.Common.{◌&&◌, map, not}
use Rattle.std.specs.List.{filter}
use Rattle.check_rules.specs.Visible.{entries, names}
use Rattle.model_core.specs.Borrowed.{has}
use Rattle.context_check.specs.Views.{placed}
use Rattle.machine_check.proofs.Machines.{names_placed}
use Rattle.context_check.proofs.Views.{append_none, grows}
use Rattle.machine_check.proofs.machine_parts.add_lost.Goals as goal

pub loop-variable-init : goal.loop-variable-init
loop-variable-init c = append_none c.args.found.now.items

pub loop-variable-preserved : goal.loop-variable-preserved
loop-variable-preserved c =
    grows (λ ps. filter (λ n. has c.args.kept.now n && not (has c.args.own.now n)) (names (entries (map placed ps)))) (names_placed (λ n. has c.args.kept.now n && not (has c.args.own.now n)))
    c.args.variables.now c.loop-variable.variable-index c.variable-item.result
    c.args.found.now.items c.loop-variable.found.items c.push_lost.new.names.items c.loop-variable-test.true c.variable-item.is c.loop-variable.invariant c.in_ok-push_lost.ensures
