use Rattle.std.proofs.Common.{not}
use Rattle.std.specs.List.{filter}
use Rattle.check_rules.specs.Contexts.{names_of}
use Rattle.model_core.specs.Borrowed.{has}
use Rattle.context_check.proofs.Views.{append_none, filter_mapped, grows}
use Rattle.machine_check.proofs.machine_parts.add_new.Goals as goal

pub loop-variable-init : goal.loop-variable-init
loop-variable-init c = append_none c.args.names.now.items

pub loop-variable-preserved : goal.loop-variable-preserved
loop-variable-preserved c =
    grows (λ rs. filter (λ n. not (has c.args.kept.now n)) (names_of rs)) (filter_mapped (λ n. not (has c.args.kept.now n)) (λ r. r.name)) c.args.variables.now c.loop-variable.variable-index c.variable-item.result
    c.args.names.now.items c.loop-variable.names.items c.push_unless.new.names.items c.loop-variable-test.true c.variable-item.is c.loop-variable.invariant c.in_ok-push_unless.ensures
