use Rattle.std.proofs.Common.{not}
use Rattle.model_core.specs.Borrowed.{has}
use Rattle.machine_check.proofs.Machines.{both_added}
use Rattle.context_check.proofs.Repeated.{has_none}
use Rattle.machine_check.proofs.machine_names.names_but.Goals as goal

pub returns : goal.returns
returns c =
    both_added (λ n. not (has c.args.except.now n)) c.deref.result.now c.deref-2.result.now c.args.view.now.constants.items c.args.view.now.variables.items
    (has c.new-texts.result) (has c.add_identifiers.new.texts) (has c.add_identifiers-2.new.texts) (has_none c.new-texts.result c.new-texts.ensures.empty)
    c.in_ok-add_identifiers.ensures c.in_ok-add_identifiers-2.ensures c.deref.ensures.value c.deref-2.ensures.value
