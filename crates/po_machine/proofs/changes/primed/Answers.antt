use Rattle.std.proofs.Common.{◌∙◌, sym, ap, not}
use Rattle.formula_core.specs.Names.{is_identifier}
use Rattle.model_core.proofs.Lists.{identifier_is}
use Rattle.po_machine.proofs.changes.primed.Goals as goal

pub primed-requires : goal.primed-requires
primed-requires c = record { unprimed = sym (identifier_is c.is_primed.result (is_identifier c.args.name.now) c.is_primed.ensures) ∙ ap not c.if-is_primed.false }
