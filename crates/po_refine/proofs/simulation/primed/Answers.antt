use Rattle.std.proofs.Common.{◌∙◌, ap, sym, not}
use Rattle.model_core.proofs.Lists.{identifier_is}
use Rattle.po_refine.proofs.simulation.primed.Goals as goal

pub primed-requires : goal.primed-requires
primed-requires c = record { unprimed = sym (identifier_is _ _ c.is_primed.ensures) ∙ ap not c.if-is_primed.false }
