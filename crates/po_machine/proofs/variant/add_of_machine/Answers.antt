use Rattle.std.proofs.Common.{◌∙◌, sym}
use Rattle.well_defined.specs.Connectives.{is_top}
use Rattle.po_machine.specs.Shared.{view}
use Rattle.po_machine.proofs.Gathering.{idle}
use Rattle.po_machine.proofs.variant.add_of_machine.Goals as goal

pub returns-then-is_idle : goal.returns-then-is_idle
returns-then-is_idle c = rw c.instead_of.ensures (idle (is_top c.args.goal) (view c.args.out.now) _ (sym c.is_idle.ensures ∙ c.if-is_idle.true))
