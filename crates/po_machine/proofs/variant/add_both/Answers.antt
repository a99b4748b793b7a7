use Rattle.std.proofs.Common.{◌∙◌, ◌++◌, sym}
use Rattle.po_machine.specs.Shared.{parts_in, view}
use Rattle.po_machine.proofs.Gathering.{full}
use Rattle.po_machine.specs.Private.{decrease_row, natural_row}
use Rattle.po_machine.proofs.variant.add_both.Goals as goal

pub returns-then-is_full : goal.returns-then-is_full
returns-then-is_full c = full (view c.args.out.now) (natural_row (parts_in c.args.parts.now) c.args.variant.now ++ decrease_row c.args.parts.now.event.now (parts_in c.args.parts.now) c.args.variant.now) (sym c.is_full.ensures ∙ c.if-is_full.true)
