use Rattle.std.proofs.Common.{◌∙◌, sym}
use Rattle.po_machine.specs.Shared.{view}
use Rattle.po_machine.proofs.Gathering.{full}
use Rattle.po_machine.specs.Private.{referenced, row_at}
use Rattle.po_machine.proofs.labelled.add_row.Goals as goal

pub returns-then-is_full : goal.returns-then-is_full
returns-then-is_full c = full (view c.args.out.now) (row_at c.args.site.now (referenced c.args.hyps.now) c.args.labelled.now) (sym c.is_full.ensures ∙ c.if-is_full.true)
