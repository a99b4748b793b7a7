use Rattle.std.proofs.Common.{◌∙◌, sym}
use Rattle.po_machine.specs.Shared.{view, parts_in}
use Rattle.po_machine.proofs.Gathering.{full}
use Rattle.po_refine.specs.Private.{equality_at}
use Rattle.po_refine.proofs.equality.add_equality_row.Goals as goal

pub returns-then-is_full : goal.returns-then-is_full
returns-then-is_full c = full (view c.args.out.now) (equality_at c.args.changes.now (parts_in c.args.parts.now) c.args.variable.now) (sym c.is_full.ensures ∙ c.if-is_full.true)
