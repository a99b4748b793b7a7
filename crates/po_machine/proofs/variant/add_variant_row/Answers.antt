use Rattle.std.proofs.Common.{◌∙◌, sym}
use Rattle.po_machine.specs.Shared.{view}
use Rattle.po_machine.proofs.Gathering.{full}
use Rattle.po_rules.specs.Rows.{variant_rows}
use Rattle.po_machine.proofs.variant.add_variant_row.Goals as goal

pub returns-then-is_full : goal.returns-then-is_full
returns-then-is_full c = full (view c.args.out.now) (variant_rows c.args.machine.now c.args.variant.now) (sym c.is_full.ensures ∙ c.if-is_full.true)
