use Rattle.std.proofs.Common.{◌∙◌, sym}
use Rattle.po_machine.specs.Shared.{parts_in, view}
use Rattle.po_machine.proofs.Gathering.{full}
use Rattle.po_rules.specs.Rows.{action_row}
use Rattle.po_machine.proofs.actions.add_action_row.Goals as goal

pub returns-then-is_full : goal.returns-then-is_full
returns-then-is_full c = full (view c.args.out.now) (action_row (parts_in c.args.parts.now) c.args.action.now) (sym c.is_full.ensures ∙ c.if-is_full.true)
