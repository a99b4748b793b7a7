use Rattle.std.proofs.Common.{◌∙◌, sym}
use Rattle.po_rules.specs.Rows.{simulation_row}
use Rattle.po_machine.specs.Shared.{view, parts_in}
use Rattle.po_machine.proofs.Gathering.{full}
use Rattle.po_refine.proofs.simulation.add_simulation_row.Goals as goal

pub returns-then-is_full : goal.returns-then-is_full
returns-then-is_full c =
    let p = c.args.parts.now in
    full (view c.args.out.now) (simulation_row p.machine.now p.event.now (parts_in p) c.args.action.now) (sym c.is_full.ensures ∙ c.if-is_full.true)
