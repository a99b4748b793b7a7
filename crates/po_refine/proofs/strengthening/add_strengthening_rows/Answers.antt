use Rattle.std.proofs.Common.{◌∙◌, ap, sym, map}
use Rattle.model_core.specs.Each.{for_each}
use Rattle.po_rules.specs.Rows.{strengthening_rows}
use Rattle.po_machine.specs.Shared.{view, parts_in}
use Rattle.po_refine.specs.Private.{strengthening_row}
use Rattle.po_refine.proofs.Refined.{strengthening_only}
use Rattle.po_refine.proofs.Tails.{same_rows}
use Rattle.po_refine.proofs.strengthening.add_strengthening_rows.Goals as goal

pub returns-in-Some : goal.returns-in-Some
returns-in-Some c =
    let p = parts_in c.args.parts.now in
    let e = c.args.parts.now.event.now in
    let refined = map (λ x. x.now) c.args.refined.now in
    same_rows c.add_each_guard.result (view c.args.out.now) (view c.add_each_guard.new.out)
    (for_each (strengthening_row p) c.items.result.now) (strengthening_rows e refined p)
    (ap (for_each (strengthening_row p)) c.items.ensures
    ∙ strengthening_only e p refined c.in-Some.event.now (sym c.is_extended.ensures ∙ c.if-is_extended.false) (sym c.in-Some.ensures))
    c.add_each_guard.ensures
