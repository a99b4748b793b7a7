use Rattle.std.proofs.Common.{◌∙◌, ap, sym}
use Rattle.po_rules.specs.Gathering.{gathered}
use Rattle.po_machine.specs.Shared.{view, parts_in}
use Rattle.po_generate.proofs.Parts.{beside_none, beside_some}
use Rattle.po_generate.proofs.table.add_invariants_beside.Goals as goal

pub returns-then-is_empty : goal.returns-then-is_empty
returns-then-is_empty c =
    let p = c.args.parts.now in
    ap (gathered (view c.args.out.now)) (sym (beside_none p.machine.now p.event.now c.args.refined.now (parts_in p) (sym c.is_empty.ensures ∙ c.if-is_empty.true)))

pub returns : goal.returns
returns c =
    let p = c.args.parts.now in
    c.in_ok-add_invariant_rows.ensures
    ∙ ap (gathered (view c.args.out.now)) (sym (beside_some p.machine.now p.event.now c.args.refined.now (parts_in p) (sym c.is_empty.ensures ∙ c.if-is_empty.false)))
