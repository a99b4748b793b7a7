use Rattle.std.proofs.Common.{◌≡◌, ◌∙◌, ap, sym, [], false}
use Rattle.std.specs.Prelude.{codes}
use Rattle.po_rules.specs.Rows.{from_witnesses, of_kind}
use Rattle.po_machine.specs.Shared.{view, parts_in}
use Rattle.po_machine.proofs.Gathering.{full}
use Rattle.po_refine.specs.Private.{strengthening_row}
use Rattle.po_refine.proofs.Refined.{when_false}
use Rattle.po_refine.proofs.Tails.{same_rows}
use Rattle.po_refine.proofs.strengthening.add_strengthening_row.Goals as goal

pub returns-then-is_full : goal.returns-then-is_full
returns-then-is_full c = full (view c.args.out.now) (strengthening_row (parts_in c.args.parts.now) c.args.guard.now) (sym c.is_full.ensures ∙ c.if-is_full.true)

pub returns : goal.returns
returns c =
    let p = parts_in c.args.parts.now in
    let g = c.args.guard.now in
    let row = from_witnesses p (of_kind g.label (codes "GRD")) g.formula in
    let condition : g.theorem ≡ false = cc in
    same_rows c.add_from_witnesses.result (view c.args.out.now) (view c.add_from_witnesses.new.out)
    (from_witnesses p (of_kind c.label_part.result.now (codes "GRD")) c.in_ok-goal.goal) (strengthening_row p g)
    (ap (λ label. from_witnesses p (of_kind label (codes "GRD")) c.in_ok-goal.goal) (c.label_part.ensures.text ∙ c.get-2.ensures)
    ∙ ap (from_witnesses p (of_kind g.label (codes "GRD"))) (c.in_ok-goal.ensures ∙ c.get.ensures)
    ∙ sym (when_false g.theorem [] row condition))
    c.add_from_witnesses.ensures
