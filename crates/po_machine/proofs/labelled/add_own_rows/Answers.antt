use Rattle.std.proofs.Common.{◌≡◌, ◌∙◌, ◌++◌, OnOk, ap, subst, sym, drop, take}
use Rattle.po_rules.specs.Gathering.{gathered}
use Rattle.po_rules.specs.Parts.{formulas}
use Rattle.po_machine.specs.Shared.{view}
use Rattle.po_machine.specs.Private.{referenced, rows_at}
use Rattle.po_machine.proofs.EachBefore.{rows_are}
use Rattle.po_machine.proofs.labelled.add_own_rows.Goals as goal

pub returns : goal.returns
returns c =
    let site = c.args.site.now in
    let hyps = referenced c.args.hyps.items in
    let inherited = take c.args.own_from c.args.all.now in
    subst (λ rows. OnOk c.add_rows.result (view c.add_rows.new.out ≡ gathered (view c.args.out.now) rows))
    (ap (λ hs. rows_at site hs c.items_from.result.now) (c.in_ok-add_labelled.ensures ∙ ap (λ ls. hyps ++ formulas ls) c.first_items.ensures)
    ∙ ap (rows_at site (hyps ++ formulas inherited)) c.items_from.ensures
    ∙ sym (rows_are site hyps inherited (drop c.args.own_from c.args.all.now)))
    c.add_rows.ensures
