use Rattle.std.proofs.Common.{◌∙◌, ap, [], ◌∷◌, ◌++◌}
use Rattle.po_rules.specs.Gathering.{gathered}
use Rattle.po_machine.specs.Shared.{view}
use Rattle.po_machine.specs.Private.{referenced, row_at}
use Rattle.po_machine.proofs.EachBefore.{next_rows}
use Rattle.po_machine.proofs.Lists.{map_append}
use Rattle.po_machine.proofs.labelled.add_rows.Goals as goal

pub loop-labelled-preserved : goal.loop-labelled-preserved
loop-labelled-preserved c =
    let site = c.args.site.now in
    let x = c.labelled-item.result in
    let before = c.loop-labelled.hyps.items in
    let now = view c.loop-labelled.out in
    next_rows site c.args.own.now c.loop-labelled.labelled-index x (referenced before) (referenced c.push.new.self.items) now (view c.add_row.new.out) _
    c.loop-labelled-test.true c.labelled-item.is c.loop-labelled.invariant
    (c.in_ok-add_row.ensures ∙ ap (λ hyps. gathered now (row_at site (referenced hyps) x)) c.deref.ensures.value)
    (ap referenced c.in_ok-push.ensures.items ∙ map_append (λ f. f.now) before (c.get.result ∷ []) ∙ ap (λ f. referenced before ++ f ∷ []) c.get.ensures)
