use Rattle.step_items.proofs.Gathering.{gathered, no_hint, where_read, where_not_read}
use Rattle.step_items.proofs.hints.parts_of.Goals as goal

pub returns-then-not-branch : goal.returns-then-not-branch
returns-then-not-branch c =
    no_hint c.args.items.now c.loop-item.item-index c.item-item.result c.loop-item-test.true c.item-item.is
    (where_not_read _ _ c.in_ok-add.field-0 c.if-not-branch.true c.in_ok-add.ensures)

pub loop-item-preserved : goal.loop-item-preserved
loop-item-preserved c =
    gathered c.args.items.now c.loop-item.item-index c.item-item.result c.loop-item.parts c.add.new.parts c.loop-item-test.true c.item-item.is c.loop-item.invariant
    (where_read _ _ c.in_ok-add.field-0 c.if-not-branch.false c.in_ok-add.ensures)
