use Rattle.std.proofs.Common.{◌∙◌, subst, ◌+◌, ◌<◌, length, arith}
use Rattle.event_values.specs.declared.value.Value.TheVariants as value
use Rattle.event_values.specs.Reading.{most_nodes}
use Rattle.value_sets.specs.Sets.{IsMade}
use Rattle.value_sets.specs.Private.{reached}
use Rattle.value_sets.proofs.Products.{row_more, composition_made, composition_large}
use Rattle.value_sets.proofs.pairing.composition_rows.Goals as goal

pub returns-then-len-gt65536 : goal.returns-then-len-gt65536
returns-then-len-gt65536 c =
    let long = c.len.ensures in
    let above = c.if-len-gt65536.true in
    let large : most_nodes < length c.add_row.new.out.items = omega (arith, long, above) in
    composition_large c.args.lefts.now c.args.p.now c.args.q.now c.add_row.new.out.items (c.loop-a.a-index + 1) c.requires
    (row_more (reached c.args.p.now c.args.q.now) c.args.lefts.now c.loop-a.a-index c.a-item.result c.loop-a.found.items c.add_row.new.out.items c.items.result.now
    c.loop-a.invariant (c.items.ensures ∙ c.in_ok-rights.ensures) c.in_ok-add_row.ensures c.loop-a-test.true c.a-item.is) large

pub loop-a-preserved : goal.loop-a-preserved
loop-a-preserved c =
    row_more (reached c.args.p.now c.args.q.now) c.args.lefts.now c.loop-a.a-index c.a-item.result c.loop-a.found.items c.add_row.new.out.items c.items.result.now
    c.loop-a.invariant (c.items.ensures ∙ c.in_ok-rights.ensures) c.in_ok-add_row.ensures c.loop-a-test.true c.a-item.is

pub returns : goal.returns
returns c =
    composition_made c.args.lefts.now c.args.p.now c.args.q.now c.loop-a.found.items c.loop-a.a-index c.made.result c.requires c.loop-a.invariant
    c.loop-a-test.false (subst (λ vs. IsMade (value.Set vs) c.made.result) c.of.ensures c.made.ensures)
