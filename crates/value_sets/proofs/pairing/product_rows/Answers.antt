use Rattle.std.proofs.Common.{subst, ◌+◌, ◌<◌, length, arith}
use Rattle.event_values.specs.declared.value.Value.TheVariants as value
use Rattle.event_values.specs.Reading.{most_nodes}
use Rattle.value_sets.specs.Sets.{IsMade}
use Rattle.value_sets.proofs.Products.{row_more, product_made, product_large}
use Rattle.value_sets.proofs.pairing.product_rows.Goals as goal

pub returns-then-len-gt65536 : goal.returns-then-len-gt65536
returns-then-len-gt65536 c =
    let long = c.len.ensures in
    let above = c.if-len-gt65536.true in
    let large : most_nodes < length c.add_row.new.out.items = omega (arith, long, above) in
    product_large c.args.lefts.now c.args.rights.now c.add_row.new.out.items (c.loop-a.a-index + 1) c.requires.lefts c.requires.rights
    (row_more (λ a. c.args.rights.now) c.args.lefts.now c.loop-a.a-index c.a-item.result c.loop-a.found.items c.add_row.new.out.items c.args.rights.now
    c.loop-a.invariant (λ i. c.args.rights.now) c.in_ok-add_row.ensures c.loop-a-test.true c.a-item.is) large

pub loop-a-preserved : goal.loop-a-preserved
loop-a-preserved c =
    row_more (λ a. c.args.rights.now) c.args.lefts.now c.loop-a.a-index c.a-item.result c.loop-a.found.items c.add_row.new.out.items c.args.rights.now
    c.loop-a.invariant (λ i. c.args.rights.now) c.in_ok-add_row.ensures c.loop-a-test.true c.a-item.is

pub returns : goal.returns
returns c =
    product_made c.args.lefts.now c.args.rights.now c.loop-a.found.items c.loop-a.a-index c.made.result c.requires.lefts c.requires.rights c.loop-a.invariant
    c.loop-a-test.false (subst (λ vs. IsMade (value.Set vs) c.made.result) c.of.ensures c.made.ensures)
