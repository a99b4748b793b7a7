use Rattle.std.proofs.Common.{◌≡◌, ◌∙◌, sym, ap, Ok}
use Rattle.formula_readings.specs.Readings.{values_of}
use Rattle.readings_core.specs.Private.{truth_negated, truths_joined}
use Rattle.readings_core.proofs.TruthSteps.{node_is, other_is, one_is, two_is, compared_is}
use Rattle.readings_core.proofs.Wide.{one_item, two_items}
use Rattle.readings_core.proofs.values.+truths.Goals as goal

pub truth-returns-in-Node : goal.truth-returns-in-Node
truth-returns-in-Node t c =
    c.truth_of_node.ensures
    ∙ node_is (values_of c.args.reading.now) c.args.f.now c.in-Node.op c.in-Node.parts c.items.result.now c.in-Node.field-2 c.in-Node.is c.items.ensures

pub truth-returns-in_default : goal.truth-returns-in_default
truth-returns-in_default t c = ap (λ b. Ok b) c.truth_of_atom.ensures ∙ sym (other_is (values_of c.args.reading.now) c.args.f.now c.in_default.not-Node)

pub truth_of_node-returns-then-negates : goal.truth_of_node-returns-then-negates
truth_of_node-returns-then-negates t c =
    let one = one_item c.args.parts.now c.p-item.result c.in-len1.len_at_least c.in-len1.len_below c.p-item.is in
    c.truth_negated.ensures ∙ ap truth_negated c.truth.ensures
    ∙ one_is (values_of c.args.reading.now) c.args.f.now c.args.op c.args.parts.now c.p-item.result one (sym c.negates.ensures.connective ∙ c.if-negates.true)

pub truth_of_node-returns-then-joins_two : goal.truth_of_node-returns-then-joins_two
truth_of_node-returns-then-joins_two t c =
    let p = c.p-item-then-parts-lt3 in
    let two = two_items c.args.parts.now p.result c.q-item.result c.in-len2.len_at_least c.in-len2.len_below p.is c.q-item.is in
    c.truths_joined.ensures ∙ (λ i. truths_joined c.args.op (c.truth-then-joins_two.ensures i) (c.truth-then-joins_two-2.ensures i))
    ∙ two_is (values_of c.args.reading.now) c.args.f.now c.args.op c.args.parts.now p.result c.q-item.result two (sym c.joins_two.ensures.connective ∙ c.if-joins_two.true)

pub truth_of_node-returns-else-joins_two : goal.truth_of_node-returns-else-joins_two
truth_of_node-returns-else-joins_two t c =
    let p = c.p-item-then-parts-lt3 in
    let two = two_items c.args.parts.now p.result c.q-item.result c.in-len2.len_at_least c.in-len2.len_below p.is c.q-item.is in
    c.comparison.ensures
    ∙ compared_is (values_of c.args.reading.now) c.args.f.now c.args.op c.args.parts.now p.result c.q-item.result two (sym c.joins_two.ensures.connective ∙ c.if-joins_two.false)
