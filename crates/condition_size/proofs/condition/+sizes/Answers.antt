use Rattle.std.proofs.Common.{◌≡◌, ◌∙◌, ap, ◌+◌, ◌-◌, ◌^◌, max, min, arith}
use Rattle.std.proofs.lemmas.Grind.{common_steps}
use Rattle.condition_size.specs.Sizes.{clamped}
use Rattle.condition_size.specs.Private.{conjoined_size, second_guarded_size, binary_size}
use Rattle.condition_size.proofs.ConditionSizes.{asks_one, asks_two, binds_two, both_heights, both_nodes, one_item, two_items}
use Rattle.condition_size.proofs.condition.+sizes.Goals as goal

pub sizes_of_parts-returns-in-len1-clause-condition : goal.sizes_of_parts-returns-in-len1-clause-condition
sizes_of_parts-returns-in-len1-clause-condition t c =
    let is = one_item c.args.parts.now c.s-item.result c.in-len1.len_at_least c.in-len1.len_below c.s-item.is in
    c.conjoined.ensures ∙ ap (conjoined_size c.sizes-only.result.condition) c.unary.ensures
    ∙ asks_one c.args.op c.args.parts.now c.s-item.result c.sizes-only.result.own c.sizes-only.result.condition is c.sizes-only.ensures.own c.sizes-only.ensures.condition

pub sizes_of_parts-returns-in-len2-clause-nodes : goal.sizes_of_parts-returns-in-len2-clause-nodes
sizes_of_parts-returns-in-len2-clause-nodes t c =
    let is = two_items c.args.parts.now c.p-item.result c.q-item.result c.in-len2.len_at_least c.in-len2.len_below c.p-item.is c.q-item.is in
    let sum : c.saturating_add.result ≡ clamped (c.sizes-first.result.own.nodes + c.sizes-second.result.own.nodes) = grind (arith, common_steps) in
    sum ∙ both_nodes c.args.parts.now c.p-item.result c.q-item.result c.sizes-first.result.own c.sizes-second.result.own is c.sizes-first.ensures.own c.sizes-second.ensures.own

pub sizes_of_parts-returns-in-len2-clause-height : goal.sizes_of_parts-returns-in-len2-clause-height
sizes_of_parts-returns-in-len2-clause-height t c =
    let is = two_items c.args.parts.now c.p-item.result c.q-item.result c.in-len2.len_at_least c.in-len2.len_below c.p-item.is c.q-item.is in
    let most : c.max.result ≡ max c.sizes-first.result.own.height c.sizes-second.result.own.height = grind (arith, common_steps) in
    most ∙ both_heights c.args.parts.now c.p-item.result c.q-item.result c.sizes-first.result.own c.sizes-second.result.own is c.sizes-first.ensures.own c.sizes-second.ensures.own

pub sizes_of_parts-returns-in-len2-clause-condition : goal.sizes_of_parts-returns-in-len2-clause-condition
sizes_of_parts-returns-in-len2-clause-condition t c =
    let is = two_items c.args.parts.now c.p-item.result c.q-item.result c.in-len2.len_at_least c.in-len2.len_below c.p-item.is c.q-item.is in
    c.conjoined-in-len2.ensures ∙ (λ i. conjoined_size (c.second_guarded-operands.ensures i) (c.binary.ensures i))
    ∙ asks_two c.args.op c.args.parts.now c.p-item.result c.q-item.result c.sizes-first.result.own c.sizes-second.result.own c.sizes-first.result.condition c.sizes-second.result.condition
    is c.sizes-first.ensures.own c.sizes-second.ensures.own c.sizes-first.ensures.condition c.sizes-second.ensures.condition

pub sizes_below-returns-in-len2-clause-condition : goal.sizes_below-returns-in-len2-clause-condition
sizes_below-returns-in-len2-clause-condition t c = λ types.
    let is = two_items c.args.parts.now c.p-item-then-parts-lt3.result c.q-item.result c.in-len2.len_at_least c.in-len2.len_below c.p-item-then-parts-lt3.is c.q-item.is in
    c.guarded.ensures
    ∙ binds_two c.args.binder types c.args.parts.now c.p-item-then-parts-lt3.result c.q-item.result c.sizes-first.result.own c.sizes-first.result.condition c.sizes-second.result.condition
    is c.sizes-first.ensures.own c.sizes-first.ensures.condition c.sizes-second.ensures.condition
