use Rattle.std.proofs.Common.{rules, ◌≡◌, ◌∙◌, sym, ap, Ok}
use Rattle.std.specs.Int.{w128}
use Rattle.std.specs.Prelude.{FitsSigned}
use Rattle.std.proofs.lemmas.Int.{to_z-of_z}
use Rattle.formula_readings.specs.Readings.{values_of}
use Rattle.readings_core.specs.Private.{checked_number, operated, opposite}
use Rattle.readings_core.proofs.NumberSteps.{checked-Int, node_is, other_is, one_is, two_is}
use Rattle.readings_core.proofs.Wide.{one_item, two_items}
use Rattle.readings_core.proofs.numbers.+numbers.Goals as goal

pub number-returns-in-Int : goal.number-returns-in-Int
number-returns-in-Int t c =
    let number = (values_of c.args.reading.now).number in
    let fits : FitsSigned w128 c.in-Int.n = search rules in
    ap (λ n. Ok n) (to_z-of_z w128 c.in-Int.n fits) ∙ sym (ap (checked_number number) c.in-Int.is ∙ checked-Int number c.in-Int.n)

pub number-returns-in-Node : goal.number-returns-in-Node
number-returns-in-Node t c =
    c.number_of_node.ensures
    ∙ node_is (values_of c.args.reading.now).number c.args.f.now c.in-Node.op c.in-Node.parts c.items.result.now c.in-Node.field-2 c.in-Node.is c.items.ensures

pub number-returns-in_default : goal.number-returns-in_default
number-returns-in_default t c = c.atom.ensures ∙ sym (other_is (values_of c.args.reading.now).number c.args.f.now c.in_default.not-Int c.in_default.not-Node)

pub number_of_node-returns-then-turns_sign : goal.number_of_node-returns-then-turns_sign
number_of_node-returns-then-turns_sign t c =
    let one = one_item c.args.parts.now c.e-item.result c.in-len1.len_at_least c.in-len1.len_below c.e-item.is in
    c.opposite.ensures ∙ ap opposite c.number.ensures
    ∙ one_is (values_of c.args.reading.now).number c.args.f.now c.args.op c.args.parts.now c.e-item.result one (sym c.turns_sign.ensures.operator ∙ c.if-turns_sign.true)

pub number_of_node-returns-then-adds_up : goal.number_of_node-returns-then-adds_up
number_of_node-returns-then-adds_up t c =
    let e = c.e-item-then-parts-lt3 in
    let two = two_items c.args.parts.now e.result c.g-item.result c.in-len2.len_at_least c.in-len2.len_below e.is c.g-item.is in
    c.operated.ensures ∙ (λ i. operated c.args.op (c.number-then-adds_up.ensures i) (c.number-then-adds_up-2.ensures i))
    ∙ two_is (values_of c.args.reading.now).number c.args.f.now c.args.op c.args.parts.now e.result c.g-item.result two (sym c.adds_up.ensures.operator ∙ c.if-adds_up.true)
