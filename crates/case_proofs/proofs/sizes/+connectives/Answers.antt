use Rattle.std.proofs.Common.{◌≡◌, ◌∙◌, sym, ap, ◌+◌, min, true, false, arith}
use Rattle.std.proofs.lemmas.Grind.{common_steps}
use Rattle.case_proofs.specs.Cases.{connectives}
use Rattle.case_proofs.proofs.Counts.{count_one, count_two, count_none, count_more}
use Rattle.case_proofs.proofs.Joins.{one_item, two_items}
use Rattle.case_proofs.proofs.sizes.+connectives.Goals as goal

pub returns-then-negates : goal.returns-then-negates
returns-then-negates t c =
    let one = one_item c.items.result.now c.p-item.result c.in-len1.len_at_least c.in-len1.len_below c.p-item.is in
    let count = count_one c.args.f.now c.in-Node.op c.in-Node.parts c.items.result.now c.in-Node.field-2 c.in-Node.is c.items.ensures true c.p-item.result one (sym c.negates.ensures.connective ∙ c.if-negates.true) in
    let total : c.saturating_add.result ≡ min (connectives c.p-item.result + 1) 4294967295 = grind (arith, common_steps) in
    total ∙ ap (λ n. min n 4294967295) (sym count)

pub returns-else-negates : goal.returns-else-negates
returns-else-negates t c =
    let one = one_item c.items.result.now c.p-item.result c.in-len1.len_at_least c.in-len1.len_below c.p-item.is in
    let count = count_one c.args.f.now c.in-Node.op c.in-Node.parts c.items.result.now c.in-Node.field-2 c.in-Node.is c.items.ensures false c.p-item.result one (sym c.negates.ensures.connective ∙ c.if-negates.false) in
    omega (arith, count)

pub returns-then-joins_two : goal.returns-then-joins_two
returns-then-joins_two t c =
    let p = c.p-item-then-this-lt3.result in
    let q = c.q-item.result in
    let two = two_items c.items.result.now p q c.in-len2.len_at_least c.in-len2.len_below c.p-item-then-this-lt3.is c.q-item.is in
    let count = count_two c.args.f.now c.in-Node.op c.in-Node.parts c.items.result.now c.in-Node.field-2 c.in-Node.is c.items.ensures true p q two (sym c.joins_two.ensures.connective ∙ c.if-joins_two.true) in
    let both : c.saturating_add-then-joins_two.result ≡ min (connectives p + connectives q) 4294967295 = grind (arith, common_steps) in
    let total : c.saturating_add-then-joins_two-2.result ≡ min (connectives p + connectives q + 1) 4294967295 = grind (arith, common_steps) in
    total ∙ ap (λ n. min n 4294967295) (sym count)

pub returns-else-joins_two : goal.returns-else-joins_two
returns-else-joins_two t c =
    let p = c.p-item-then-this-lt3.result in
    let q = c.q-item.result in
    let two = two_items c.items.result.now p q c.in-len2.len_at_least c.in-len2.len_below c.p-item-then-this-lt3.is c.q-item.is in
    let count = count_two c.args.f.now c.in-Node.op c.in-Node.parts c.items.result.now c.in-Node.field-2 c.in-Node.is c.items.ensures false p q two (sym c.joins_two.ensures.connective ∙ c.if-joins_two.false) in
    omega (arith, count)

pub returns-in_default-items : goal.returns-in_default-items
returns-in_default-items t c =
    let count = count_none c.args.f.now c.in-Node.op c.in-Node.parts c.items.result.now c.in-Node.field-2 c.in-Node.is c.items.ensures c.in_default-items.len_below in
    omega (arith, count)

pub returns-in_default-items-2 : goal.returns-in_default-items-2
returns-in_default-items-2 t c =
    let count = count_more c.args.f.now c.in-Node.op c.in-Node.parts c.items.result.now c.in-Node.field-2 c.in-Node.is c.items.ensures c.in_default-items.len_at_least in
    omega (arith, count)
