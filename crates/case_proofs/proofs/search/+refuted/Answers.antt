use Rattle.std.proofs.Common.{◌≡◌, ◌∙◌, sym, ap, subst, refl, ◌+◌, ◌-◌, ◌≤◌, ◌<◌, length, arith}
use Rattle.case_proofs.specs.PrivateRows.{AreSound, one_tree, two_tree}
use Rattle.case_proofs.specs.PrivateSearch.{AreHalfSizeSomewhere, IsOutcome}
use Rattle.case_proofs.specs.PrivateWays.{to_break, with_way, ways}
use Rattle.case_proofs.proofs.Joins.{one_item, two_items, sound_at_step, lighter, stays, at_most_two, some_way}
use Rattle.case_proofs.proofs.Steps.{Closes, one_closes, two_close, only_fit_somewhere, left_fit_somewhere, right_fit_somewhere}
use Rattle.case_proofs.proofs.search.+refuted.Goals as goal

pub overflow_sub-fuel : goal.overflow_sub-fuel
overflow_sub-fuel t c =
    let small = lighter c.args.hyps.now c.in-Some.at c.index-hyps-at.result c.in-Some.ensures.0 c.index-hyps-at.is c.way-item.result c.items.result.now 0 (c.items.ensures ∙ c.in_ok-ways.ensures) (omega (arith, c.in-len1.len_at_least)) c.way-item.is c.args.fuel c.requires.fuel in
    omega (arith, small)

pub refuted-requires : goal.refuted-requires
refuted-requires t c =
    let small = lighter c.args.hyps.now c.in-Some.at c.index-hyps-at.result c.in-Some.ensures.0 c.index-hyps-at.is c.way-item.result c.items.result.now 0 (c.items.ensures ∙ c.in_ok-ways.ensures) (omega (arith, c.in-len1.len_at_least)) c.way-item.is c.args.fuel c.requires.fuel in
    let below = c.items-in-len1-2.ensures ∙ c.in_ok-below-in-len1.ensures ∙ ap (with_way c.args.hyps.now c.in-Some.at) c.items-in-len1.ensures in
    let same = ap to_break below in
    (omega (arith, c.decreases, small), (omega (arith, small, same), subst AreHalfSizeSomewhere (sym below) (only_fit_somewhere c.args.hyps.now c.in-Some.at c.index-hyps-at.result c.in-Some.ensures.0 c.index-hyps-at.is c.way-item.result (sym (c.items.ensures ∙ c.in_ok-ways.ensures) ∙ one_item c.items.result.now c.way-item.result c.in-len1.len_at_least c.in-len1.len_below c.way-item.is) c.requires.half)))

pub one_tree-requires : goal.one_tree-requires
one_tree-requires t c = record { sound = sound_at_step c.args.hyps.now c.in-Some.at c.index-hyps-at.result c.in-Some.ensures.0 c.index-hyps-at.is c.requires.half }

pub returns-in-Closed : goal.returns-in-Closed
returns-in-Closed t c =
    let small = lighter c.args.hyps.now c.in-Some.at c.index-hyps-at.result c.in-Some.ensures.0 c.index-hyps-at.is c.way-item.result c.items.result.now 0 (c.items.ensures ∙ c.in_ok-ways.ensures) (omega (arith, c.in-len1.len_at_least)) c.way-item.is c.args.fuel c.requires.fuel in
    let below = c.items-in-len1-2.ensures ∙ c.in_ok-below-in-len1.ensures ∙ ap (with_way c.args.hyps.now c.in-Some.at) c.items-in-len1.ensures in
    let told : Closes (with_way c.args.hyps.now c.in-Some.at c.way-item.result) (c.args.fuel - 1) c.in-Closed.tree =
    subst (IsOutcome (with_way c.args.hyps.now c.in-Some.at c.way-item.result) (c.args.fuel - 1)) c.in-Closed.is (subst (λ ys. IsOutcome ys (c.args.fuel - 1) c.in_ok-open-in-len1.open) below c.in_ok-open-in-len1.ensures.outcome) in
    let tree = c.in_ok-one_tree-in-Closed.ensures in
    record {
      outcome = subst (Closes c.args.hyps.now c.args.fuel) (sym tree)
          (one_closes c.args.hyps.now c.in-Some.at c.index-hyps-at.result c.in-Some.ensures.0 c.index-hyps-at.is c.way-item.result (c.args.fuel - 1) c.args.fuel c.in-Closed.tree (sym (c.items.ensures ∙ c.in_ok-ways.ensures) ∙ one_item c.items.result.now c.way-item.result c.in-len1.len_at_least c.in-len1.len_below c.way-item.is) (omega (arith, small)) told);
    }

pub returns-in-len1 : goal.returns-in-len1
returns-in-len1 t c =
    let below = c.items-in-len1-2.ensures ∙ c.in_ok-below-in-len1.ensures ∙ ap (with_way c.args.hyps.now c.in-Some.at) c.items-in-len1.ensures in
    record {
      outcome = stays c.args.hyps.now c.in-Some.at c.index-hyps-at.result c.in-Some.ensures.0 c.index-hyps-at.is c.way-item.result c.items.result.now 0 (c.items.ensures ∙ c.in_ok-ways.ensures) (omega (arith, c.in-len1.len_at_least)) c.way-item.is (c.args.fuel - 1) c.args.fuel c.in_ok-open-in-len1.open c.in_default-2.not-Closed
          (subst (λ ys. IsOutcome ys (c.args.fuel - 1) c.in_ok-open-in-len1.open) below c.in_ok-open-in-len1.ensures.outcome);
    }

pub overflow_sub-fuel-in-len2 : goal.overflow_sub-fuel-in-len2
overflow_sub-fuel-in-len2 t c =
    let small = lighter c.args.hyps.now c.in-Some.at c.index-hyps-at.result c.in-Some.ensures.0 c.index-hyps-at.is c.way-item-then-this-lt3.result c.items.result.now 0 (c.items.ensures ∙ c.in_ok-ways.ensures) (omega (arith, c.in-len2.len_at_least)) c.way-item-then-this-lt3.is c.args.fuel c.requires.fuel in
    omega (arith, small)

pub refuted-requires-in-len2 : goal.refuted-requires-in-len2
refuted-requires-in-len2 t c =
    let small = lighter c.args.hyps.now c.in-Some.at c.index-hyps-at.result c.in-Some.ensures.0 c.index-hyps-at.is c.way-item-then-this-lt3.result c.items.result.now 0 (c.items.ensures ∙ c.in_ok-ways.ensures) (omega (arith, c.in-len2.len_at_least)) c.way-item-then-this-lt3.is c.args.fuel c.requires.fuel in
    let below = c.items-in-len2-2.ensures ∙ c.in_ok-below-in-len2.ensures ∙ ap (with_way c.args.hyps.now c.in-Some.at) c.items-in-len2.ensures in
    let same = ap to_break below in
    (omega (arith, c.decreases, small), (omega (arith, small, same), subst AreHalfSizeSomewhere (sym below) (left_fit_somewhere c.args.hyps.now c.in-Some.at c.index-hyps-at.result c.in-Some.ensures.0 c.index-hyps-at.is c.way-item-then-this-lt3.result c.other-item.result (sym (c.items.ensures ∙ c.in_ok-ways.ensures) ∙ two_items c.items.result.now c.way-item-then-this-lt3.result c.other-item.result c.in-len2.len_at_least c.in-len2.len_below c.way-item-then-this-lt3.is c.other-item.is) c.requires.half)))

pub returns-in_default-3 : goal.returns-in_default-3
returns-in_default-3 t c =
    let below = c.items-in-len2-2.ensures ∙ c.in_ok-below-in-len2.ensures ∙ ap (with_way c.args.hyps.now c.in-Some.at) c.items-in-len2.ensures in
    record {
      outcome = stays c.args.hyps.now c.in-Some.at c.index-hyps-at.result c.in-Some.ensures.0 c.index-hyps-at.is c.way-item-then-this-lt3.result c.items.result.now 0 (c.items.ensures ∙ c.in_ok-ways.ensures) (omega (arith, c.in-len2.len_at_least)) c.way-item-then-this-lt3.is (c.args.fuel - 1) c.args.fuel c.in_ok-open-in-len2.open c.in_default-3.not-Closed
          (subst (λ ys. IsOutcome ys (c.args.fuel - 1) c.in_ok-open-in-len2.open) below c.in_ok-open-in-len2.ensures.outcome);
    }

pub overflow_sub-fuel-in-len2-2 : goal.overflow_sub-fuel-in-len2-2
overflow_sub-fuel-in-len2-2 t c =
    let small = lighter c.args.hyps.now c.in-Some.at c.index-hyps-at.result c.in-Some.ensures.0 c.index-hyps-at.is c.other-item.result c.items.result.now 1 (c.items.ensures ∙ c.in_ok-ways.ensures) (omega (arith, c.in-len2.len_at_least)) c.other-item.is c.args.fuel c.requires.fuel in
    omega (arith, small)

pub refuted-requires-in-len2-2 : goal.refuted-requires-in-len2-2
refuted-requires-in-len2-2 t c =
    let small = lighter c.args.hyps.now c.in-Some.at c.index-hyps-at.result c.in-Some.ensures.0 c.index-hyps-at.is c.other-item.result c.items.result.now 1 (c.items.ensures ∙ c.in_ok-ways.ensures) (omega (arith, c.in-len2.len_at_least)) c.other-item.is c.args.fuel c.requires.fuel in
    let below = c.items-in-len2-4.ensures ∙ c.in_ok-beside-in-len2.ensures ∙ ap (with_way c.args.hyps.now c.in-Some.at) c.items-in-len2-3.ensures in
    let same = ap to_break below in
    (omega (arith, c.decreases, small), (omega (arith, small, same), subst AreHalfSizeSomewhere (sym below) (right_fit_somewhere c.args.hyps.now c.in-Some.at c.index-hyps-at.result c.in-Some.ensures.0 c.index-hyps-at.is c.way-item-then-this-lt3.result c.other-item.result (sym (c.items.ensures ∙ c.in_ok-ways.ensures) ∙ two_items c.items.result.now c.way-item-then-this-lt3.result c.other-item.result c.in-len2.len_at_least c.in-len2.len_below c.way-item-then-this-lt3.is c.other-item.is) c.requires.half)))

pub two_tree-requires : goal.two_tree-requires
two_tree-requires t c = record { sound = sound_at_step c.args.hyps.now c.in-Some.at c.index-hyps-at.result c.in-Some.ensures.0 c.index-hyps-at.is c.requires.half }

pub returns-in-Closed-3 : goal.returns-in-Closed-3
returns-in-Closed-3 t c =
    let small = lighter c.args.hyps.now c.in-Some.at c.index-hyps-at.result c.in-Some.ensures.0 c.index-hyps-at.is c.way-item-then-this-lt3.result c.items.result.now 0 (c.items.ensures ∙ c.in_ok-ways.ensures) (omega (arith, c.in-len2.len_at_least)) c.way-item-then-this-lt3.is c.args.fuel c.requires.fuel in
    let below = c.items-in-len2-2.ensures ∙ c.in_ok-below-in-len2.ensures ∙ ap (with_way c.args.hyps.now c.in-Some.at) c.items-in-len2.ensures in
    let beside = c.items-in-len2-4.ensures ∙ c.in_ok-beside-in-len2.ensures ∙ ap (with_way c.args.hyps.now c.in-Some.at) c.items-in-len2-3.ensures in
    let told : Closes (with_way c.args.hyps.now c.in-Some.at c.way-item-then-this-lt3.result) (c.args.fuel - 1) c.in-Closed-2.tree =
    subst (IsOutcome (with_way c.args.hyps.now c.in-Some.at c.way-item-then-this-lt3.result) (c.args.fuel - 1)) c.in-Closed-2.is (subst (λ ys. IsOutcome ys (c.args.fuel - 1) c.in_ok-open-in-len2.open) below c.in_ok-open-in-len2.ensures.outcome) in
    let too : Closes (with_way c.args.hyps.now c.in-Some.at c.other-item.result) (c.args.fuel - 1) c.in-Closed-3.second =
    subst (IsOutcome (with_way c.args.hyps.now c.in-Some.at c.other-item.result) (c.args.fuel - 1)) c.in-Closed-3.is (subst (λ ys. IsOutcome ys (c.args.fuel - 1) c.in_ok-open-in-len2-2.open) beside c.in_ok-open-in-len2-2.ensures.outcome) in
    let tree = c.in_ok-two_tree-in-Closed-3.ensures in
    record {
      outcome = subst (Closes c.args.hyps.now c.args.fuel) (sym tree)
          (two_close c.args.hyps.now c.in-Some.at c.index-hyps-at.result c.in-Some.ensures.0 c.index-hyps-at.is c.way-item-then-this-lt3.result c.other-item.result (c.args.fuel - 1) c.args.fuel c.in-Closed-2.tree c.in-Closed-3.second (sym (c.items.ensures ∙ c.in_ok-ways.ensures) ∙ two_items c.items.result.now c.way-item-then-this-lt3.result c.other-item.result c.in-len2.len_at_least c.in-len2.len_below c.way-item-then-this-lt3.is c.other-item.is) (omega (arith, small)) told too);
    }

pub returns-in-len2 : goal.returns-in-len2
returns-in-len2 t c =
    let below = c.items-in-len2-4.ensures ∙ c.in_ok-beside-in-len2.ensures ∙ ap (with_way c.args.hyps.now c.in-Some.at) c.items-in-len2-3.ensures in
    record {
      outcome = stays c.args.hyps.now c.in-Some.at c.index-hyps-at.result c.in-Some.ensures.0 c.index-hyps-at.is c.other-item.result c.items.result.now 1 (c.items.ensures ∙ c.in_ok-ways.ensures) (omega (arith, c.in-len2.len_at_least)) c.other-item.is (c.args.fuel - 1) c.args.fuel c.in_ok-open-in-len2-2.open c.in_default-4.not-Closed
          (subst (λ ys. IsOutcome ys (c.args.fuel - 1) c.in_ok-open-in-len2-2.open) below c.in_ok-open-in-len2-2.ensures.outcome);
    }
