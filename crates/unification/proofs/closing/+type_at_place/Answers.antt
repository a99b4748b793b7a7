use Rattle.std.proofs.Common.{subst, arith}
use Rattle.unification.specs.PrivateOrder.{TypeFits}
use Rattle.unification.proofs.Writes.{set_untyped, left_untyped, right_untyped, parts_before, is_there}
use Rattle.unification.proofs.closing.+type_at_place.Goals as goal

pub type_at_place-requires : goal.type_at_place-requires
type_at_place-requires t c =
    let here = is_there c.args.nodes.now c.args.place _ _ c.requires.inside c.index-nodes-place.is c.in-Pow.is in
    let before = parts_before c.args.nodes.now c.args.order.now c.args.place _ c.requires.order c.requires.inside here in
    (omega (arith, c.decreases, before.0), (c.requires.order, before.1))

pub type_at_place-requires-in-Pair : goal.type_at_place-requires-in-Pair
type_at_place-requires-in-Pair t c =
    let here = is_there c.args.nodes.now c.args.place _ _ c.requires.inside c.index-nodes-place.is c.in-Pair.is in
    let before = parts_before c.args.nodes.now c.args.order.now c.args.place _ c.requires.order c.requires.inside here in
    (omega (arith, c.decreases, before.0.0), (c.requires.order, before.0.1))

pub type_at_place-requires-in-Some-2 : goal.type_at_place-requires-in-Some-2
type_at_place-requires-in-Some-2 t c =
    let here = is_there c.args.nodes.now c.args.place _ _ c.requires.inside c.index-nodes-place.is c.in-Pair.is in
    let before = parts_before c.args.nodes.now c.args.order.now c.args.place _ c.requires.order c.requires.inside here in
    (omega (arith, c.decreases, before.1.0), (c.requires.order, before.1.1))

pub type_at_place-requires-in-Same : goal.type_at_place-requires-in-Same
type_at_place-requires-in-Same t c =
    let here = is_there c.args.nodes.now c.args.place _ _ c.requires.inside c.index-nodes-place.is c.in-Same.is in
    let before = parts_before c.args.nodes.now c.args.order.now c.args.place _ c.requires.order c.requires.inside here in
    (omega (arith, c.decreases, before.0), (c.requires.order, before.1))

pub returns-in-None : goal.returns-in-None
returns-in-None t c =
    set_untyped c.args.nodes.now c.args.place c.in-Pow.part
    (is_there c.args.nodes.now c.args.place _ _ c.requires.inside c.index-nodes-place.is c.in-Pow.is)
    (subst (TypeFits c.args.nodes.now c.in-Pow.part) c.in-None.is c.in_ok-part-in-Pow.ensures)

pub returns-in-None-2 : goal.returns-in-None-2
returns-in-None-2 t c =
    left_untyped c.args.nodes.now c.args.place c.in-Pair.left c.in-Pair.right
    (is_there c.args.nodes.now c.args.place _ _ c.requires.inside c.index-nodes-place.is c.in-Pair.is)
    (subst (TypeFits c.args.nodes.now c.in-Pair.left) c.in-None-2.is c.in_ok-left-in-Pair.ensures)

pub returns-in-None-3 : goal.returns-in-None-3
returns-in-None-3 t c =
    right_untyped c.args.nodes.now c.args.place c.in-Pair.left c.in-Pair.right
    (is_there c.args.nodes.now c.args.place _ _ c.requires.inside c.index-nodes-place.is c.in-Pair.is)
    (subst (TypeFits c.args.nodes.now c.in-Pair.right) c.in-None-3.is c.in_ok-right-in-Some-2.ensures)
