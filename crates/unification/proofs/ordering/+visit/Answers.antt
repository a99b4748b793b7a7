use Rattle.std.proofs.Common.{◌≡◌, ◌<◌, length, set, sym, ◌∙◌, subst, arith}
use Rattle.std.proofs.lemmas.Result.{on_ok_weaker}
use Rattle.unification.specs.declared.ordering.Mark.TheVariants.{New, Open, Done}
use Rattle.unification.specs.PrivateGraph.{AllParts}
use Rattle.unification.specs.PrivateOrder.{mark_at, AreAbove}
use Rattle.unification.proofs.Walks.{cycle, begins, read_mark, read_parts, above_advanced, count_advanced, done_advanced, Advances-refl, Advances-trans, visited_ok}
use Rattle.unification.proofs.ordering.+visit.Goals as goal

pub visit-requires : goal.visit-requires
visit-requires t c =
    let b = (begins c.args.nodes.now c.args.marks.now.items c.args.order.now.items c.args.at _ c.requires.graph c.requires.inside c.requires.marked c.args.marks.now.ok.0 c.requires.walk c.requires.above (read_mark c.args.marks.now.items c.args.at (length c.args.nodes.now) _ New c.requires.inside (sym c.requires.marked ∙ c.args.marks.now.ok.0) c.index.ensures c.in-New.is)) in
    let p = (read_parts c.args.nodes.now c.args.at _ _ c.requires.inside c.index-nodes-at.is c.in-One.ensures) in
    let inside = (subst (AllParts (λ a. a < length c.args.nodes.now)) p b.inside) in
    let above = (subst (AllParts (AreAbove c.args.nodes.now (set c.args.marks.now.items c.args.at Open))) p b.above) in
    (omega (arith, c.decreases, b.count), (c.requires.graph, (inside, (c.requires.marked, (b.walk, above)))))

pub visit-requires-in-Two : goal.visit-requires-in-Two
visit-requires-in-Two t c =
    let b = (begins c.args.nodes.now c.args.marks.now.items c.args.order.now.items c.args.at _ c.requires.graph c.requires.inside c.requires.marked c.args.marks.now.ok.0 c.requires.walk c.requires.above (read_mark c.args.marks.now.items c.args.at (length c.args.nodes.now) _ New c.requires.inside (sym c.requires.marked ∙ c.args.marks.now.ok.0) c.index.ensures c.in-New.is)) in
    let p = (read_parts c.args.nodes.now c.args.at _ _ c.requires.inside c.index-nodes-at.is c.in-Two.ensures) in
    let inside = (subst (AllParts (λ a. a < length c.args.nodes.now)) p b.inside).0 in
    let above = (subst (AllParts (AreAbove c.args.nodes.now (set c.args.marks.now.items c.args.at Open))) p b.above).0 in
    (omega (arith, c.decreases, b.count), (c.requires.graph, (inside, (c.requires.marked, (b.walk, above)))))

pub visit-requires-in-Two-2 : goal.visit-requires-in-Two-2
visit-requires-in-Two-2 t c =
    let b = (begins c.args.nodes.now c.args.marks.now.items c.args.order.now.items c.args.at _ c.requires.graph c.requires.inside c.requires.marked c.args.marks.now.ok.0 c.requires.walk c.requires.above (read_mark c.args.marks.now.items c.args.at (length c.args.nodes.now) _ New c.requires.inside (sym c.requires.marked ∙ c.args.marks.now.ok.0) c.index.ensures c.in-New.is)) in
    let p = (read_parts c.args.nodes.now c.args.at _ _ c.requires.inside c.index-nodes-at.is c.in-Two.ensures) in
    let inside = (subst (AllParts (λ a. a < length c.args.nodes.now)) p b.inside).1 in
    let above = (subst (AllParts (AreAbove c.args.nodes.now (set c.args.marks.now.items c.args.at Open))) p b.above).1 in
    let adv = c.in_ok-visit-in-Two.ensures.advanced in
    (omega (arith, c.decreases, b.count, count_advanced _ _ adv), (c.requires.graph, (inside, (omega (arith, adv.long, b.longer, c.visit-in-Two.new.marks.ok.0), (c.in_ok-visit-in-Two.ensures.walked, above_advanced _ _ _ _ above adv)))))

pub returns-in-Open-clause-cycle : goal.returns-in-Open-clause-cycle
returns-in-Open-clause-cycle t c _ =
    cycle c.args.nodes.now c.args.marks.now.items c.args.at c.requires.above (read_mark c.args.marks.now.items c.args.at (length c.args.nodes.now) _ Open c.requires.inside (sym c.requires.marked ∙ c.args.marks.now.ok.0) c.index.ensures c.in-Open.is)

pub returns-in-Zero-clause-walked : goal.returns-in-Zero-clause-walked
returns-in-Zero-clause-walked t c =
    let b = (begins c.args.nodes.now c.args.marks.now.items c.args.order.now.items c.args.at _ c.requires.graph c.requires.inside c.requires.marked c.args.marks.now.ok.0 c.requires.walk c.requires.above (read_mark c.args.marks.now.items c.args.at (length c.args.nodes.now) _ New c.requires.inside (sym c.requires.marked ∙ c.args.marks.now.ok.0) c.index.ensures c.in-New.is)) in
    let p = (read_parts c.args.nodes.now c.args.at _ _ c.requires.inside c.index-nodes-at.is c.in-Zero.ensures) in
    let opened = set c.args.marks.now.items c.args.at Open in
    on_ok_weaker c.finish.result (λ v. v.walked)
    (visited_ok c.finish.result _ _ opened _ _ _ _ c.requires.inside b.long b.fresh (Advances-refl opened) b.walk (subst (AllParts (λ a. mark_at opened a ≡ Done)) (sym p) tt) c.finish.ensures.marked c.finish.ensures.listed)

pub returns-in_ok-visit-in-One-clause-walked : goal.returns-in_ok-visit-in-One-clause-walked
returns-in_ok-visit-in-One-clause-walked t c =
    let b = (begins c.args.nodes.now c.args.marks.now.items c.args.order.now.items c.args.at _ c.requires.graph c.requires.inside c.requires.marked c.args.marks.now.ok.0 c.requires.walk c.requires.above (read_mark c.args.marks.now.items c.args.at (length c.args.nodes.now) _ New c.requires.inside (sym c.requires.marked ∙ c.args.marks.now.ok.0) c.index.ensures c.in-New.is)) in
    let p = (read_parts c.args.nodes.now c.args.at _ _ c.requires.inside c.index-nodes-at.is c.in-One.ensures) in
    let one = c.in_ok-visit-in-One.ensures in
    on_ok_weaker c.finish-in-One.result (λ v. v.walked)
    (visited_ok c.finish-in-One.result _ _ c.visit.new.marks.items _ _ _ _ c.requires.inside b.long b.fresh one.advanced one.walked (subst (AllParts (λ a. mark_at c.visit.new.marks.items a ≡ Done)) (sym p) one.done) c.finish-in-One.ensures.marked c.finish-in-One.ensures.listed)

pub returns-in_ok-visit-in-Two-2-clause-walked : goal.returns-in_ok-visit-in-Two-2-clause-walked
returns-in_ok-visit-in-Two-2-clause-walked t c =
    let b = (begins c.args.nodes.now c.args.marks.now.items c.args.order.now.items c.args.at _ c.requires.graph c.requires.inside c.requires.marked c.args.marks.now.ok.0 c.requires.walk c.requires.above (read_mark c.args.marks.now.items c.args.at (length c.args.nodes.now) _ New c.requires.inside (sym c.requires.marked ∙ c.args.marks.now.ok.0) c.index.ensures c.in-New.is)) in
    let p = (read_parts c.args.nodes.now c.args.at _ _ c.requires.inside c.index-nodes-at.is c.in-Two.ensures) in
    let one = c.in_ok-visit-in-Two.ensures in
    let two = c.in_ok-visit-in-Two-2.ensures in
    let last = c.visit-in-Two-2.new.marks.items in
    on_ok_weaker c.finish-in-Two.result (λ v. v.walked)
    (visited_ok c.finish-in-Two.result _ _ last _ _ _ _ c.requires.inside b.long b.fresh (Advances-trans _ _ _ one.advanced two.advanced) two.walked (subst (AllParts (λ a. mark_at last a ≡ Done)) (sym p) (done_advanced _ _ _ two.advanced one.done, two.done)) c.finish-in-Two.ensures.marked c.finish-in-Two.ensures.listed)

pub returns-in_ok-visit-in-Two-2-clause-advanced : goal.returns-in_ok-visit-in-Two-2-clause-advanced
returns-in_ok-visit-in-Two-2-clause-advanced t c =
    let b = (begins c.args.nodes.now c.args.marks.now.items c.args.order.now.items c.args.at _ c.requires.graph c.requires.inside c.requires.marked c.args.marks.now.ok.0 c.requires.walk c.requires.above (read_mark c.args.marks.now.items c.args.at (length c.args.nodes.now) _ New c.requires.inside (sym c.requires.marked ∙ c.args.marks.now.ok.0) c.index.ensures c.in-New.is)) in
    let p = (read_parts c.args.nodes.now c.args.at _ _ c.requires.inside c.index-nodes-at.is c.in-Two.ensures) in
    let one = c.in_ok-visit-in-Two.ensures in
    let two = c.in_ok-visit-in-Two-2.ensures in
    let last = c.visit-in-Two-2.new.marks.items in
    on_ok_weaker c.finish-in-Two.result (λ v. v.advanced)
    (visited_ok c.finish-in-Two.result _ _ last _ _ _ _ c.requires.inside b.long b.fresh (Advances-trans _ _ _ one.advanced two.advanced) two.walked (subst (AllParts (λ a. mark_at last a ≡ Done)) (sym p) (done_advanced _ _ _ two.advanced one.done, two.done)) c.finish-in-Two.ensures.marked c.finish-in-Two.ensures.listed)
