use Rattle.std.proofs.Common.{sym, ◌∙◌, subst, ◌<◌, length, arith}
use Rattle.std.proofs.lemmas.Result.{on_ok_weaker}
use Rattle.unification.specs.PrivateGraph.{AreInside}
use Rattle.unification.proofs.Meetings.{join_free, join_met, join_never}
use Rattle.unification.proofs.merging.join.Goals as goal

pub returns-then-is_free-clause-joined : goal.returns-then-is_free-clause-joined
returns-then-is_free-clause-joined c =
    let ns = c.args.nodes.now in
    let inside : c.args.high < length ns.items = omega (arith, c.requires.inside, ns.ok.0) in
    join_free ns.items _ c.args.low c.args.high _ _ c.requires.graph c.requires.below inside c.requires.low_last c.requires.high_last c.replace_by_link-form.ensures.form c.replace_by_link-form.ensures.rest c.index.ensures _ c.args.pairs.now.items
    (subst (λ n. AreInside n c.args.pairs.now.items) ns.ok.0 c.requires.pairs_inside) (sym c.is_free.ensures ∙ c.if-is_free.true) c.put.ensures

pub returns-clause-joined : goal.returns-clause-joined
returns-clause-joined c =
    let ns = c.args.nodes.now in
    let inside : c.args.high < length ns.items = omega (arith, c.requires.inside, ns.ok.0) in
    on_ok_weaker c.add_pairs.result
    (join_met ns.items _ c.args.low c.args.high _ _ c.requires.graph c.requires.below inside c.requires.low_last c.requires.high_last c.replace_by_link-form.ensures.form c.replace_by_link-form.ensures.rest c.index.ensures _ _ c.args.pairs.now.items _
    (subst (λ n. AreInside n c.args.pairs.now.items) ns.ok.0 c.requires.pairs_inside) (sym c.is_free.ensures ∙ c.if-is_free.false) c.index-2.ensures c.meet.ensures) c.add_pairs.ensures.added

pub returns-clause-refused : goal.returns-clause-refused
returns-clause-refused c e =
    let ns = c.args.nodes.now in
    let inside : c.args.high < length ns.items = omega (arith, c.requires.inside, ns.ok.0) in
    join_never ns.items _ c.args.low c.args.high _ _ c.requires.graph c.requires.below inside c.requires.low_last c.requires.high_last c.replace_by_link-form.ensures.form c.replace_by_link-form.ensures.rest c.index.ensures _ _
    (sym c.is_free.ensures ∙ c.if-is_free.false) c.index-2.ensures c.meet.ensures (c.add_pairs.ensures.refused e)
