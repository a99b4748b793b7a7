use Rattle.std.proofs.Common.{sym, subst, arith}
use Rattle.std.proofs.lemmas.Result.{err_from_is_err_and}
use Rattle.unification.specs.PrivateGraph.{AreInside}
use Rattle.unification.proofs.Merges.{last_inside, found, found_flip, found_same, found_joined, found_refused}
use Rattle.unification.proofs.merging.merge.Goals as goal

pub root-left-requires-clause-inside : goal.root-left-requires-clause-inside
root-left-requires-clause-inside c =
    let p = last_inside _ _ _ _ c.loop-pair.invariant.inside c.in-Some.ensures.items in
    omega (arith, p.0, c.loop-pair.nodes.ok.0)

pub root-right-requires-clause-inside : goal.root-right-requires-clause-inside
root-right-requires-clause-inside c =
    let p = last_inside _ _ _ _ c.loop-pair.invariant.inside c.in-Some.ensures.items in
    omega (arith, p.1, c.root-left.ensures.alike.long, c.root-left.new.nodes.ok.0)

pub join-requires-clause-pairs_inside : goal.join-requires-clause-pairs_inside
join-requires-clause-pairs_inside c =
    let f = (found _ _ _ _ _ _ _ c.in-Some.pair _ _ c.loop-pair.invariant c.in-Some.ensures.items c.root-left.ensures.alike c.root-right.ensures.alike c.root-left.ensures.same c.root-right.ensures.same) in
    subst (λ n. AreInside n c.pop.new.self.items) (sym c.root-right.new.nodes.ok.0) f.inside

pub loop-pair-preserved-in-Continue-1 : goal.loop-pair-preserved-in-Continue-1
loop-pair-preserved-in-Continue-1 c =
    found_joined _ _ _ _ _ _ _ _ (found _ _ _ _ _ _ _ c.in-Some.pair _ _ c.loop-pair.invariant c.in-Some.ensures.items c.root-left.ensures.alike c.root-right.ensures.alike c.root-left.ensures.same c.root-right.ensures.same) c.in_ok-join.ensures.joined

pub returns-in_err-join-clause-refused : goal.returns-in_err-join-clause-refused
returns-in_err-join-clause-refused c e =
    let p = err_from_is_err_and c.from_residual.result c.from_residual.ensures.1 in
    let a = p.1 in
    let b = p.2 in
    found_refused _ _ _ _ _ _ (found _ _ _ _ _ _ _ c.in-Some.pair _ _ c.loop-pair.invariant c.in-Some.ensures.items c.root-left.ensures.alike c.root-right.ensures.alike c.root-left.ensures.same c.root-right.ensures.same) (c.in_err-join.ensures.refused (cc))

pub join-requires-then-right-left-clause-pairs_inside : goal.join-requires-then-right-left-clause-pairs_inside
join-requires-then-right-left-clause-pairs_inside c =
    let f = (found _ _ _ _ _ _ _ c.in-Some.pair _ _ c.loop-pair.invariant c.in-Some.ensures.items c.root-left.ensures.alike c.root-right.ensures.alike c.root-left.ensures.same c.root-right.ensures.same) in
    subst (λ n. AreInside n c.pop.new.self.items) (sym c.root-right.new.nodes.ok.0) f.inside

pub loop-pair-preserved-in-Continue-branch-2 : goal.loop-pair-preserved-in-Continue-branch-2
loop-pair-preserved-in-Continue-branch-2 c =
    found_joined _ _ _ _ _ _ _ _ (found_flip _ _ _ _ _ _ (found _ _ _ _ _ _ _ c.in-Some.pair _ _ c.loop-pair.invariant c.in-Some.ensures.items c.root-left.ensures.alike c.root-right.ensures.alike c.root-left.ensures.same c.root-right.ensures.same)) c.in_ok-join-2.ensures.joined

pub returns-in_err-join-2-clause-refused : goal.returns-in_err-join-2-clause-refused
returns-in_err-join-2-clause-refused c e =
    let p = err_from_is_err_and c.from_residual-in_err-join-2.result c.from_residual-in_err-join-2.ensures.1 in
    let a = p.1 in
    let b = p.2 in
    found_refused _ _ _ _ _ _ (found_flip _ _ _ _ _ _ (found _ _ _ _ _ _ _ c.in-Some.pair _ _ c.loop-pair.invariant c.in-Some.ensures.items c.root-left.ensures.alike c.root-right.ensures.alike c.root-left.ensures.same c.root-right.ensures.same)) (c.in_err-join-2.ensures.refused (cc))

pub loop-pair-preserved : goal.loop-pair-preserved
loop-pair-preserved c =
    found_same _ _ _ _ _ _ (found _ _ _ _ _ _ _ c.in-Some.pair _ _ c.loop-pair.invariant c.in-Some.ensures.items c.root-left.ensures.alike c.root-right.ensures.alike c.root-left.ensures.same c.root-right.ensures.same) (omega (arith, c.if-left-right.false, c.if-right-left.false))
