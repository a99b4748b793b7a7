use Rattle.std.proofs.Common.{◌≡◌, Some, sym, ap, ◌∙◌, arith}
use Rattle.unification.specs.PrivateGraph.{node_at, link_of}
use Rattle.unification.proofs.Forms.{Alike-trans, link_below, link_same, read}
use Rattle.unification.proofs.graph.root.Goals as goal

pub loop-next-preserved : goal.loop-next-preserved
loop-next-preserved c =
    let old = c.loop-next.invariant in
    let ns = c.loop-next.nodes.items in
    let linked : link_of (node_at ns c.loop-next.at) ≡ Some c.in-Some.next = sym (c.in-Some.ensures ∙ ap link_of (read ns c.loop-next.at _ old.inside c.index.ensures)) in
    let below = link_below ns c.loop-next.at c.in-Some.next old.alike.graph linked in
    let long = c.shorten.ensures.long in
    let within = old.inside in
    record {
      alike = Alike-trans _ _ _ old.alike c.shorten.ensures;
      inside = omega arith;
      same = λ u h. old.same u h ∙ link_same u ns c.loop-next.at c.in-Some.next (old.alike.kept u h) linked;
    }
