use Rattle.std.proofs.Common.{sym, ap, ◌∙◌, ◌<◌, length, arith}
use Rattle.unification.specs.PrivateGraph.{link_of}
use Rattle.unification.proofs.Forms.{Alike-refl, shortened, link_below, read}
use Rattle.unification.proofs.graph.shorten.Goals as goal

pub returns-in-Some : goal.returns-in-Some
returns-in-Some c =
    let ns = c.args.nodes.now in
    let inside : c.args.at < length ns.items = omega (arith, c.requires.inside, ns.ok.0) in
    let below = link_below ns.items c.args.at c.args.next c.requires.graph c.requires.linked in
    let there : c.args.next < length ns.items = omega arith in
    shortened ns.items _ c.args.at c.args.next _ c.requires.graph inside c.requires.linked (sym (c.in-Some.ensures ∙ ap link_of (read ns.items c.args.next _ there c.index.ensures))) c.put.ensures

pub returns-in_default : goal.returns-in_default
returns-in_default c = Alike-refl c.args.nodes.now.items c.requires.graph
