use Rattle.std.proofs.Common.{◌≡◌, ◌∙◌, inl, inr, ap, ◌+◌, ◌^◌, min, length, map, arith}
use Rattle.formula_core.specs.Formulas.{instantiated}
use Rattle.instance_size.specs.Extents.{extent_of}
use Rattle.instance_size.specs.Private.{above, side_by_side, extent_of_parts}
use Rattle.instance_size.proofs.Extents.{one-more}
use Rattle.instance_size.proofs.InstantiatedExtents.{at_Bind, at_Bound, at_Free, at_Int, at_Node, at_capped}
use Rattle.instance_size.proofs.instantiated.+count.Goals as goal

pub extent_with-returns-in-Int : goal.extent_with-returns-in-Int
extent_with-returns-in-Int t c = λ d e. elim c.in-Int.is [
  | inl w ↦ c.leaf.ensures ∙ at_Int c.args.terms.now d c.args.body.now w.0 w.1
  | inr w ↦ c.leaf.ensures ∙ at_Free c.args.terms.now d c.args.body.now w.0 w.1 w.2
]

pub extent_with-returns-in-Bound : goal.extent_with-returns-in-Bound
extent_with-returns-in-Bound t c = λ d e.
    c.extent_at_index.ensures ∙ ap extent_of (at_capped c.args.terms.now c.in-Bound.at c.args.depth d c.in-Bound.ty (omega arith) e)
    ∙ at_Bound c.args.terms.now d c.args.body.now c.in-Bound.at c.in-Bound.ty c.in-Bound.is

pub extent_with-returns-in-Node : goal.extent_with-returns-in-Node
extent_with-returns-in-Node t c = λ d e.
    c.above.ensures ∙ ap above (c.extent_of_all.ensures d e ∙ ap (λ ps. extent_of_parts (map (instantiated c.args.terms.now d) ps)) c.items.ensures)
    ∙ at_Node c.args.terms.now d c.args.body.now _ c.in-Node.parts _ c.in-Node.is

pub extent_with-returns-in-Bind : goal.extent_with-returns-in-Bind
extent_with-returns-in-Bind t c = λ d e.
    let deep : c.deeper-depth.result ≡ min (d + length c.in-Bind.types) (2 ^ 32) = rw (← c.items-in-Bind.ensures) (c.deeper-depth.ensures d e) in
    c.above-in-Bind.ensures
    ∙ ap above (c.extent_of_all-in-Bind.ensures _ deep ∙ ap (λ ps. extent_of_parts (map (instantiated c.args.terms.now (d + length c.in-Bind.types)) ps)) c.items-in-Bind-2.ensures)
    ∙ at_Bind c.args.terms.now d c.args.body.now _ c.in-Bind.types c.in-Bind.parts _ c.in-Bind.is

pub extent_of_all-loop-item-preserved : goal.extent_of_all-loop-item-preserved
extent_of_all-loop-item-preserved t c = λ d e.
    c.side_by_side-all.ensures ∙ (λ i. side_by_side (c.loop-item.invariant d e i) (c.extent_with.ensures d e i))
    ∙ one-more (instantiated c.args.terms.now d) c.args.items.now c.loop-item.item-index c.item-item.result c.loop-item-test.true c.item-item.is
