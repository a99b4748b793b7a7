use Rattle.std.proofs.Common.{◌≡◌, ◌∙◌, inl, inr, sym, ap, map}
use Rattle.rule_table.specs.Rewriting.{replaced}
use Rattle.instance_size.specs.Private.{above, side_by_side, extent_of_parts}
use Rattle.instance_size.proofs.Extents.{one-more}
use Rattle.instance_size.proofs.ReplacedExtents.{at_Bind, at_Bound, at_Free, at_Int, at_Node, at_occurrence}
use Rattle.instance_size.proofs.replaced.+replace.Goals as goal

pub extent_with-returns-then-same : goal.extent_with-returns-then-same
extent_with-returns-then-same t c = λ g e. e ∙ at_occurrence c.args.old.now g c.args.f.now (sym c.same.ensures.test ∙ c.if-same.true)

pub extent_with-returns-in-Int : goal.extent_with-returns-in-Int
extent_with-returns-in-Int t c = λ g e.
    let other = sym c.same.ensures.test ∙ c.if-same.false in
    elim c.in-Int.is [
      | inl w ↦ c.leaf.ensures ∙ at_Int c.args.old.now g c.args.f.now w.0 w.1 other
      | inr (inl w) ↦ c.leaf.ensures ∙ at_Free c.args.old.now g c.args.f.now w.0 w.1 w.2 other
      | inr (inr w) ↦ c.leaf.ensures ∙ at_Bound c.args.old.now g c.args.f.now w.0 w.1 w.2 other
    ]

pub extent_with-returns-in-Node : goal.extent_with-returns-in-Node
extent_with-returns-in-Node t c = λ g e.
    c.above.ensures ∙ ap above (c.extent_of_all.ensures g e ∙ ap (λ ps. extent_of_parts (map (replaced c.args.old.now g) ps)) c.items.ensures)
    ∙ at_Node c.args.old.now g c.args.f.now _ c.in-Node.parts _ c.in-Node.is (sym c.same.ensures.test ∙ c.if-same.false)

pub extent_with-returns-in-Bind : goal.extent_with-returns-in-Bind
extent_with-returns-in-Bind t c = λ g e.
    c.above-in-Bind.ensures ∙ ap above (c.extent_of_all-in-Bind.ensures g e ∙ ap (λ ps. extent_of_parts (map (replaced c.args.old.now g) ps)) c.items-in-Bind.ensures)
    ∙ at_Bind c.args.old.now g c.args.f.now _ _ c.in-Bind.parts _ c.in-Bind.is (sym c.same.ensures.test ∙ c.if-same.false)

pub extent_of_all-loop-item-preserved : goal.extent_of_all-loop-item-preserved
extent_of_all-loop-item-preserved t c = λ g e.
    c.side_by_side-all.ensures ∙ (λ i. side_by_side (c.loop-item.invariant g e i) (c.extent_with.ensures g e i))
    ∙ one-more (replaced c.args.old.now g) c.args.items.now c.loop-item.item-index c.item-item.result c.loop-item-test.true c.item-item.is
