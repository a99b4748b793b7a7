use Rattle.std.proofs.Common.{◌≡◌, ◌∙◌, sym, ap, subst, List, [], ◌∷◌, ◌++◌, map, OnOk}
use Rattle.formula_core.specs.declared.Formula.TheVariants.{Int, Free, Bound, Node, Bind}
use Rattle.rule_table.specs.Rewriting.{replaced}
use Rattle.rules_sets.proofs.Replacing.{at_occurrence, at_Int, at_Free, at_Bound, at_Node, at_Bind}
use Rattle.rules_sets.proofs.replace.+replace.Goals as goal

pub add_replaced-returns-then-same : goal.add_replaced-returns-then-same
add_replaced-returns-then-same t c =
    subst (λ g. OnOk c.add_copy.result (c.add_copy.new.out.items ≡ c.args.out.now.items ++ g ∷ []))
    (sym (at_occurrence c.args.old.now c.args.new.now c.args.f.now (sym c.same.ensures.test ∙ c.if-same.true))) c.add_copy.ensures

pub add_replaced-returns-in-Int : goal.add_replaced-returns-in-Int
add_replaced-returns-in-Int t c =
    subst (λ g. OnOk c.add_copy-in-Int.result (c.add_copy-in-Int.new.out.items ≡ c.args.out.now.items ++ g ∷ []))
    (sym (at_Int c.args.old.now c.args.new.now c.args.f.now _ c.in-Int.is (sym c.same.ensures.test ∙ c.if-same.false))) c.add_copy-in-Int.ensures

pub add_replaced-returns-in-Free : goal.add_replaced-returns-in-Free
add_replaced-returns-in-Free t c =
    subst (λ g. OnOk c.add_copy-in-Free.result (c.add_copy-in-Free.new.out.items ≡ c.args.out.now.items ++ g ∷ []))
    (sym (at_Free c.args.old.now c.args.new.now c.args.f.now _ _ c.in-Free.is (sym c.same.ensures.test ∙ c.if-same.false))) c.add_copy-in-Free.ensures

pub add_replaced-returns-in-Bound : goal.add_replaced-returns-in-Bound
add_replaced-returns-in-Bound t c =
    subst (λ g. OnOk c.add_copy-in-Bound.result (c.add_copy-in-Bound.new.out.items ≡ c.args.out.now.items ++ g ∷ []))
    (sym (at_Bound c.args.old.now c.args.new.now c.args.f.now _ _ c.in-Bound.is (sym c.same.ensures.test ∙ c.if-same.false))) c.add_copy-in-Bound.ensures

pub add_replaced-returns-in_ok-add_all_replaced-in-Node : goal.add_replaced-returns-in_ok-add_all_replaced-in-Node
add_replaced-returns-in_ok-add_all_replaced-in-Node t c =
    let old = c.args.old.now in let new = c.args.new.now in
    let made : c.add_all_replaced.new.out.items ≡ map (replaced old new) c.in-Node.parts = c.in_ok-add_all_replaced-in-Node.ensures ∙ (λ i. c.new-made.ensures.items i ++ map (replaced old new) (c.items.ensures i)) in
    subst (λ g. OnOk c.add_node.result (c.add_node.new.out.items ≡ c.args.out.now.items ++ g ∷ []))
    (ap (λ ps. Node c.in-Node.op ps c.in-Node.ty) made ∙ sym (at_Node old new c.args.f.now _ _ _ c.in-Node.is (sym c.same.ensures.test ∙ c.if-same.false))) c.add_node.ensures

pub add_replaced-returns-in_ok-add_all_replaced-in-Bind : goal.add_replaced-returns-in_ok-add_all_replaced-in-Bind
add_replaced-returns-in_ok-add_all_replaced-in-Bind t c =
    let old = c.args.old.now in let new = c.args.new.now in
    let made : c.add_all_replaced-in-Bind.new.out.items ≡ map (replaced old new) c.in-Bind.parts = c.in_ok-add_all_replaced-in-Bind.ensures ∙ (λ i. c.new-made-in-Bind.ensures.items i ++ map (replaced old new) (c.items-in-Bind.ensures i)) in
    subst (λ g. OnOk c.add_binder.result (c.add_binder.new.out.items ≡ c.args.out.now.items ++ g ∷ []))
    ((λ i. Bind c.in-Bind.binder (c.items-in-Bind-2.ensures i) (made i) c.in-Bind.ty) ∙ sym (at_Bind old new c.args.f.now _ _ _ _ c.in-Bind.is (sym c.same.ensures.test ∙ c.if-same.false))) c.add_binder.ensures
