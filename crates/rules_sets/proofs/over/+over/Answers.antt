use Rattle.std.proofs.Common.{◌≡◌, ◌∙◌, sym, ap, subst, List, [], ◌∷◌, ◌++◌, map, OnOk}
use Rattle.std.specs.Option.{option_map}
use Rattle.formula_core.specs.declared.Formula.TheVariants.{Node, Bind}
use Rattle.formula_core.specs.Wellness.{type_of}
use Rattle.rule_table.specs.Rewriting.{replaced_over}
use Rattle.rule_table.specs.Shapes.{applied}
use Rattle.rules_sets.proofs.Overridden.{at_Int, at_Free, at_Bound, at_Some, at_None, at_Bind}
use Rattle.rules_sets.proofs.over.+over.Goals as goal

pub add_replaced_over-returns-in-Int : goal.add_replaced_over-returns-in-Int
add_replaced_over-returns-in-Int t c =
    subst (λ g. OnOk c.add_copy.result (c.add_copy.new.out.items ≡ c.args.out.now.items ++ g ∷ []))
    (sym (at_Int c.args.z.now c.args.x.now c.args.f.now _ c.in-Int.is)) c.add_copy.ensures

pub add_replaced_over-returns-in-Free : goal.add_replaced_over-returns-in-Free
add_replaced_over-returns-in-Free t c =
    subst (λ g. OnOk c.add_copy-in-Free.result (c.add_copy-in-Free.new.out.items ≡ c.args.out.now.items ++ g ∷ []))
    (sym (at_Free c.args.z.now c.args.x.now c.args.f.now _ _ c.in-Free.is)) c.add_copy-in-Free.ensures

pub add_replaced_over-returns-in-Bound : goal.add_replaced_over-returns-in-Bound
add_replaced_over-returns-in-Bound t c =
    subst (λ g. OnOk c.add_copy-in-Bound.result (c.add_copy-in-Bound.new.out.items ≡ c.args.out.now.items ++ g ∷ []))
    (sym (at_Bound c.args.z.now c.args.x.now c.args.f.now _ _ c.in-Bound.is)) c.add_copy-in-Bound.ensures

pub add_replaced_over-returns-in-Some : goal.add_replaced_over-returns-in-Some
add_replaced_over-returns-in-Some t c =
    subst (λ g. OnOk c.add_applied.result (c.add_applied.new.out.items ≡ c.args.out.now.items ++ g ∷ []))
    (sym (at_Some c.args.z.now c.args.x.now c.args.f.now _ _ _ _ c.in-Node.is
    (ap (option_map (λ y. applied y.now c.args.z.now (type_of c.args.f.now))) (sym c.in-Some.is) ∙ c.without_override.ensures)))
    c.add_applied.ensures

pub add_replaced_over-returns-in_ok-add_all_replaced_over-in-None : goal.add_replaced_over-returns-in_ok-add_all_replaced_over-in-None
add_replaced_over-returns-in_ok-add_all_replaced_over-in-None t c =
    let z = c.args.z.now in let x = c.args.x.now in
    let made : c.add_all_replaced_over.new.out.items ≡ map (replaced_over z x) c.in-Node.parts = c.in_ok-add_all_replaced_over-in-None.ensures ∙ (λ i. c.new-made.ensures.items i ++ map (replaced_over z x) (c.items.ensures i)) in
    subst (λ g. OnOk c.add_node.result (c.add_node.new.out.items ≡ c.args.out.now.items ++ g ∷ []))
    (ap (λ ps. Node c.in-Node.op ps c.in-Node.ty) made
    ∙ sym (at_None z x c.args.f.now _ _ _ c.in-Node.is (ap (option_map (λ y. applied y.now z (type_of c.args.f.now))) (sym c.in-None.is) ∙ c.without_override.ensures)))
    c.add_node.ensures

pub add_replaced_over-returns-in_ok-add_all_replaced_over-in-Bind : goal.add_replaced_over-returns-in_ok-add_all_replaced_over-in-Bind
add_replaced_over-returns-in_ok-add_all_replaced_over-in-Bind t c =
    let z = c.args.z.now in let x = c.args.x.now in
    let made : c.add_all_replaced_over-in-Bind.new.out.items ≡ map (replaced_over z x) c.in-Bind.parts = c.in_ok-add_all_replaced_over-in-Bind.ensures ∙ (λ i. c.new-made-in-Bind.ensures.items i ++ map (replaced_over z x) (c.items-in-Bind.ensures i)) in
    subst (λ g. OnOk c.add_binder.result (c.add_binder.new.out.items ≡ c.args.out.now.items ++ g ∷ []))
    ((λ i. Bind c.in-Bind.binder (c.items-in-Bind-2.ensures i) (made i) c.in-Bind.ty) ∙ sym (at_Bind z x c.args.f.now _ _ _ _ c.in-Bind.is)) c.add_binder.ensures
