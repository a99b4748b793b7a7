use Rattle.std.proofs.Common.{◌≡◌, ◌∙◌, ap, refl, map, [], ◌∷◌, ◌++◌, ◌+◌, ◌^◌, min, length}
use Rattle.formula_core.specs.declared.formula.Formula.TheVariants.{Bind}
use Rattle.formula_core.specs.Formulas.{instantiated_step, instantiated}
use Rattle.formula_core.proofs.Depths.{added_node, added_binder}
use Rattle.formula_core.proofs.formula.+instantiate.Goals as goal

pub Formula::instantiate_onto-returns-in_ok-add_node-in-Node : goal.Formula::instantiate_onto-returns-in_ok-add_node-in-Node
Formula::instantiate_onto-returns-in_ok-add_node-in-Node t c =
    λ d e. added_node (instantiated_step c.args.terms.now) (λ op parts t d. refl) d _ c.in-Node.op c.in-Node.parts _ _ _ _ c.in-Node.ty c.in-Node.is c.new-made.ensures.items
    (c.in_ok-instantiate_all-in-Node.ensures d e ∙ ap (λ ps. c.new-made.result.items ++ map (instantiated c.args.terms.now d) ps) c.items.ensures)
    c.in_ok-add_node-in-Node.ensures

pub Formula::instantiate_onto-returns-in_ok-add_binder-in-Bind : goal.Formula::instantiate_onto-returns-in_ok-add_binder-in-Bind
Formula::instantiate_onto-returns-in_ok-add_binder-in-Bind t c =
    λ d e. let deep : c.deeper-depth.result ≡ min (d + length c.in-Bind.types) (2 ^ 32) = rw (← c.items-in-Bind.ensures) (c.deeper-depth.ensures d e) in
    added_binder (instantiated_step c.args.terms.now) (λ binder types parts t d. refl) d _ c.in-Bind.binder c.in-Bind.types c.in-Bind.parts _ _ _ _ c.in-Bind.ty c.in-Bind.is c.new-made-in-Bind.ensures.items
    (c.in_ok-instantiate_all-in-Bind.ensures _ deep ∙ ap (λ ps. c.new-made-in-Bind.result.items ++ map (instantiated c.args.terms.now (d + length c.in-Bind.types)) ps) c.items-in-Bind-2.ensures)
    (c.in_ok-add_binder-in-Bind.ensures ∙ ap (λ types. c.args.out.now.items ++ Bind c.in-Bind.binder types c.instantiate_all-in-Bind.new.out.items c.in-Bind.ty ∷ []) c.items-in-Bind-3.ensures)
