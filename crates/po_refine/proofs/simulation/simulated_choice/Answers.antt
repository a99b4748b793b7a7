use Rattle.std.proofs.Common.{◌≡◌, ◌∙◌, ◌++◌, ◌∷◌, [], ap, subst, IfOk}
use Rattle.formula_core.specs.Formulas.{substituted}
use Rattle.po_refine.proofs.simulation.simulated_choice.Goals as goal

pub returns : goal.returns
returns c =
    let pairs =
    c.deref.ensures.value ∙ c.in_ok-push.ensures.items ∙ ap (λ ps. ps ++ c.in_ok-value_of_primed.field-0 ∷ []) c.new-pairs.ensures.items
    ∙ ap (λ pair. pair ∷ []) c.in_ok-value_of_primed.ensures in
    subst (λ f. IfOk c.substitute_any.result (λ g. g ≡ f)) (λ i. substituted (pairs i) (c.in_ok-chosen.ensures i)) c.substitute_any.ensures
