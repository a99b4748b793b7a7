use Rattle.std.proofs.Common.{◌≡◌, ◌∙◌, ap, IsTrue}
use Rattle.std.proofs.lemmas.Result.{IfOk-weaker}
use Rattle.formula_core.specs.Formulas.{instantiated}
use Rattle.formula_core.specs.Wellness.{type_of, is_well}
use Rattle.formula_core.proofs.InstantiatedWell.{quantifier_instantiated_is_well}
use Rattle.formula_core.proofs.KeptTypes.{quantifier_instantiated_type}
use Rattle.formula_core.proofs.formula.Formula.instantiate.Goals as goal

pub returns-clause-value : goal.returns-clause-value
returns-clause-value c = rw (← c.in-Some.ensures) (c.instantiate_any.ensures)

pub returns-clause-well : goal.returns-clause-well
returns-clause-well c =
    λ h. let all = quantifier_instantiated_is_well c.args.self.now c.args.terms.now c.requires.terms c.requires.types h in
    let here : IsTrue (is_well (instantiated c.args.terms.now 0 c.in-Some.part.now)) = rw (← c.in-Some.ensures) at all in
    IfOk-weaker _ (λ f. f ≡ instantiated c.args.terms.now 0 c.in-Some.part.now) (λ f. IsTrue (is_well f)) (λ f e. ap is_well e ∙ here) (c.instantiate_any.ensures)

pub returns-clause-typed : goal.returns-clause-typed
returns-clause-typed c =
    λ h. let all = quantifier_instantiated_type c.args.self.now c.args.terms.now c.requires.terms c.requires.types h in
    let here : type_of (instantiated c.args.terms.now 0 c.in-Some.part.now) ≡ type_of c.args.self.now = rw (← c.in-Some.ensures) at all in
    IfOk-weaker _ (λ f. f ≡ instantiated c.args.terms.now 0 c.in-Some.part.now) (λ f. type_of f ≡ type_of c.args.self.now) (λ f e. ap type_of e ∙ here) (c.instantiate_any.ensures)
