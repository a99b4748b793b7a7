use Rattle.std.proofs.Common.{◌≡◌, ◌∙◌, sym, subst, true, List, ℕ, []}
use Rattle.formula_core.specs.Wellness.{is_well}
use Rattle.formula_core.specs.Substitution.{HasWellTerms}
use Rattle.formula_core.specs.declared.formula.Formula.TheVariants as formula
use Rattle.formula_core.specs.declared.ty.Ty.TheVariants as ty
use Rattle.formula_core.proofs.Schemes.{value-Int}
use Rattle.formula_core.proofs.Wellness.{well-Free}
use Rattle.formula_rows.proofs.calls.substitute.Goals as goal

integer_is_well : (name : List ℕ) → is_well (formula.Free name ty.Int) ≡ true
integer_is_well name = well-Free name ty.Int [] ∙ value-Int

pub substitute-requires-clause-terms : goal.substitute-requires-clause-terms
substitute-requires-clause-terms c = subst HasWellTerms (sym (c.deref.ensures.value ∙ c.in_ok-pairs.ensures)) (integer_is_well _, (integer_is_well _, tt))
