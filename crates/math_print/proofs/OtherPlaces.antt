-- A written formula is typed as one whose places are others.
use Rattle.std.proofs.Common.{◌≡◌, ◌∙◌, sym, ap, subst, ℕ, List, Option}
use Rattle.formula_core.specs.declared.ty.Ty.{Ty}
use Rattle.formula_core.specs.declared.formula.Formula.{Formula}
use Rattle.formula_core.specs.declared.raw.Raw.{Raw}
use Rattle.type_formula.specs.Bare.{Bare}
use Rattle.type_formula.specs.CoreForms.{core_form}
use Rattle.type_formula.specs.Answers.{IsTypedAs, IsTheFormula}
use Rattle.math_places.specs.Places.{unplaced}
use Rattle.math_print.proofs.BarePlaces.{unplaced_bare}
use Rattle.math_print.proofs.Typings.{placed, without_places}
use Rattle.math_print.proofs.CoreForms.{same_core}

pub typed_again : (r s : Raw) → unplaced r ≡ unplaced s → (env : List (List ℕ × Ty)) (wanted : List (List ℕ)) (expected : Option Ty) (f : Formula) → IsTypedAs env wanted (core_form r) expected f → IsTypedAs env wanted (core_form s) expected f
typed_again r s same env wanted expected f h =
    let bare : unplaced_bare (core_form r) ≡ unplaced_bare (core_form s) = sym (same_core r) ∙ ap core_form same ∙ same_core s in
    let P : Bare → Type 0 = λ b. IsTypedAs env wanted b expected f in
    placed env wanted (core_form s) expected f (subst P bare (without_places env wanted (core_form r) expected f h))

pub formula_again : (r s : Raw) → unplaced r ≡ unplaced s → (env : List (List ℕ × Ty)) (wanted : List (List ℕ)) (expected : Option Ty) (f : Formula) → IsTheFormula env wanted (core_form r) expected f → IsTheFormula env wanted (core_form s) expected f
formula_again r s same env wanted expected f h = record {
  typed = typed_again r s same env wanted expected f h.typed;
  only = λ other k. h.only other (typed_again s r (sym same) env wanted expected other k);
}
