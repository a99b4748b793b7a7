-- What an equation tells.
use Rattle.std.proofs.Common.{List, [], ap, sym, true, ℕ, ◌&&◌, ◌∙◌, ◌∷◌, ◌≡◌}
use Rattle.formula_core.proofs.Types.{same_type_exact}
use Rattle.formula_core.proofs.Weakening.{first_true, second_true}
use Rattle.formula_core.specs.Types.{is_truth, is_value_type, same_type}
use Rattle.formula_core.specs.Wellness.{type_of}
use Rattle.formula_core.specs.declared.Formula.{Formula}
use Rattle.formula_core.specs.declared.Formula.TheVariants.{Node}
use Rattle.formula_core.specs.declared.Op.TheVariants as op
use Rattle.formula_core.specs.declared.Ty.{Ty}
use Rattle.formula_core.specs.declared.Ty.TheVariants as ty
use Rattle.meanings.specs.Denotations.{Assignment, denotation}
use Rattle.meanings.specs.Operations.{truth_value}
use Rattle.meanings.specs.Universes.{Valuation, Universe, cast}
use Rattle.meanings.specs.Values.{Denotation, boolean_sort, sort}
use Rattle.meanings.proofs.Casts.{cast_own, cast_known}
use Rattle.meanings.proofs.Denotations.{sort_of}
use Rattle.meanings.proofs.Fitting.{IsWellIn, row_of_well}
use Rattle.meanings.proofs.Truths.{at_node, is_truth as sort_is_boolean}
use Rattle.meanings.proofs.Types.{truth_is}

module _ {carrier : List ℕ → Type 0} (U : Universe carrier) (names : Valuation carrier) where
  pub true-Equal : (t : Ty) → t ≡ ty.Truth → (σ : Assignment U) (e f : Formula)
      → truth_value U (denotation U names (Node op.Equal (e ∷ f ∷ []) t) σ) ≡ U.same (denotation U names e σ).0 (denotation U names e σ).1 (cast U (denotation U names e σ).0 (denotation U names f σ))
  true-Equal t is σ e f = ap (truth_value U) (at_node U names op.Equal (e ∷ f ∷ []) t boolean_sort (sort_is_boolean U names t is σ) σ)

  -- an equation tells that both sides mean the same, where they have one type
  pub equation_tells : (t : Ty) → t ≡ ty.Truth → (σ : Assignment U) (e f : Formula) → type_of f ≡ type_of e
      → truth_value U (denotation U names (Node op.Equal (e ∷ f ∷ []) t) σ) ≡ true → denotation U names e σ ≡ denotation U names f σ
  equation_tells t is σ e f types h =
      let x : Denotation carrier = denotation U names e σ in let y : Denotation carrier = denotation U names f σ in
      let values : x.1 ≡ cast U x.0 y = (U.same_exact x.0 x.1 (cast U x.0 y)).0 (sym (true-Equal t is σ e f) ∙ h) in
      let sorts : y.0 ≡ x.0 = sort_of U names f σ ∙ ap sort types ∙ sym (sort_of U names e σ) in
      (λ i. (x.0, values i)) ∙ cast_known U y x.0 sorts

  pub equation_holds : (t : Ty) → t ≡ ty.Truth → (σ : Assignment U) (e f : Formula) → denotation U names e σ ≡ denotation U names f σ
      → truth_value U (denotation U names (Node op.Equal (e ∷ f ∷ []) t) σ) ≡ true
  equation_holds t is σ e f same =
      let x : Denotation carrier = denotation U names e σ in
      true-Equal t is σ e f ∙ (λ i. U.same x.0 x.1 (cast U x.0 (sym same i))) ∙ (U.same_exact x.0 x.1 (cast U x.0 x)).1 (sym (cast_own U x.0 x.1))

-- the two sides of a well equation have one type, and are well
pub equal_types : (e f : Formula) (t : Ty) (types : List Ty) → IsWellIn (Node op.Equal (e ∷ f ∷ []) t) types → type_of f ≡ type_of e
equal_types e f t types h =
    let k : (is_value_type (type_of e) && same_type (type_of f) (type_of e) && is_truth t) ≡ true = row_of_well op.Equal (e ∷ f ∷ []) t types h in
    same_type_exact (type_of f) (type_of e) (second_true (is_value_type (type_of e)) _ (first_true (is_value_type (type_of e) && same_type (type_of f) (type_of e)) _ k))

-- the type of a well equation, comparison and inclusion
pub equal_truth : (e f : Formula) (t : Ty) (types : List Ty) → IsWellIn (Node op.Equal (e ∷ f ∷ []) t) types → t ≡ ty.Truth
equal_truth e f t types h =
    let k : (is_value_type (type_of e) && same_type (type_of f) (type_of e) && is_truth t) ≡ true = row_of_well op.Equal (e ∷ f ∷ []) t types h in
    truth_is t (second_true (is_value_type (type_of e) && same_type (type_of f) (type_of e)) _ k)
