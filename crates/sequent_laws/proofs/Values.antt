-- A well formula is a predicate, or its type is a type of values.
use Rattle.std.proofs.Common.{◌≡◌, ◌∙◌, ◌⊎◌, inl, inr, sym, ap, subst, refl, Bool, true, false, ◌&&◌, List, [], map, Option, Some, None, is_some}
use Rattle.std.specs.Option.{option_map_or}
use Rattle.formula_core.specs.declared.op.Binder.{Binder}
use Rattle.formula_core.specs.declared.op.Binder.TheVariants as binder
use Rattle.formula_core.specs.declared.row.Row.{Row}
use Rattle.formula_core.specs.declared.row.Row.TheVariants.{Nullary, Unary, Binary, SetExtension}
use Rattle.formula_core.specs.declared.row.NullaryRow.{NullaryRow}
use Rattle.formula_core.specs.declared.row.NullaryRow.TheVariants as nullary
use Rattle.formula_core.specs.declared.row.UnaryRow.{UnaryRow}
use Rattle.formula_core.specs.declared.row.UnaryRow.TheVariants as unary
use Rattle.formula_core.specs.declared.row.BinaryRow.{BinaryRow}
use Rattle.formula_core.specs.declared.row.BinaryRow.TheVariants as binary
use Rattle.formula_core.specs.declared.ty.Ty.{Ty}
use Rattle.formula_core.specs.declared.ty.Ty.TheVariants as ty
use Rattle.formula_core.specs.declared.ty.Ty.TheOpen.{Bool as BoolF}
use Rattle.formula_core.specs.declared.ty.Ty.TheViews.{rolls-Bool, outs-Truth}
use Rattle.formula_core.specs.declared.formula.Formula.{Formula}
use Rattle.formula_core.specs.Rows.{row_of}
use Rattle.formula_core.specs.Schemes.{Scheme, alpha, beta, gamma, delta, integer, boolean, truth, power, pair, nullary_scheme, unary_scheme, binary_scheme, result_scheme, binder_scheme, Letters, AreValues, type_of_scheme, IsSchemeInstance}
use Rattle.formula_core.specs.Types.{is_value_step, is_value_type, members_at, members, if_set}
use Rattle.formula_core.specs.Wellness.{type_of, is_well}
use Rattle.formula_core.proofs.Equations.{type_fold}
use Rattle.formula_core.proofs.Induction.{formula_induction}
use Rattle.formula_core.proofs.Schemes.{fits_exactly, binder_fits_exactly}
use Rattle.formula_core.proofs.Weakening.{first_true, second_true, both_true}
use Rattle.formula_core.proofs.Wellness.{well-Free, well-Bound, well-Node, well-Bind}
use Rattle.well_defined.proofs.Types.{type-Int, type-Free, type-Node, type-Bind, if_set_is, at_set, value-Int, value-Pow, value-Pair}

-- a scheme without the sort of predicates
abbrev is_plain : Scheme → Bool
is_plain truth = false
is_plain (power s) = is_plain s
is_plain (pair s t) = is_plain s && is_plain t
is_plain _ = true

abbrev IsFine : Scheme → Type 0
IsFine s = (s ≡ truth) ⊎ (is_plain s ≡ true)

nullary_fine : (row : NullaryRow) → IsFine (nullary_scheme row)
nullary_fine nullary.Predicate = inl refl
nullary_fine _ = inr refl

unary_fine : (row : UnaryRow) → IsFine (unary_scheme row).1
unary_fine unary.Negation = inl refl
unary_fine unary.Finiteness = inl refl
unary_fine _ = inr refl

binary_fine : (row : BinaryRow) → IsFine (binary_scheme row).2
binary_fine binary.Connective = inl refl
binary_fine binary.Equality = inl refl
binary_fine binary.Membership = inl refl
binary_fine binary.Inclusion = inl refl
binary_fine binary.Comparison = inl refl
binary_fine _ = inr refl

row_fine : (row : Row) → IsFine (result_scheme row)
row_fine (Nullary row) = nullary_fine row
row_fine (Unary row) = unary_fine row
row_fine (Binary row) = binary_fine row
row_fine SetExtension = inr refl

binder_fine : (b : Binder) → IsFine (binder_scheme b)
binder_fine binder.ForAll = inl refl
binder_fine binder.Exists = inl refl
binder_fine _ = inr refl

value-Bool : is_value_type ty.Bool ≡ true
value-Bool = type_fold is_value_step BoolF _ rolls-Bool

plain_value : (l : Letters) → AreValues l → (s : Scheme) → is_plain s ≡ true → is_value_type (type_of_scheme l s) ≡ true
plain_value l v alpha h = v.alpha
plain_value l v beta h = v.beta
plain_value l v gamma h = v.gamma
plain_value l v delta h = v.delta
plain_value l v integer h = value-Int
plain_value l v boolean h = value-Bool
plain_value l v truth h = let no : ⊥ = cc in absurd no
plain_value l v (power s) h = value-Pow (type_of_scheme l s) ∙ plain_value l v s h
plain_value l v (pair s t) h =
    value-Pair (type_of_scheme l s) (type_of_scheme l t) ∙ both_true _ _ (plain_value l v s (first_true (is_plain s) (is_plain t) h)) (plain_value l v t (second_true (is_plain s) (is_plain t) h))

abbrev IsSort : Ty → Type 0
IsSort t = (t ≡ ty.Truth) ⊎ (is_value_type t ≡ true)

instance_is : {operands : List Scheme} (whole : Scheme) {types : List Ty} {t : Ty} → IsFine whole → IsSchemeInstance operands whole types t → IsSort t
instance_is whole fine is = elim fine [
  | inl e ↦ inl (is.whole_is ∙ ap (type_of_scheme is.letters) e)
  | inr p ↦ inr (ap is_value_type is.whole_is ∙ plain_value is.letters is.values whole p)
]

abbrev HasSort : Formula → Type 0
HasSort f = is_well f ≡ true → IsSort (type_of f)

pub well_sort : (f : Formula) → HasSort f
well_sort = formula_induction HasSort
    (λ n h. inr (ap is_value_type (type-Int n) ∙ value-Int))
    (λ name t h. inr (ap is_value_type (type-Free name t) ∙ sym (well-Free name t []) ∙ h))
    (λ i t h. let no : false ≡ true = sym (well-Bound i t []) ∙ h in absurd cc)
    (λ op parts t each h. subst IsSort (sym (type-Node op parts t))
    (instance_is (result_scheme (row_of op)) (row_fine (row_of op)) ((fits_exactly (row_of op) (map type_of parts) t).0 (second_true _ _ (sym (well-Node op parts t []) ∙ h)))))
    (λ b types parts t each h. subst IsSort (sym (type-Bind b types parts t))
    (instance_is (binder_scheme b) (binder_fine b)
    ((binder_fits_exactly b (map type_of parts) t).0 (second_true _ _ (first_true _ _ (sym (well-Bind b types parts t []) ∙ h))))))

-- the members of a set are values
pub set_values : (f : Formula) → is_well f ≡ true → is_some (members (type_of f)) ≡ true → if_set (type_of f) is_value_type ≡ true
set_values f w h =
    let go : (o : Option Ty) → members (type_of f) ≡ o → is_some o ≡ true → if_set (type_of f) is_value_type ≡ true = elim [
      | None ↦ λ e k. let no : ⊥ = cc in absurd no
      | Some s ↦ λ e k.
          let set = if_set_is (type_of f) (λ u. true) (ap (λ o. option_map_or (λ u. true) o false) e) in
          elim (well_sort f w) [
            | inl t ↦ let no : None ≡ Some s = sym (ap members_at outs-Truth) ∙ sym (ap members t) ∙ e in absurd cc
            | inr v ↦ ap (λ t. if_set t is_value_type) set.1 ∙ at_set set.0 is_value_type ∙ sym (value-Pow set.0) ∙ sym (ap is_value_type set.1) ∙ v
          ]
    ] in
    go (members (type_of f)) refl h
