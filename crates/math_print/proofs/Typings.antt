-- The places of names don't matter to typings.
use Rattle.std.proofs.Common.{◌≡◌, ◌∙◌, sym, ap, subst, refl, ℕ, suc, true, List, [], ◌∷◌, ◌++◌, length, Option, Some}
use Rattle.std.specs.Prelude.{IsTrue}
use Rattle.formula_core.specs.declared.ty.Ty.{Ty}
use Rattle.formula_core.specs.declared.formula.Formula.{Formula}
use Rattle.formula_core.specs.declared.formula.Formula.TheVariants as formula
use Rattle.formula_core.specs.Types.{is_value_type}
use Rattle.formula_core.specs.Rows.{row_of}
use Rattle.formula_core.specs.Schemes.{truth, operand_schemes, result_scheme, part_schemes, binder_scheme, IsSchemeInstance}
use Rattle.type_formula.specs.Bare.{Bare, Bares, BareBounds, Number, Identifier, Form, Partition, Binding, Ascribed, Broken, nothing, more, unbound, plain, typed, part_count, has_names}
use Rattle.type_formula.specs.Scopes.{Scope, with_names}
use Rattle.type_formula.specs.TypeExpressions.{denoted, denoted_form, all_denoted}
use Rattle.type_formula.specs.Partition.{partition_schemes, partition_of}
use Rattle.type_formula.specs.Typings.{AreBound, Types, AllTyped}
use Rattle.type_formula.specs.Answers.{IsTypedAs, IsExpected, AreValueTypes, paired}
use Rattle.math_print.proofs.BarePlaces.{unplaced_bare, unplaced_bares, unplaced_bounds}

same_count : (bs : Bares) → part_count (unplaced_bares bs) ≡ part_count bs
same_count nothing = refl
same_count (more b bs) = ap suc (same_count bs)

pub same_has : (names : BareBounds) → has_names (unplaced_bounds names) ≡ has_names names
same_has unbound = refl
same_has (plain x names) = refl
same_has (typed x t names) = refl

same_scope : {A : Type 0} → (names : BareBounds) (ts : List A) (scope : Scope A) → with_names (unplaced_bounds names) ts scope ≡ with_names names ts scope
same_scope unbound ts scope = refl
same_scope (plain x names) [] scope = refl
same_scope (plain x names) (t ∷ ts) scope = same_scope names ts ((x, t) ∷ scope)
same_scope (typed x u names) [] scope = refl
same_scope (typed x u names) (t ∷ ts) scope = same_scope names ts ((x, t) ∷ scope)

mutual
  pub same_denoted : {A : Type 0} → (env : List (List ℕ × Ty)) (bound : Scope A) (b : Bare) → denoted env bound (unplaced_bare b) ≡ denoted env bound b
  same_denoted env bound (Identifier x place) = refl
  same_denoted env bound (Form o parts) = ap (denoted_form o) (all_same_denoted env bound parts)
  same_denoted env bound (Number n) = refl
  same_denoted env bound (Partition parts) = refl
  same_denoted env bound (Binding b names parts) = refl
  same_denoted env bound (Ascribed e t) = refl
  same_denoted env bound (Broken parts) = refl

  all_same_denoted : {A : Type 0} → (env : List (List ℕ × Ty)) (bound : Scope A) (bs : Bares) → all_denoted env bound (unplaced_bares bs) ≡ all_denoted env bound bs
  all_same_denoted env bound nothing = refl
  all_same_denoted env bound (more b bs) = λ i. same_denoted env bound b i ∷ all_same_denoted env bound bs i

module _ (env : List (List ℕ × Ty)) where
  same_bound : (outer : Scope Ty) (names : BareBounds) → AreBound env outer (unplaced_bounds names) ≡ AreBound env outer names
  same_bound outer unbound = refl
  same_bound outer (plain x names) = λ i ts. (t : Ty) × (rest : List Ty) × IsTrue (is_value_type t) × same_bound outer names i rest × (ts ≡ t ∷ rest)
  same_bound outer (typed x written names) = λ i ts. (t : Ty) × (rest : List Ty) × (same_denoted env outer written i ≡ Some t) × same_bound outer names i rest × (ts ≡ t ∷ rest)

  mutual
    pub same_types : (bound free : Scope Ty) (b : Bare) → Types env bound free (unplaced_bare b) ≡ Types env bound free b
    same_types bound free (Number n) = refl
    same_types bound free (Identifier x place) = refl
    same_types bound free (Form op parts) = λ i f t.
        (fs : List Formula) × (types : List Ty) × all_same_types bound free parts i fs types
        × IsSchemeInstance (operand_schemes (row_of op) (same_count parts i)) (result_scheme (row_of op)) types t × (f ≡ formula.Node op fs t)
    same_types bound free (Partition parts) = λ i f t.
        (fs : List Formula) × (types : List Ty) × all_same_types bound free parts i fs types
        × IsSchemeInstance (partition_schemes (same_count parts i)) truth types t × (f ≡ partition_of fs)
    same_types bound free (Binding binder names parts) =
        (λ i f t. (ts : List Ty) × same_bound bound names i ts × (same_has names i ≡ true)
        × (fs : List Formula) × (types : List Ty) × AllTyped env (same_scope names ts bound i) free (unplaced_bares parts) fs types
        × IsSchemeInstance (part_schemes binder) (binder_scheme binder) types t × (f ≡ formula.Bind binder ts fs t))
        ∙ (λ i f t. (ts : List Ty) × AreBound env bound names ts × (has_names names ≡ true)
        × (fs : List Formula) × (types : List Ty) × all_same_types (with_names names ts bound) free parts i fs types
        × IsSchemeInstance (part_schemes binder) (binder_scheme binder) types t × (f ≡ formula.Bind binder ts fs t))
    same_types bound free (Ascribed e written) = λ i f t. (same_denoted env bound written i ≡ Some t) × same_types bound free e i f t
    same_types bound free (Broken parts) = refl

    all_same_types : (bound free : Scope Ty) (bs : Bares) → AllTyped env bound free (unplaced_bares bs) ≡ AllTyped env bound free bs
    all_same_types bound free nothing = refl
    all_same_types bound free (more b bs) = λ i fs ts.
        (f : Formula) × (rest : List Formula) × (t : Ty) × (others : List Ty)
        × same_types bound free b i f t × all_same_types bound free bs i rest others × (fs ≡ f ∷ rest) × (ts ≡ t ∷ others)

module _ (env : List (List ℕ × Ty)) (wanted : List (List ℕ)) (b : Bare) (expected : Option Ty) where
  same_typed : IsTypedAs env wanted (unplaced_bare b) expected ≡ IsTypedAs env wanted b expected
  same_typed = λ i f.
      (ts : List Ty) × AreValueTypes ts × (length ts ≡ length wanted)
      × (t : Ty) × IsExpected expected t × same_types env [] (env ++ paired wanted ts) b i f t

  pub placed : (f : Formula) → IsTypedAs env wanted (unplaced_bare b) expected f → IsTypedAs env wanted b expected f
  placed f h = subst (λ (T : Formula → Type 0). T f) same_typed h

  pub without_places : (f : Formula) → IsTypedAs env wanted b expected f → IsTypedAs env wanted (unplaced_bare b) expected f
  without_places f h = subst (λ (T : Formula → Type 0). T f) (sym same_typed) h
