-- Formulas that are put together of typed ones are typed.
use Rattle.std.proofs.Common.{◌≡◌, ◌∙◌, sym, ap, subst, refl, ℕ, pos, true, List, [], ◌∷◌, ◌++◌, map, reverse, length}
use Rattle.std.specs.List.{AllByRecursion}
use Rattle.formula_core.specs.declared.Binder.{Binder}
use Rattle.formula_core.specs.declared.Binder.TheVariants as binder
use Rattle.formula_core.specs.declared.Op.{Op}
use Rattle.formula_core.specs.declared.Op.TheVariants as op
use Rattle.formula_core.specs.declared.Ty.{Ty}
use Rattle.formula_core.specs.declared.Ty.TheVariants as ty
use Rattle.formula_core.specs.declared.Formula.{Formula}
use Rattle.formula_core.specs.declared.Formula.TheVariants as formula
use Rattle.formula_core.specs.declared.row.Row.TheVariants.{Nullary, Unary, Binary}
use Rattle.formula_core.specs.declared.row.NullaryRow.{NullaryRow}
use Rattle.formula_core.specs.declared.row.NullaryRow.TheVariants as nullary
use Rattle.formula_core.specs.declared.row.UnaryRow.{UnaryRow}
use Rattle.formula_core.specs.declared.row.UnaryRow.TheVariants as unary
use Rattle.formula_core.specs.declared.row.BinaryRow.{BinaryRow}
use Rattle.formula_core.specs.declared.row.BinaryRow.TheVariants as binary
use Rattle.formula_core.specs.Formulas.{joined}
use Rattle.formula_core.specs.Identifiers.{carriers}
use Rattle.formula_core.specs.Rows.{row_of}
use Rattle.formula_core.specs.Schemes.{IsSchemeInstance, Letters, AreValues, type_of_scheme, operand_schemes, result_scheme, nullary_scheme, unary_scheme, binary_scheme, part_schemes, binder_scheme}
use Rattle.formula_core.specs.Shifting.{shifted}
use Rattle.formula_core.specs.Typed.{Stands}
use Rattle.formula_core.specs.Types.{is_value_type}
use Rattle.formula_core.specs.Wellness.{may_be_bound}
use Rattle.formula_core.proofs.Equations.{carriers-Pow, carriers-Pair}
use Rattle.formula_core.proofs.Keeping.{front, back, both, carriers-Int, carriers-Bool, carriers-Truth, identifiers-Int, shifted_keeps}
use Rattle.formula_core.proofs.RenumberedWell.{shifted_is_well}
use Rattle.formula_core.proofs.Schemes.{value-Int}
use Rattle.formula_core.proofs.Wellness.{well-Int}
use Rattle.well_defined.specs.Predicates.{predicate, top, conjunction, implication, disjunction, at_most, less, member, finite, quantified}
use Rattle.well_defined.proofs.Types.{type-Int}
use Rattle.rule_table.specs.Shapes.{negation, equivalence, equal, bottom, true_value, false_value, cardinality}
use Rattle.made_rules.proofs.Typed.{Env, Carried, Is}
use Rattle.made_rules.proofs.Forms.{node_is, bind_is}

-- types for letters, where some don't matter
abbrev pub lettered : Ty → Ty → Letters
lettered a b = record { alpha = a; beta = b; gamma = ty.Int; delta = ty.Int }

pub values_of : (a b : Ty) → is_value_type a ≡ true → is_value_type b ≡ true → AreValues (lettered a b)
values_of a b v w = record { alpha = v; beta = w; gamma = value-Int; delta = value-Int }

abbrev pub no_letters : Letters
no_letters = lettered ty.Int ty.Int

pub no_values : AreValues no_letters
no_values = values_of ty.Int ty.Int value-Int value-Int

module _ (env : Env) where
  pub carried_truth : Carried env ty.Truth
  carried_truth = subst (AllByRecursion (Stands env)) (sym carriers-Truth) tt

  pub carried_integer : Carried env ty.Int
  carried_integer = subst (AllByRecursion (Stands env)) (sym carriers-Int) tt

  pub carried_boolean : Carried env ty.Bool
  carried_boolean = subst (AllByRecursion (Stands env)) (sym carriers-Bool) tt

  pub carried_set : (t : Ty) → Carried env t → Carried env (ty.Pow t)
  carried_set t = subst (AllByRecursion (Stands env)) (sym (carriers-Pow t))

  pub carried_members : (t : Ty) → Carried env (ty.Pow t) → Carried env t
  carried_members t = subst (AllByRecursion (Stands env)) (carriers-Pow t)

  pub carried_pair : (t u : Ty) → Carried env t → Carried env u → Carried env (ty.Pair t u)
  carried_pair t u a b = subst (AllByRecursion (Stands env)) (sym (carriers-Pair t u)) (both (Stands env) (carriers t) (carriers u) a b)

  pub carried_left : (t u : Ty) → Carried env (ty.Pair t u) → Carried env t
  carried_left t u a = front (Stands env) (carriers t) (carriers u) (subst (AllByRecursion (Stands env)) (carriers-Pair t u) a)

  pub carried_right : (t u : Ty) → Carried env (ty.Pair t u) → Carried env u
  carried_right t u a = back (Stands env) (carriers t) (carriers u) (subst (AllByRecursion (Stands env)) (carriers-Pair t u) a)

  module _ (bound : List Ty) where
    -- an operator of a row
    pub none_is : (o : Op) (row : NullaryRow) → row_of o ≡ Nullary row → (l : Letters) → AreValues l → Carried env (type_of_scheme l (nullary_scheme row))
        → Is env bound (type_of_scheme l (nullary_scheme row)) (formula.Node o [] (type_of_scheme l (nullary_scheme row)))
    none_is o row r l v c = node_is env bound o [] [] (type_of_scheme l (nullary_scheme row)) tt
        (subst (λ x. IsSchemeInstance (operand_schemes x 0) (result_scheme x) [] (type_of_scheme l (nullary_scheme row))) (sym r)
        (record { letters = l; values = v; operands_are = refl; whole_is = refl })) c

    pub one_is : (o : Op) (row : UnaryRow) → row_of o ≡ Unary row → (l : Letters) → AreValues l → (p : Formula) → Is env bound (type_of_scheme l (unary_scheme row).0) p
        → Carried env (type_of_scheme l (unary_scheme row).1) → Is env bound (type_of_scheme l (unary_scheme row).1) (formula.Node o (p ∷ []) (type_of_scheme l (unary_scheme row).1))
    one_is o row r l v p h c = node_is env bound o (type_of_scheme l (unary_scheme row).0 ∷ []) (p ∷ []) (type_of_scheme l (unary_scheme row).1) (h, tt)
        (subst (λ x. IsSchemeInstance (operand_schemes x 1) (result_scheme x) (type_of_scheme l (unary_scheme row).0 ∷ []) (type_of_scheme l (unary_scheme row).1)) (sym r)
        (record { letters = l; values = v; operands_are = refl; whole_is = refl })) c

    pub two_are : (o : Op) (row : BinaryRow) → row_of o ≡ Binary row → (l : Letters) → AreValues l → (p q : Formula) → Is env bound (type_of_scheme l (binary_scheme row).0) p
        → Is env bound (type_of_scheme l (binary_scheme row).1) q → Carried env (type_of_scheme l (binary_scheme row).2)
        → Is env bound (type_of_scheme l (binary_scheme row).2) (formula.Node o (p ∷ q ∷ []) (type_of_scheme l (binary_scheme row).2))
    two_are o row r l v p q g h c =
        node_is env bound o (type_of_scheme l (binary_scheme row).0 ∷ type_of_scheme l (binary_scheme row).1 ∷ []) (p ∷ q ∷ []) (type_of_scheme l (binary_scheme row).2) (g, (h, tt))
        (subst (λ x. IsSchemeInstance (operand_schemes x 2) (result_scheme x) (type_of_scheme l (binary_scheme row).0 ∷ type_of_scheme l (binary_scheme row).1 ∷ []) (type_of_scheme l (binary_scheme row).2)) (sym r)
        (record { letters = l; values = v; operands_are = refl; whole_is = refl })) c

    abbrev pub Holds : Formula → Type 0
    Holds = Is env bound ty.Truth

    -- predicates
    pub top_is : Holds top
    top_is = none_is op.Top nullary.Predicate refl no_letters no_values carried_truth

    pub bottom_is : Holds bottom
    bottom_is = none_is op.Bottom nullary.Predicate refl no_letters no_values carried_truth

    pub not_is : (p : Formula) → Holds p → Holds (negation p)
    not_is p h = one_is op.Not unary.Negation refl no_letters no_values p h carried_truth

    pub connected_are : (o : Op) → row_of o ≡ Binary binary.Connective → (p q : Formula) → Holds p → Holds q → Holds (predicate o (p ∷ q ∷ []))
    connected_are o r p q g h = two_are o binary.Connective r no_letters no_values p q g h carried_truth

    pub and_is : (p q : Formula) → Holds p → Holds q → Holds (conjunction p q)
    and_is = connected_are op.And refl

    pub or_is : (p q : Formula) → Holds p → Holds q → Holds (disjunction p q)
    or_is = connected_are op.Or refl

    pub implies_is : (p q : Formula) → Holds p → Holds q → Holds (implication p q)
    implies_is = connected_are op.Implies refl

    pub equivalent_is : (p q : Formula) → Holds p → Holds q → Holds (equivalence p q)
    equivalent_is = connected_are op.Equivalent refl

    pub equal_is : (t : Ty) → is_value_type t ≡ true → (e f : Formula) → Is env bound t e → Is env bound t f → Holds (equal e f)
    equal_is t v e f g h = two_are op.Equal binary.Equality refl (lettered t ty.Int) (values_of t ty.Int v value-Int) e f g h carried_truth

    pub member_is : (t : Ty) → is_value_type t ≡ true → (e s : Formula) → Is env bound t e → Is env bound (ty.Pow t) s → Holds (member e s)
    member_is t v e s g h = two_are op.Member binary.Membership refl (lettered t ty.Int) (values_of t ty.Int v value-Int) e s g h carried_truth

    pub compared_are : (o : Op) → row_of o ≡ Binary binary.Comparison → (e f : Formula) → Is env bound ty.Int e → Is env bound ty.Int f → Holds (predicate o (e ∷ f ∷ []))
    compared_are o r e f g h = two_are o binary.Comparison r no_letters no_values e f g h carried_truth

    pub at_most_is : (e f : Formula) → Is env bound ty.Int e → Is env bound ty.Int f → Holds (at_most e f)
    at_most_is = compared_are op.LessOrEqual refl

    pub less_is : (e f : Formula) → Is env bound ty.Int e → Is env bound ty.Int f → Holds (less e f)
    less_is = compared_are op.Less refl

    pub finite_is : (t : Ty) → is_value_type t ≡ true → (s : Formula) → Is env bound (ty.Pow t) s → Holds (finite s)
    finite_is t v s h = one_is op.Finite unary.Finiteness refl (lettered t ty.Int) (values_of t ty.Int v value-Int) s h carried_truth

    pub quantified_is : (b : Binder) → part_schemes b ≡ part_schemes binder.ForAll → binder_scheme b ≡ binder_scheme binder.ForAll → (types : List Ty) → may_be_bound types ≡ true
        → AllByRecursion (Stands env) (joined (map carriers types)) → (p : Formula) → Is env (reverse types ++ bound) ty.Truth p → Holds (quantified b types p)
    quantified_is b s w types may own p h = bind_is env bound b types (ty.Truth ∷ []) (p ∷ []) ty.Truth may own (h, tt)
        (record { letters = no_letters; values = no_values; operands_are = ap (map (type_of_scheme no_letters)) (sym s); whole_is = ap (type_of_scheme no_letters) (sym w) }) carried_truth

    -- integers
    pub integer_is : (n : ℕ) → Is env bound ty.Int (formula.Int (pos n))
    integer_is n = record { type = type-Int (pos n); well = well-Int (pos n) bound; names = subst (AllByRecursion (Stands env)) (sym (identifiers-Int (pos n))) tt }

    pub calculated_is : (o : Op) → row_of o ≡ Binary binary.Arithmetic → (e f : Formula) → Is env bound ty.Int e → Is env bound ty.Int f
        → Is env bound ty.Int (formula.Node o (e ∷ f ∷ []) ty.Int)
    calculated_is o r e f g h = two_are o binary.Arithmetic r no_letters no_values e f g h carried_integer

    pub negative_is : (e : Formula) → Is env bound ty.Int e → Is env bound ty.Int (formula.Node op.Negate (e ∷ []) ty.Int)
    negative_is e h = one_is op.Negate unary.Opposite refl no_letters no_values e h carried_integer

    pub cardinality_is : (t : Ty) → is_value_type t ≡ true → (s : Formula) → Is env bound (ty.Pow t) s → Is env bound ty.Int (cardinality s)
    cardinality_is t v s h = one_is op.Cardinality unary.Cardinality refl (lettered t ty.Int) (values_of t ty.Int v value-Int) s h carried_integer

    -- truth values
    pub true_is : Is env bound ty.Bool true_value
    true_is = none_is op.TrueValue nullary.TruthValue refl no_letters no_values carried_boolean

    pub false_is : Is env bound ty.Bool false_value
    false_is = none_is op.FalseValue nullary.TruthValue refl no_letters no_values carried_boolean

    -- a formula below more bound identifiers
    pub moved_is : (new : List Ty) (t : Ty) (f : Formula) → Is env bound t f → Is env (new ++ bound) t (shifted (length new) 0 f)
    moved_is new t f h =
        let w = shifted_is_well new f [] bound h.well in
        record { type = w.0 ∙ h.type; well = w.1; names = shifted_keeps (Stands env) (length new) f 0 h.names }
