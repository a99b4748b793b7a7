-- The laws of logic keep types.
use Rattle.std.proofs.Common.{◌≡◌, ◌∙◌, sym, ap, refl, List, [], ◌∷◌, ◌++◌, map, reverse, Option, IfSome}
use Rattle.formula_core.specs.declared.Binder.{Binder}
use Rattle.formula_core.specs.declared.Binder.TheVariants as binder
use Rattle.formula_core.specs.declared.Op.TheVariants as op
use Rattle.formula_core.specs.declared.Ty.{Ty}
use Rattle.formula_core.specs.declared.Ty.TheVariants as ty
use Rattle.formula_core.specs.declared.Formula.{Formula}
use Rattle.formula_core.specs.declared.row.NullaryRow.TheVariants as nullary
use Rattle.formula_core.specs.declared.row.UnaryRow.TheVariants as unary
use Rattle.formula_core.specs.declared.row.BinaryRow.TheVariants as binary
use Rattle.formula_core.specs.Schemes.{type_of_scheme, part_schemes}
use Rattle.rule_table.specs.LogicLaws.{double_negation, negated_and, negated_or, negated_implies, negated_equivalent, negated_for_all, negated_exists, bool_is_true, bool_is_false, equal_turned}
use Rattle.rule_table.specs.Shapes.{negation}
use Rattle.made_rules.proofs.Typed.{Env, Is}
use Rattle.made_rules.proofs.Forms.{retyped, OpenedBinder}
use Rattle.made_rules.proofs.Makers.{not_is, and_is, or_is, equivalent_is, equal_is, quantified_is}
use Rattle.made_rules.proofs.Operands.{on_none_if, on_one_if, on_two_if, under_binder_if, head_is}

-- the body of a quantifier
pub body_is : (env : Env) (bound : List Ty) (b : Binder) → part_schemes b ≡ part_schemes binder.ForAll → (types : List Ty) (p : Formula) (t : Ty)
    → OpenedBinder env bound b types (p ∷ []) t → Is env (reverse types ++ bound) ty.Truth p
body_is env bound b s types p t w = retyped env (reverse types ++ bound) _ ty.Truth p (head_is _ _ _ _ (w.fit.operands_are ∙ ap (map (type_of_scheme w.fit.letters)) s)) w.inner.0

module _ (env : Env) (bound : List Ty) (t : Ty) (f : Formula) (h : Is env bound t f) where
  abbrev Kept : Option Formula → Type 0
  Kept o = IfSome o (Is env bound t)

  truth_is : (g : Formula) → t ≡ ty.Truth → Is env bound ty.Truth g → Is env bound t g
  truth_is g e k = retyped env bound ty.Truth t g (sym e) k

  pub double_negation_is : Kept (double_negation f)
  double_negation_is =
      on_one_if env bound (Is env bound t) t f h op.Not unary.Negation refl _ (λ g v.
      on_one_if env bound (Is env bound t) ty.Truth g v.part op.Not unary.Negation refl _ (λ p w. truth_is p v.whole w.part))

  pub negated_and_is : Kept (negated_and f)
  negated_and_is =
      on_one_if env bound (Is env bound t) t f h op.Not unary.Negation refl _ (λ g v.
      on_two_if env bound (Is env bound t) ty.Truth g v.part op.And binary.Connective refl _ (λ p q w.
      truth_is _ v.whole (or_is env bound _ _ (not_is env bound p w.left) (not_is env bound q w.right))))

  pub negated_or_is : Kept (negated_or f)
  negated_or_is =
      on_one_if env bound (Is env bound t) t f h op.Not unary.Negation refl _ (λ g v.
      on_two_if env bound (Is env bound t) ty.Truth g v.part op.Or binary.Connective refl _ (λ p q w.
      truth_is _ v.whole (and_is env bound _ _ (not_is env bound p w.left) (not_is env bound q w.right))))

  pub negated_implies_is : Kept (negated_implies f)
  negated_implies_is =
      on_one_if env bound (Is env bound t) t f h op.Not unary.Negation refl _ (λ g v.
      on_two_if env bound (Is env bound t) ty.Truth g v.part op.Implies binary.Connective refl _ (λ p q w.
      truth_is _ v.whole (and_is env bound _ _ w.left (not_is env bound q w.right))))

  pub negated_equivalent_is : Kept (negated_equivalent f)
  negated_equivalent_is =
      on_one_if env bound (Is env bound t) t f h op.Not unary.Negation refl _ (λ g v.
      on_two_if env bound (Is env bound t) ty.Truth g v.part op.Equivalent binary.Connective refl _ (λ p q w.
      truth_is _ v.whole (equivalent_is env bound _ _ w.left (not_is env bound q w.right))))

  pub negated_for_all_is : Kept (negated_for_all f)
  negated_for_all_is =
      on_one_if env bound (Is env bound t) t f h op.Not unary.Negation refl _ (λ g v.
      under_binder_if env bound (Is env bound t) ty.Truth g v.part binder.ForAll _ (λ types p w.
      truth_is _ v.whole (quantified_is env bound binder.Exists refl refl types w.may w.own (negation p)
      (not_is env (reverse types ++ bound) p (body_is env bound binder.ForAll refl types p ty.Truth w)))))

  pub negated_exists_is : Kept (negated_exists f)
  negated_exists_is =
      on_one_if env bound (Is env bound t) t f h op.Not unary.Negation refl _ (λ g v.
      under_binder_if env bound (Is env bound t) ty.Truth g v.part binder.Exists _ (λ types p w.
      truth_is _ v.whole (quantified_is env bound binder.ForAll refl refl types w.may w.own (negation p)
      (not_is env (reverse types ++ bound) p (body_is env bound binder.Exists refl types p ty.Truth w)))))

  pub bool_is_true_is : Kept (bool_is_true f)
  bool_is_true_is =
      on_two_if env bound (Is env bound t) t f h op.Equal binary.Equality refl _ (λ e u v.
      on_one_if env bound (Is env bound t) v.letters.alpha e v.left op.BoolOf unary.TruthOf refl _ (λ p w.
      on_none_if env bound (Is env bound t) v.letters.alpha u v.right op.TrueValue nullary.TruthValue refl _ (λ n. truth_is p v.whole w.part)))

  pub bool_is_false_is : Kept (bool_is_false f)
  bool_is_false_is =
      on_two_if env bound (Is env bound t) t f h op.Equal binary.Equality refl _ (λ e u v.
      on_one_if env bound (Is env bound t) v.letters.alpha e v.left op.BoolOf unary.TruthOf refl _ (λ p w.
      on_none_if env bound (Is env bound t) v.letters.alpha u v.right op.FalseValue nullary.TruthValue refl _ (λ n. truth_is _ v.whole (not_is env bound p w.part))))

  pub equal_turned_is : Kept (equal_turned f)
  equal_turned_is =
      on_two_if env bound (Is env bound t) t f h op.Equal binary.Equality refl _ (λ e g v.
      truth_is _ v.whole (equal_is env bound v.letters.alpha v.values.alpha g e v.right v.left))
