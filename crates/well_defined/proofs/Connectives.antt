-- What ⊤ has and each connective keeps is kept by all that a condition adds.
use Rattle.std.proofs.Common.{◌≡◌, refl, Bool, true, false, List, [], ◌∷◌, fold, if◌then◌else◌}
use Rattle.std.specs.List.{AllByRecursion}
use Rattle.formula_core.specs.declared.op.Op.{Op}
use Rattle.formula_core.specs.declared.op.Op.TheVariants as op
use Rattle.formula_core.specs.declared.row.Row.TheVariants.{Binary}
use Rattle.formula_core.specs.declared.row.BinaryRow.TheVariants.{Connective}
use Rattle.formula_core.specs.declared.formula.Formula.{Formula}
use Rattle.formula_core.specs.Rows.{row_of}
use Rattle.well_defined.specs.Predicates.{predicate, top, conjunction, implication, disjunction}
use Rattle.well_defined.specs.Connectives.{is_top, conjoined, implied, alternative}
use Rattle.well_defined.specs.Conditions.{second_guarded, operands_condition}

module _ (P : Formula → Type 0) (at_top : P top) (connected : (o : Op) → row_of o ≡ Binary Connective → (p q : Formula) → P p → P q → P (predicate o (p ∷ q ∷ []))) where
  conjoined_at : (p q : Formula) (a b : Bool) → P p → P q → P (if a then q else (if b then p else conjunction p q))
  conjoined_at p q true b g h = h
  conjoined_at p q false true g h = g
  conjoined_at p q false false g h = connected op.And refl p q g h

  pub conjoined_keeps : (p q : Formula) → P p → P q → P (conjoined p q)
  conjoined_keeps p q = conjoined_at p q (is_top p) (is_top q)

  implied_at : (p q : Formula) (a b : Bool) → P p → P q → P (if a then top else (if b then q else implication p q))
  implied_at p q true b g h = at_top
  implied_at p q false true g h = h
  implied_at p q false false g h = connected op.Implies refl p q g h

  pub implied_keeps : (p q : Formula) → P p → P q → P (implied p q)
  implied_keeps p q = implied_at p q (is_top q) (is_top p)

  alternative_at : (p q : Formula) (a b : Bool) → P p → P q → P (if a then top else (if b then top else disjunction p q))
  alternative_at p q true b g h = at_top
  alternative_at p q false true g h = at_top
  alternative_at p q false false g h = connected op.Or refl p q g h

  pub alternative_keeps : (p q : Formula) → P p → P q → P (alternative p q)
  alternative_keeps p q = alternative_at p q (is_top p) (is_top q)

  all_keep : (conditions : List Formula) (first : Formula) → AllByRecursion P conditions → P first → P (fold conjoined first conditions)
  all_keep [] first each h = h
  all_keep (l ∷ conditions) first each h = all_keep conditions (conjoined first l) each.1 (conjoined_keeps first l h each.0)

  second_keeps : (o : Op) (p l m : Formula) → (row_of o ≡ Binary Connective → P p) → P l → P m → P (second_guarded o p l m)
  second_keeps op.And p l m has g h = conjoined_keeps l (implied p m) g (implied_keeps p m (has refl) h)
  second_keeps op.Implies p l m has g h = conjoined_keeps l (implied p m) g (implied_keeps p m (has refl) h)
  second_keeps op.Or p l m has g h = conjoined_keeps l (alternative p m) g (alternative_keeps p m (has refl) h)
  second_keeps _ p l m has g h = conjoined_keeps l m g h

  pub operands_keep : (o : Op) (parts conditions : List Formula) → (row_of o ≡ Binary Connective → AllByRecursion P parts) → AllByRecursion P conditions → P (operands_condition o parts conditions)
  operands_keep o (p ∷ q ∷ []) (l ∷ m ∷ []) has each = second_keeps o p l m (λ e. (has e).0) each.0 each.1.0
  operands_keep o parts conditions has each = all_keep conditions top each at_top
