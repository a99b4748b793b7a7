-- The laws of logic, from the left side to the right side.
use Rattle.std.specs.Prelude.{Option, Some}
use Rattle.formula_core.specs.declared.Op.TheVariants.{Not, And, Or, Implies, Equivalent, Equal, BoolOf, TrueValue, FalseValue}
use Rattle.formula_core.specs.declared.Binder.TheVariants.{ForAll, Exists}
use Rattle.formula_core.specs.declared.Formula.{Formula}
use Rattle.well_defined.specs.Predicates.{conjunction, disjunction, quantified}
use Rattle.rule_table.specs.Shapes.{on_one, on_two, on_none, under_binder, negation, equivalence, equal}

-- ¬¬P: P
abbrev pub double_negation : Formula → Option Formula
double_negation f = on_one Not f (λ g. on_one Not g Some)

-- ¬(P ∧ Q): ¬P ∨ ¬Q
abbrev pub negated_and : Formula → Option Formula
negated_and f = on_one Not f (λ g. on_two And g (λ p q. Some (disjunction (negation p) (negation q))))

-- ¬(P ∨ Q): ¬P ∧ ¬Q
abbrev pub negated_or : Formula → Option Formula
negated_or f = on_one Not f (λ g. on_two Or g (λ p q. Some (conjunction (negation p) (negation q))))

-- ¬(P ⇒ Q): P ∧ ¬Q
abbrev pub negated_implies : Formula → Option Formula
negated_implies f = on_one Not f (λ g. on_two Implies g (λ p q. Some (conjunction p (negation q))))

-- ¬(P ⇔ Q): P ⇔ ¬Q
abbrev pub negated_equivalent : Formula → Option Formula
negated_equivalent f = on_one Not f (λ g. on_two Equivalent g (λ p q. Some (equivalence p (negation q))))

-- ¬(∀x·P): ∃x·¬P
abbrev pub negated_for_all : Formula → Option Formula
negated_for_all f = on_one Not f (λ g. under_binder ForAll g (λ types p. Some (quantified Exists types (negation p))))

-- ¬(∃x·P): ∀x·¬P
abbrev pub negated_exists : Formula → Option Formula
negated_exists f = on_one Not f (λ g. under_binder Exists g (λ types p. Some (quantified ForAll types (negation p))))

-- bool(P) = TRUE: P
abbrev pub bool_is_true : Formula → Option Formula
bool_is_true f = on_two Equal f (λ e t. on_one BoolOf e (λ p. on_none TrueValue t (Some p)))

-- bool(P) = FALSE: ¬P
abbrev pub bool_is_false : Formula → Option Formula
bool_is_false f = on_two Equal f (λ e t. on_one BoolOf e (λ p. on_none FalseValue t (Some (negation p))))

-- E = F: F = E
abbrev pub equal_turned : Formula → Option Formula
equal_turned f = on_two Equal f (λ e g. Some (equal g e))
